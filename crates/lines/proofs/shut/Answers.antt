-- `lines::shut` meets its contract.
use Rattle.lines.specs.Lined.{shut_line}
use Rattle.lines.proofs.shut.Goals as goal

pub returns : goal.returns
unfolding shut_line
returns c = rw (c.requires.backed.stands _ c.requires.f_bound c.requires.no_wall)
