-- `manopluea::read` meets its contract.
use Rattle.planfile.specs.Reply.{read_numbers}
use Rattle.manopluea.specs.Calls.{in_numbers}
use Rattle.manopluea.proofs.Numbered.{said_twice}
use Rattle.manopluea.proofs.read.Goals as goal

pub returns : goal.returns
returns c = let parts = said_twice (in_numbers read_numbers) c.read.ensures in
    record { answer = parts.0; numbers = parts.1 }
