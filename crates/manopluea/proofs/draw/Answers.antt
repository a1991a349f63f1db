-- `manopluea::draw` meets its contract.
use Rattle.sight.specs.Reply.{listed_reply}
use Rattle.manopluea.specs.Calls.{in_numbers}
use Rattle.manopluea.proofs.Numbered.{said_twice}
use Rattle.manopluea.proofs.draw.Goals as goal

pub returns : goal.returns
returns c = let parts = said_twice (in_numbers listed_reply) c.draw.ensures in
    record { answer = parts.0; numbers = parts.1 }
