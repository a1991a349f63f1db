-- `manopluea::write` meets its contract.
use Rattle.limits.specs.Reply.{checked_reply}
use Rattle.manopluea.specs.Calls.{in_numbers}
use Rattle.manopluea.proofs.Numbered.{said_twice}
use Rattle.manopluea.proofs.write.Goals as goal

pub returns : goal.returns
returns c = let parts = said_twice (in_numbers checked_reply) c.write.ensures in
    record { answer = parts.0; numbers = parts.1 }
