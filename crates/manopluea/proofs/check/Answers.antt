-- `manopluea::check` meets its contract.
use Rattle.limits.specs.Reply.{checked_reply}
use Rattle.manopluea.proofs.Numbered.{said_twice}
use Rattle.manopluea.proofs.check.Goals as goal

pub returns : goal.returns
returns c = let parts = said_twice checked_reply c.check.ensures in
    record { answer = parts.0; numbers = parts.1 }
