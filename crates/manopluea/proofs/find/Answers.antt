-- `manopluea::find` meets its contract.
use Rattle.stand.specs.Reply.{found_reply}
use Rattle.manopluea.proofs.Numbered.{said_twice}
use Rattle.manopluea.proofs.find.Goals as goal

pub returns : goal.returns
returns c = let parts = said_twice found_reply c.find.ensures in
    record { answer = parts.0; numbers = parts.1 }
