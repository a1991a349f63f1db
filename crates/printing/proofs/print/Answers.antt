-- `printing::print` meets its contract.
use mathlib.Core.Path.{ap}
use Rattle.manopluea.specs.Calls.{in_numbers}
use Rattle.printing.specs.Reply.{printed_reply}
use Rattle.printing.proofs.Answers.{no_room, all_printed}
use Rattle.printing.proofs.print.Goals as goal

pub returns-then-text-lt-MOST_TEXT : goal.returns-then-text-lt-MOST_TEXT
returns-then-text-lt-MOST_TEXT c = let e = no_room _ _ c.if-text-lt-MOST_TEXT.true in
    record { answer = e; numbers = ap (in_numbers printed_reply) e; within = tt }

pub returns : goal.returns
returns c = let e = all_printed _ _ c.if-text-lt-MOST_TEXT.false c.print_input-end.ensures in
    record { answer = e; numbers = ap (in_numbers printed_reply) e; within = c.print_input-end.ensures.fits }
