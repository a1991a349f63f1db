use Rattle.face.specs.Tables.{tables}
use Rattle.lines.proofs.Marks.{Marked}
use Rattle.lines.proofs.shut_doors.Given as goal

abbrev pub invariant-loop-i : goal.invariant-loop-i
invariant-loop-i l = Marked (tables l.cells) l.doors l.setting l.i l.lines
