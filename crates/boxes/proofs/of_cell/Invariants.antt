use Rattle.face.specs.Tables.{tables}
use Rattle.boxes.proofs.Cells.{Holding}
use Rattle.boxes.proofs.of_cell.Given as goal

abbrev pub invariant-loop-f : goal.invariant-loop-f
invariant-loop-f l = Holding l.corners (tables l.cells) l.c l.f-end l.r l.f
