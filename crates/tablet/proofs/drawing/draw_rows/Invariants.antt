use Rattle.plane.specs.Side.{point}
use Rattle.tablet.proofs.Rows.{Draws}
use Rattle.tablet.proofs.drawing.draw_rows.Given as goal

abbrev pub invariant-loop-i : goal.invariant-loop-i
invariant-loop-i l = Draws l.corners (point l.q) l.table l.n l.initial.offsets l.offsets l.i
