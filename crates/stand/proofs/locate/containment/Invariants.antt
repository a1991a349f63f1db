use Rattle.plane.specs.Side.{point}
use Rattle.face.specs.Tables.{tables}
use Rattle.stand.proofs.Sides.{Passed}
use Rattle.stand.proofs.locate.containment.Given as goal

abbrev pub invariant-loop-n : goal.invariant-loop-n
invariant-loop-n l = Passed l.corners (tables l.cells) (point l.q) l.c l.n l.from l.least
