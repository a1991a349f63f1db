use Rattle.plane.specs.Side.{point}
use Rattle.face.specs.Tables.{tables}
use Rattle.stand.proofs.Finds.{Searched}
use Rattle.stand.proofs.locate.locate.Given as goal

abbrev pub invariant-loop-c : goal.invariant-loop-c
invariant-loop-c l = Searched l.plan.corners.now (tables l.plan.cells) (point l.q) l.c l.on_border
