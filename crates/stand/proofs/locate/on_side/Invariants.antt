use Rattle.plane.specs.Side.{point}
use Rattle.face.specs.Tables.{tables}
use Rattle.stand.specs.Find.{within_free}
use Rattle.stand.proofs.Doorways.{SoughtCells}
use Rattle.stand.proofs.locate.on_side.Given as goal

abbrev pub invariant-loop-c : goal.invariant-loop-c
invariant-loop-c l = SoughtCells (within_free l.plan.corners.now (tables l.plan.cells) l.plan.doors.now l.setting (point l.q)) (tables l.plan.cells) l.c
