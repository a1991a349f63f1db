use Rattle.plane.specs.Side.{point}
use Rattle.sight.specs.Seen.{SeenSoFar}
use Rattle.sight.proofs.seen.see.Given as goal

abbrev pub invariant-loop-i : goal.invariant-loop-i
invariant-loop-i l = SeenSoFar l.corners (point l.q) l.i l.seen
