use Prim.Native.Nat.{◌-◌}
use Rattle.draw.proofs.Walked.{Walked}
use Rattle.draw.proofs.count_polygons.Given as goal

abbrev pub invariant-loop-at : goal.invariant-loop-at
invariant-loop-at g l = Walked (goal.F-post g l.number) l.m l.at l.cells l.faces

abbrev pub decreases-loop-at : goal.decreases-loop-at
decreases-loop-at g l = l.m - l.at
