use Prim.Native.Nat.{◌≤◌}
use Rattle.boxes.proofs.part.count.Given as goal

abbrev pub invariant-loop-c : goal.invariant-loop-c
invariant-loop-c l = l.k ≤ l.c-index
