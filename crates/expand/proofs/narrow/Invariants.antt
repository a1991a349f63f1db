use mathlib.Core.List.{List}
use Prim.Native.Nat.{ℕ, ◌+◌, ◌*◌, ◌<◌}
use lib.ListN.{length}
use Rattle.expand.specs.Floor.{floor_of}
use Rattle.expand.specs.Narrows.{Narrows}
use Rattle.expand.proofs.narrow.Given as goal

abbrev pub invariant-loop-more : goal.invariant-loop-more
invariant-loop-more l = ((fs : List ℕ) (R : ℕ) → Narrows (floor_of l.seen l.lines fs R) l.r l.l l.fn.more l.fn.e l.more l.e) × (4 * l.e + 3 < length l.lines)

abbrev pub decreases-loop-more : goal.decreases-loop-more
decreases-loop-more l = l.more
