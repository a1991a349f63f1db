use Prim.Native.Nat.{suc, ◌-◌, ◌≤◌}
use lib.ListN.{length}
use Rattle.cells.proofs.Faces.{SideOf}
use Rattle.face.specs.Tables.{tables}
use Rattle.overlap.specs.Search.{Against}
use Rattle.overlap.proofs.pair.WithBoxes.against_later.Given as goal

abbrev pub invariant-loop-i : goal.invariant-loop-i
invariant-loop-i l = SideOf (tables l.self.cells) l.c l.k × ((l.u ≤ length l.list) × Against l.self.corners.now (tables l.self.cells) l.list l.s (suc l.s) l.u l.best l.least)

abbrev pub decreases-loop-i : goal.decreases-loop-i
decreases-loop-i l = length l.list - l.u
