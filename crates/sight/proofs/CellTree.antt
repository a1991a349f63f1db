-- Sides of a cell one behind the other, as the code follows them.
use mathlib.Core.List.{List}
use mathlib.Core.Path.{◌≡◌, refl}
use Prim.Native.Nat.{ℕ, zero, suc, ◌+◌, ◌*◌, ◌-◌, ◌<◌}
use native.Mathlib.Omega.{arith}
use native.Mathlib.Numerals.{sub-one}
use lib.ListN.{length, get_or}
use lib.IntN.{ℤ}
use Rattle.fan.specs.Sight.{Sight}
use Rattle.fan.specs.Sight.Sight.{both}
use Rattle.expand.specs.Remains.{Remains, Follows}
use Rattle.expand.proofs.Expansion.{Room, room_for_the_first, all_remains, second_remains, room_remains}
use Rattle.sight.specs.CellTree.{side_tree, cell_tree}

module _ (zs : List ℤ) (ls fs : List ℕ) (R n f : ℕ) where
  pub the_last_side : {m : ℕ} → m ≡ 0 → cell_tree zs ls fs R n m f ≡ side_tree zs ls fs R n f
  unfolding cell_tree
  the_last_side e = rw e refl

  pub one_side_and_more : (m : ℕ) → (m ≡ 0 → ⊥) → cell_tree zs ls fs R n m f ≡ both (side_tree zs ls fs R n f) (cell_tree zs ls fs R n (m - 1) (get_or ls (4 * f + 3) 0))
  unfolding cell_tree
  one_side_and_more zero h = absurd (h refl)
  one_side_and_more (suc m) h = rw sub-one refl

  -- where all have room, the first has
  pub room_for_a_side : (at size m : ℕ) → Room at size (cell_tree zs ls fs R n m f) → Room at size (side_tree zs ls fs R n f)
  unfolding cell_tree
  room_for_a_side at size zero h = h
  room_for_a_side at size (suc m) h = room_for_the_first at size refl h

-- of two parts, from the beginning of a table on, the first is followed to its rows: the second remains, and has room
module _ (old new : List ℕ) (left : ℕ) {a b : Sight} {i j : ℕ} (room : Room 0 (length old) (both a b)) (w : Follows old 0 left a new i j) (some : 0 < j) (n : length new ≡ length old) where
  pub second_part_remains : Remains old 0 left (both a b) new (4 * i) i j b
  second_part_remains = second_remains old 0 left (both a b) old 0 0 left (all_remains old 0 left (both a b) 0 refl room.0) refl w some n (omega arith) (omega arith)

  pub second_part_fits : Room (4 * i) (length new) b
  second_part_fits = room_remains old 0 left (both a b) new (4 * i) i j second_part_remains room
