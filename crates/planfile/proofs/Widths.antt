-- The numbers of an accepted plan have room in their fields: a coordinate in four bytes, each other number in two.
use mathlib.Core.List.{List}
use mathlib.Core.Path.{◌≡◌, sym, subst}
use Prim.Native.Nat.{ℕ, ◌+◌, ◌*◌, ◌/◌, ◌%◌, ◌^◌, ◌<◌, ◌≤◌}
use native.Mathlib.Decide.{dec_lt, ℕ_discrete}
use native.Mathlib.Omega.{arith}
use lib.ListN.{length, get_or, get_or-eq_default}
use lib.IntN.{ℤ, pos, negsuc, nat_abs}
use lib.Signed.{mag}
use Rattle.limits.specs.Limits.{wall}
use Rattle.cells.specs.Lists.{Cells, corner_count, cell_count, face_count, start, neighbour}
use Rattle.cells.specs.Sound.{Sound}
use Rattle.cells.proofs.Neighbours.{right_and_free}
use Rattle.cells.proofs.Plans.{Counts, counts, faces_at_most, corner_exists, door_exists}
use Rattle.planfile.proofs.CellLists.{InTwoBytes}

mag_small : (z : ℤ) → nat_abs z ≤ 536870912 → mag z < 2 ^ 31
mag_small (pos n) h = omega arith
mag_small (negsuc n) h = omega arith

module _ {cs : List ℤ} {T : Cells} {ds : List ℕ} (sound : Sound cs T ds) where
  known : Counts (corner_count cs) (cell_count T) (length ds)
  known = counts _ _ _ sound.in_size

  pub coordinate_in_width : (i : ℕ) → mag (get_or cs i (pos 0)) < 2 ^ 31
  coordinate_in_width i = there (dec_lt i (length cs)) (dec_lt (i % 2) 1)
    where
      there : Dec (i < length cs) → Dec (i % 2 < 1) → mag (get_or cs i (pos 0)) < 2 ^ 31
      there (no n) d = subst (λ (z : ℤ). mag z < 2 ^ 31) (sym (get_or-eq_default cs (pos 0) {n = i} (omega arith))) (omega arith)
      there (yes y) (yes x) =
          let at : 2 * (i / 2) ≡ i = omega arith in
          subst (λ (j : ℕ). mag (get_or cs j (pos 0)) < 2 ^ 31) at
          (mag_small (get_or cs (2 * (i / 2)) (pos 0)) (sound.corners.near (i / 2) (let e = sound.whole_corners in omega arith)).x_near.size)
      there (yes y) (no x) =
          let at : 2 * (i / 2) + 1 ≡ i = omega arith in
          subst (λ (j : ℕ). mag (get_or cs j (pos 0)) < 2 ^ 31) at
          (mag_small (get_or cs (2 * (i / 2) + 1) (pos 0)) (sound.corners.near (i / 2) (let e = sound.whole_corners in omega arith)).y_near.size)

  corner_in_width : (f : ℕ) → f < face_count T → start T f < 2 ^ 16
  corner_in_width f h = let k = known in omega (arith, corner_exists sound.numbered sound.cells f h)

  neighbour_in_width : (f : ℕ) → f < face_count T → neighbour T f < 2 ^ 16
  neighbour_in_width f h = by_wall (ℕ_discrete (neighbour T f) wall)
    where
      by_wall : Dec (neighbour T f ≡ wall) → neighbour T f < 2 ^ 16
      by_wall (yes e) = omega arith
      by_wall (no free) = let k = known in omega (arith, (right_and_free T f (sound.neighbours.right f h) free).0)

  pub face_in_width : InTwoBytes T.faces
  unfolding start neighbour
  face_in_width i = there (dec_lt i (length T.faces)) (dec_lt (i % 2) 1)
    where
      there : Dec (i < length T.faces) → Dec (i % 2 < 1) → get_or T.faces i 0 < 2 ^ 16
      there (no n) d = subst (λ (m : ℕ). m < 2 ^ 16) (sym (get_or-eq_default T.faces 0 {n = i} (omega arith))) (omega arith)
      there (yes y) (yes x) =
          let at : 2 * (i / 2) ≡ i = omega arith in
          subst (λ (j : ℕ). get_or T.faces j 0 < 2 ^ 16) at (corner_in_width (i / 2) (let e = sound.numbered.whole_faces in omega arith))
      there (yes y) (no x) =
          let at : 2 * (i / 2) + 1 ≡ i = omega arith in
          subst (λ (j : ℕ). get_or T.faces j 0 < 2 ^ 16) at (neighbour_in_width (i / 2) (let e = sound.numbered.whole_faces in omega arith))

  pub door_in_width : InTwoBytes ds
  door_in_width i = there (dec_lt i (length ds))
    where
      there : Dec (i < length ds) → get_or ds i 0 < 2 ^ 16
      there (no n) = subst (λ (m : ℕ). m < 2 ^ 16) (sym (get_or-eq_default ds 0 {n = i} (omega arith))) (omega arith)
      there (yes y) = let k = known in omega (arith, door_exists sound i y, faces_at_most sound.numbered)
