-- The stand in whole millimetres, by what was read of it; an accepted stand is within the limits.
use mathlib.Core.Bool.{Bool, true, false, ◌||◌}
use mathlib.Core.List.{List}
use mathlib.Core.Path.{◌≡◌, refl, ap, ap₂, sym, ◌∙◌, subst}
use Prim.Native.Nat.{ℕ, ◌<◌, ◌≤◌}
use native.Mathlib.Omega.{arith}
use borrow.Author.Tests.{lt-ltb, le-ltb}
use lib.Dec.{ltb}
use lib.Ieee.{Float}
use lib.IntN.{ℤ, ◌+ℤ◌}
use mir.Syntax.{w64}
use mir.Val.{to_z, of_z}
use Rattle.exact.specs.Within.{Within}
use Rattle.exact.proofs.Bounds.{coordinate}
use Rattle.exact.proofs.Truth.{neither_true}
use Rattle.plane.specs.Side.{limit, Near}
use Rattle.cells.specs.Lists.{corner_count, corner_at}
use Rattle.cells.specs.Check.{outside}
use Rattle.cells.proofs.Checks.{not_outside}
use Rattle.number.specs.Whole.{whole}
use Rattle.number.proofs.Whole.{accepted_is_within}
use Rattle.stand.specs.Spot.{pair, whole_point, within_limits, offset_by, stood}
use Rattle.stand.specs.declared.spot.Stand.{Stand}
use Rattle.stand.specs.declared.spot.Stand.TheVariants as S
use Rattle.std.specs.Prelude.{None, Option, Some}

-- ---- two doubles

module _ (x y : Float) where
  pub first_refused : whole x ≡ None → None ≡ whole_point x y
  unfolding whole_point
  first_refused e = simp e

  pub second_refused : {u : ℤ} → whole x ≡ Some u → whole y ≡ None → None ≡ whole_point x y
  unfolding whole_point
  second_refused e k = simp (e, k)

  pub both_whole : {u v : ℤ} → whole x ≡ Some u → whole y ≡ Some v → Some (to_z w64 (of_z w64 u), to_z w64 (of_z w64 v)) ≡ whole_point x y
  unfolding whole_point
  both_whole e k =
      ap₂ (λ (u v : ℤ). Some (u, v)) (coordinate w64 tt (accepted_is_within x e)).is (coordinate w64 tt (accepted_is_within y k)).is ∙ sym (ap₂ pair e k)

  pub point_is_near : {u v : ℤ} → whole_point x y ≡ Some (u, v) → Near (record { x = u; y = v })
  unfolding whole_point
  point_is_near {u} {v} e = by_cases (whole x) (whole y) refl refl e
    where
      by_cases : (m n : Option ℤ) → whole x ≡ m → whole y ≡ n → pair m n ≡ Some (u, v) → Near (record { x = u; y = v })
      by_cases (Some a) (Some b) h k p =
          let same : ◌≡◌ {A = ℤ × ℤ} (a, b) (u, v) = cc in
          let same_x : a ≡ u = ap (λ (q : ℤ × ℤ). q.0) same in
          let same_y : b ≡ v = ap (λ (q : ℤ × ℤ). q.1) same in
          record { x_near = subst (Within limit) same_x (accepted_is_within x h); y_near = subst (Within limit) same_y (accepted_is_within y k) }
      by_cases (Some a) None h k p = absurd (let z : ◌≡◌ {A = ℕ} 0 1 = cc in omega arith)
      by_cases None n h k p = absurd (let z : ◌≡◌ {A = ℕ} 0 1 = cc in omega arith)

-- ---- the limits

module _ (x y : ℤ) where
  pub bounded_is_near : {u v : ℤ} → within_limits x y ≡ Some (u, v) → Near (record { x = u; y = v })
  unfolding within_limits
  bounded_is_near {u} {v} e = by_cases (outside x || outside y) refl e
    where
      by_cases : (b : Bool) → (outside x || outside y) ≡ b → ◌≡◌ {A = Option (ℤ × ℤ)} (elim b [ true ↦ None | false ↦ Some (x, y) ]) (Some (u, v)) → Near (record { x = u; y = v })
      by_cases true h p = absurd (let z : ◌≡◌ {A = ℕ} 0 1 = cc in omega arith)
      by_cases false h p =
          let both = neither_true (outside x) (outside y) h in
          let same : ◌≡◌ {A = ℤ × ℤ} (x, y) (u, v) = cc in
          let same_x : x ≡ u = ap (λ (q : ℤ × ℤ). q.0) same in
          let same_y : y ≡ v = ap (λ (q : ℤ × ℤ). q.1) same in
          record { x_near = subst (Within limit) same_x (not_outside x both.0); y_near = subst (Within limit) same_y (not_outside y both.1) }

-- ---- stands

module _ (cs : List ℤ) where
  pub no_such_corner : (i : ℕ) (x y : Float) → corner_count cs ≤ i → None ≡ stood cs (S.Offset i x y)
  unfolding stood
  no_such_corner i x y h = rw (le-ltb i (corner_count cs) h, stood)

  pub offset_refused : (i : ℕ) (x y : Float) → i < corner_count cs → whole_point x y ≡ None → None ≡ stood cs (S.Offset i x y)
  unfolding stood
  offset_refused i x y h e = rw (lt-ltb i (corner_count cs) h, stood) (ap (λ (s : Option (ℤ × ℤ)). offset_by s (corner_at cs i).x (corner_at cs i).y) (sym e))

  pub offset_stands : (i : ℕ) (x y : Float) {u v a b : ℤ} → i < corner_count cs → whole_point x y ≡ Some (u, v) → a ≡ (corner_at cs i).x +ℤ u → b ≡ (corner_at cs i).y +ℤ v → within_limits a b ≡ stood cs (S.Offset i x y)
  unfolding stood
  offset_stands i x y h e p q =
      rw (lt-ltb i (corner_count cs) h, stood)
      (ap₂ within_limits p q ∙ sym (ap (λ (s : Option (ℤ × ℤ)). offset_by s (corner_at cs i).x (corner_at cs i).y) e))

  -- an accepted stand's coordinates are within the limits
  pub stand_is_near : (s : Stand) {x y : ℤ} → stood cs s ≡ Some (x, y) → Near (record { x = x; y = y })
  unfolding stood
  stand_is_near (S.Point x y) e = point_is_near x y e
  stand_is_near (S.Offset i x y) e = offset_is_near (ltb i (corner_count cs)) (whole_point x y) e
    where
      offset_is_near : {u v : ℤ} (b : Bool) (s : Option (ℤ × ℤ)) → ◌≡◌ {A = Option (ℤ × ℤ)} (elim b [ true ↦ offset_by s (corner_at cs i).x (corner_at cs i).y | false ↦ None ]) (Some (u, v)) → Near (record { x = u; y = v })
      offset_is_near true (Some (a, b)) p = bounded_is_near ((corner_at cs i).x +ℤ a) ((corner_at cs i).y +ℤ b) p
      offset_is_near true None p = absurd (let z : ◌≡◌ {A = ℕ} 0 1 = cc in omega arith)
      offset_is_near false s p = absurd (let z : ◌≡◌ {A = ℕ} 0 1 = cc in omega arith)
