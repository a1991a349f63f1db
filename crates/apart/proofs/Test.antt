-- The test for overlapping cells says yes exactly if some point, whole or fractional, lies strictly inside both (document 02, A7).
use mathlib.Core.Bool.{Bool, true, false, not}
use mathlib.Core.List.{List}
use mathlib.Core.Path.{◌≡◌, refl, ◌∙◌}
use Prim.Native.Nat.{ℕ, ◌+◌, ◌-◌, ◌<◌}
use native.Mathlib.Omega.{arith}
use borrow.Author.Tests.{eq-eqb, ne_eqb, not-true, not-false}
use lib.Dec.{eqb}
use lib.IntN.{ℤ}
use lib.Signed.{◌<ℤ◌, ◌≤ℤ◌}
use Rattle.exact.proofs.Order.{𝟘, ltZ_true, ltZ_false}
use Rattle.exact.proofs.Truth.{both_true}
use Rattle.plane.specs.Side.{side}
use Rattle.plane.specs.Cone.{scaled}
use Rattle.convex.specs.Shape.{Inside, Reaches}
use Rattle.convex.proofs.Meet.{no_side_separates}
use Rattle.convex.proofs.Below.{separated}
use Rattle.cells.specs.Lists.{Cells, cell_count, first, next}
use Rattle.cells.specs.Check.{some_face, strictly_left, separates, overlapping}
use Rattle.cells.specs.Overlap.{StrictlyIn, Overlap}
use Rattle.cells.specs.Sound.{Numbered, CellsRight}
use Rattle.cells.proofs.Faces.{SideOf, no_face, some_face_is}
use Rattle.cells.proofs.Least.{not_both}
use Rattle.cells.proofs.Cells.{at}
use Rattle.apart.proofs.Shapes.{shape, face_at, side_at, place_of, face_before_the_end, at_each_side, at_each_place, three_sides, goes_round, is_convex}

-- ---- the test

module _ (cs : List ℤ) (T : Cells) (c e : ℕ) where
  -- cells that it finds overlapping are two, and no side of either separates them
  pub overlap_differs : overlapping cs T c e ≡ true → (c ≡ e → ⊥) × ((some_face T c (separates cs T e) ≡ false) × (some_face T e (separates cs T c) ≡ false))
  unfolding overlapping
  overlap_differs t =
      let last = both_true _ _ t in
      let two = both_true (not (eqb c e)) _ last.0 in
      (λ same. not_both (eq-eqb c e same) (not-true _ two.0), (not-true _ two.1, not-true _ last.1))

  pub none_separates : (c ≡ e → ⊥) → some_face T c (separates cs T e) ≡ false → some_face T e (separates cs T c) ≡ false → overlapping cs T c e ≡ true
  unfolding overlapping
  none_separates other f g = simp (ne_eqb c e other, f, g)

module _ (cs : List ℤ) {T : Cells} (N : Numbered T) where
  -- ---- a point strictly inside a cell is strictly inside its shape, and the other way

  module _ {c : ℕ} (h : c < cell_count T) {x y w : ℤ} where
    pub inside_its_shape : StrictlyIn cs T c x y w → Inside (shape cs T c) x y w
    unfolding shape
    inside_its_shape i =
        record { left_of_each = at_each_place cs N h (λ a b. 𝟘 <ℤ side (scaled w a) (scaled w b) (record { x = x; y = y })) (λ f s. i.left_of_each f s.not_before s.not_after) }

    pub inside_the_cell : Inside (shape cs T c) x y w → StrictlyIn cs T c x y w
    unfolding shape
    inside_the_cell i =
        record {
          exists = h;
          left_of_each = λ f l m. at_each_side cs N h (λ a b. 𝟘 <ℤ side (scaled w a) (scaled w b) (record { x = x; y = y })) i.left_of_each (record { not_before = l; not_after = m });
        }

  -- ---- a side that separates, and one that does not

  module _ {e : ℕ} (k : e < cell_count T) (f : ℕ) where
    -- every corner of the cell is on its line or right of it
    none_is_left : separates cs T e f ≡ true → {g : ℕ} → SideOf T e g → side (at cs T f) (at cs T (next T f)) (at cs T g) ≤ℤ 𝟘
    unfolding separates strictly_left
    none_is_left h s = ltZ_false _ _ (no_face N k (strictly_left cs T f) (not-true _ h) s)

    -- some corner of the cell is strictly left of it
    some_is_left : separates cs T e f ≡ false → (g : ℕ) × SideOf T e g × (𝟘 <ℤ side (at cs T f) (at cs T (next T f)) (at cs T g))
    unfolding separates strictly_left
    some_is_left h =
        let found = some_face_is N k (strictly_left cs T f) (not-false _ h) in
        (found.0, found.1, ltZ_true _ _ found.2)

  module _ {c e : ℕ} (h : c < cell_count T) (k : e < cell_count T) where
    -- no point is strictly inside both
    apart_by_a_side : some_face T c (separates cs T e) ≡ true → {x y w : ℤ} → 𝟘 <ℤ w → StrictlyIn cs T c x y w → StrictlyIn cs T e x y w → ⊥
    unfolding shape
    apart_by_a_side t positive i j =
        let found = some_face_is N h (separates cs T e) t in
        let f = found.0 in
        separated (goes_round cs N k) (omega (arith, three_sides cs N k)) (at cs T f) (at cs T (next T f))
        (λ m l. rw (face_before_the_end T e l) (none_is_left k f found.2 (side_at cs N k l)))
        positive (inside_its_shape k j) (i.left_of_each f found.1.not_before found.1.not_after)

    reaches_over : some_face T c (separates cs T e) ≡ false → (i : ℕ) → i < (shape cs T c).sides → Reaches (shape cs T c) (shape cs T e) i
    unfolding shape
    reaches_over t i l =
        let s = side_at cs N h l in
        let found = some_is_left k (first T c + i) (no_face N h (separates cs T e) t s) in
        let p = place_of cs N k found.1 in
        let same : face_at T c i ≡ first T c + i = face_before_the_end T c l in
        let there : face_at T e (found.0 - first T e) ≡ found.0 = face_before_the_end T e p.0 ∙ p.1 in
        record { k = found.0 - first T e; exists = p.0; left = rw (same, there) found.2 }

  module _ (right : CellsRight cs T) {c e : ℕ} (h : c < cell_count T) (k : e < cell_count T) where
    -- where it says yes, some point lies strictly inside both
    pub told_is_overlap : overlapping cs T c e ≡ true → Overlap cs T c e
    told_is_overlap t =
        let d = overlap_differs cs T c e t in
        let m = no_side_separates (is_convex cs N h right) (is_convex cs N k right) (reaches_over h k d.1.0) (reaches_over k h d.1.1) in
        record {
          different = d.0;
          x = m.x;
          y = m.y;
          w = m.w;
          positive = m.positive;
          in_one = inside_the_cell h m.in_one;
          in_other = inside_the_cell k m.in_other;
        }

    -- and where some point does, it says yes
    pub overlap_is_told : Overlap cs T c e → overlapping cs T c e ≡ true
    overlap_is_told o =
        none_separates cs T c e o.different
        (is_false _ (λ t. apart_by_a_side h k t o.positive o.in_one o.in_other))
        (is_false _ (λ t. apart_by_a_side k h t o.positive o.in_other o.in_one))
      where
        is_false : (b : Bool) → (b ≡ true → ⊥) → b ≡ false
        is_false true n = absurd (n refl)
        is_false false n = refl
