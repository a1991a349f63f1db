-- Where a point lies against a cell, by the side values of its sides: each answer, and what each answer says.
use mathlib.Core.Bool.{Bool, true, false, not}
use mathlib.Core.List.{List}
use mathlib.Core.Logic.{◌⊎◌, inl, inr}
use mathlib.Core.Path.{◌≡◌, refl, sym, ◌∙◌, ap, ap₂, subst}
use Prim.Native.Nat.{ℕ, ◌<◌}
use native.Mathlib.Omega.{arith}
use borrow.Author.Tests.{not-true, not-false}
use lib.IntN.{ℤ}
use lib.Signed.{lt_z, ◌<ℤ◌, ◌≤ℤ◌, <ℤ-≤ℤ_trans}
use Rattle.exact.proofs.Order.{𝟘, lt_ltZ, le_ltZ, ltZ_true, ltZ_false, less_is_at_most, at_most_both_ways, trichotomy}
use Rattle.plane.specs.Side.{Point}
use Rattle.plane.specs.Tests.{chosen, by_value}
use Rattle.plane.specs.declared.Containment.TheVariants.{Inside, Border, Outside}
use Rattle.plane.proofs.Sides.{negative_is_outside, nought_is_border, positive_is_inside}
use Rattle.cells.specs.Lists.{Cells, cell_count}
use Rattle.cells.specs.Check.{some_face}
use Rattle.cells.specs.Sound.{Numbered}
use Rattle.cells.proofs.Faces.{SideOf, no_face, a_face, at_no_face, some_face_is}
use Rattle.stand.specs.Find.{side_value_at, not_left_of, right_of, against}

-- strictly left of every side of cell c
pub record StrictlyInside (cs : List ℤ) (T : Cells) (q : Point) (c : ℕ) : Type 0 where
  pub left_of_each : (f : ℕ) → SideOf T c f → 𝟘 <ℤ side_value_at cs T q f

-- on or left of every side of cell c, and not strictly left of each: on the line of one
pub record OnItsBorder (cs : List ℤ) (T : Cells) (q : Point) (c : ℕ) : Type 0 where
  pub right_of_none : (f : ℕ) → SideOf T c f → 𝟘 ≤ℤ side_value_at cs T q f
  pub border_side : ℕ
  pub is_a_side : SideOf T c border_side
  pub on_its_line : side_value_at cs T q border_side ≡ 𝟘

-- the least of the side values of cell c's sides and q
pub record LeastSide (cs : List ℤ) (T : Cells) (q : Point) (c : ℕ) (least : ℤ) : Type 0 where
  pub at_most : (f : ℕ) → SideOf T c f → least ≤ℤ side_value_at cs T q f
  pub is_one : (f : ℕ) × SideOf T c f × (side_value_at cs T q f ≡ least)

-- ---- one side

module _ (cs : List ℤ) (T : Cells) (q : Point) (f : ℕ) where
  left_there : 𝟘 <ℤ side_value_at cs T q f → not_left_of cs T q f ≡ false
  unfolding not_left_of
  left_there h = ap not (lt_ltZ h)

  not_left_there : side_value_at cs T q f ≤ℤ 𝟘 → not_left_of cs T q f ≡ true
  unfolding not_left_of
  not_left_there h = ap not (le_ltZ h)

  on_the_line_there : side_value_at cs T q f ≡ 𝟘 → not_left_of cs T q f ≡ true
  unfolding not_left_of
  on_the_line_there e = ap (λ (s : ℤ). not (lt_z 𝟘 s)) e

  is_left_there : not_left_of cs T q f ≡ false → 𝟘 <ℤ side_value_at cs T q f
  unfolding not_left_of
  is_left_there e = ltZ_true _ _ (not-false _ e)

  is_not_left_there : not_left_of cs T q f ≡ true → side_value_at cs T q f ≤ℤ 𝟘
  unfolding not_left_of
  is_not_left_there e = ltZ_false _ _ (not-true _ e)

  not_right_there : 𝟘 ≤ℤ side_value_at cs T q f → right_of cs T q f ≡ false
  unfolding right_of
  not_right_there h = le_ltZ h

  right_there : side_value_at cs T q f <ℤ 𝟘 → right_of cs T q f ≡ true
  unfolding right_of
  right_there h = lt_ltZ h

  is_not_right_there : right_of cs T q f ≡ false → 𝟘 ≤ℤ side_value_at cs T q f
  unfolding right_of
  is_not_right_there e = ltZ_false _ _ e

-- ---- all sides

module _ (cs : List ℤ) {T : Cells} (N : Numbered T) (q : Point) {c : ℕ} (h : c < cell_count T) where
  pub left_of_each_is_inside : StrictlyInside cs T q c → against cs T q c ≡ Inside
  unfolding against
  left_of_each_is_inside each =
      ap (λ (b : Bool). chosen (not b) (not (some_face T c (right_of cs T q))))
      (at_no_face N h (not_left_of cs T q) (λ f s. left_there cs T q f (each.left_of_each f s)))

  pub on_a_line_is_border : OnItsBorder cs T q c → against cs T q c ≡ Border
  unfolding against
  on_a_line_is_border b =
      ap₂ (λ (n r : Bool). chosen (not n) (not r))
      (a_face N h (not_left_of cs T q) b.is_a_side (on_the_line_there cs T q b.border_side b.on_its_line))
      (at_no_face N h (right_of cs T q) (λ f s. not_right_there cs T q f (b.right_of_none f s)))

  pub right_of_one_is_outside : {f : ℕ} → SideOf T c f → side_value_at cs T q f <ℤ 𝟘 → against cs T q c ≡ Outside
  unfolding against
  right_of_one_is_outside {f} s k =
      ap₂ (λ (n r : Bool). chosen (not n) (not r))
      (a_face N h (not_left_of cs T q) s (not_left_there cs T q f (less_is_at_most k)))
      (a_face N h (right_of cs T q) s (right_there cs T q f k))

  pub inside_is_left_of_each : against cs T q c ≡ Inside → StrictlyInside cs T q c
  unfolding against
  inside_is_left_of_each = by_test (some_face T c (not_left_of cs T q)) refl (some_face T c (right_of cs T q))
    where
      by_test : (n : Bool) → some_face T c (not_left_of cs T q) ≡ n → (r : Bool) → chosen (not n) (not r) ≡ Inside → StrictlyInside cs T q c
      by_test true k true e = absurd (let z : ◌≡◌ {A = ℕ} 0 1 = cc in omega arith)
      by_test true k false e = absurd (let z : ◌≡◌ {A = ℕ} 0 1 = cc in omega arith)
      by_test false k r e = record { left_of_each = λ f s. is_left_there cs T q f (no_face N h (not_left_of cs T q) k s) }

  pub border_is_on_a_line : against cs T q c ≡ Border → OnItsBorder cs T q c
  unfolding against
  border_is_on_a_line = by_test (some_face T c (not_left_of cs T q)) refl (some_face T c (right_of cs T q)) refl
    where
      by_test : (n : Bool) → some_face T c (not_left_of cs T q) ≡ n → (r : Bool) → some_face T c (right_of cs T q) ≡ r → chosen (not n) (not r) ≡ Border → OnItsBorder cs T q c
      by_test true k true l e = absurd (let z : ◌≡◌ {A = ℕ} 0 1 = cc in omega arith)
      by_test true k false l e =
          let one = some_face_is N h (not_left_of cs T q) k in
          let none : (f : ℕ) → SideOf T c f → 𝟘 ≤ℤ side_value_at cs T q f = λ f s. is_not_right_there cs T q f (no_face N h (right_of cs T q) l s) in
          record {
            right_of_none = none;
            border_side = one.0;
            is_a_side = one.1;
            on_its_line = at_most_both_ways (is_not_left_there cs T q one.0 one.2) (none one.0 one.1);
          }
      by_test false k r l e = absurd (let z : ◌≡◌ {A = ℕ} 0 1 = cc in omega arith)

  -- ---- the least side value decides

  pub least_decides : {least : ℤ} → LeastSide cs T q c least → by_value least ≡ against cs T q c
  least_decides {least} l = by_sign (trichotomy 𝟘 least)
    where
      by_sign : (𝟘 <ℤ least) ⊎ ((𝟘 ≡ least) ⊎ (least <ℤ 𝟘)) → by_value least ≡ against cs T q c
      by_sign (inl positive) =
          positive_is_inside positive
          ∙ sym (left_of_each_is_inside (record { left_of_each = λ f s. <ℤ-≤ℤ_trans positive (l.at_most f s) }))
      by_sign (inr (inl nought)) =
          ap by_value (sym nought)
          ∙ nought_is_border (record { le = tt }) (record { le = tt })
          ∙ sym
          (on_a_line_is_border
          (record {
            right_of_none = λ f s. subst (λ (z : ℤ). z ≤ℤ side_value_at cs T q f) (sym nought) (l.at_most f s);
            border_side = l.is_one.0;
            is_a_side = l.is_one.1;
            on_its_line = l.is_one.2 ∙ sym nought;
          }))
      by_sign (inr (inr negative)) =
          negative_is_outside negative
          ∙ sym (right_of_one_is_outside l.is_one.1 (subst (λ (z : ℤ). z <ℤ 𝟘) (sym l.is_one.2) negative))
