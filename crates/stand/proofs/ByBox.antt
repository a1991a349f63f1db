-- A cell whose box does not hold the stand is ruled out, and nothing is lost by it (document 02, A3).
use mathlib.Core.Bool.{Bool, true, false}
use mathlib.Core.List.{List}
use mathlib.Core.Logic.{◌⊎◌, inl, inr}
use mathlib.Core.Path.{◌≡◌, refl, sym, ap, ◌∙◌}
use Prim.Native.Nat.{ℕ, suc, ◌+◌, ◌<◌, ◌≤◌}
use native.Mathlib.Omega.{arith}
use lib.IntN.{ℤ}
use Rattle.exact.proofs.Order.{less_is_at_most}
use Rattle.plane.specs.Side.{Point}
use Rattle.plane.specs.declared.Containment.{Containment}
use Rattle.plane.specs.declared.Containment.TheVariants.{Inside, Border, Outside}
use Rattle.cells.specs.Least.{least, before}
use Rattle.cells.specs.Lists.{Cells, cell_count, first, side_count}
use Rattle.cells.specs.Sound.{Numbered, CellsRight}
use Rattle.cells.proofs.Least.{not_both, least_is_none}
use Rattle.cells.proofs.Searches.{past_the_end}
use Rattle.boxes.specs.Boxes.{Holds, box_at, Boxed, past}
use Rattle.boxes.specs.declared.Bounds.{Bounds}
use Rattle.boxes.proofs.Inside.{in_its_box, held_is_not_past}
use Rattle.stand.specs.Find.{against, within_free}
use Rattle.stand.proofs.Against.{inside_is_left_of_each, on_a_line_is_border, border_is_on_a_line}
use Rattle.stand.proofs.Located.{is_within_and_free, a_side_is_on_the_border}
use Rattle.std.specs.Prelude.{None}

-- the code's answer for the box that it has read
pub tested_past : (q : Point) {b d : Bounds} → b ≡ d → {r : Bool} → r ≡ past b q → r ≡ true → past d q ≡ true
tested_past q is_b is_r t = ap (λ (b : Bounds). past b q) (sym is_b) ∙ sym is_r ∙ t

module _ {cs : List ℤ} {T : Cells} (N : Numbered T) (right : CellsRight cs T) {bs : List ℤ} (boxed : Boxed cs T bs) (q : Point) {c : ℕ} (h : c < cell_count T) where
  -- a stand on or inside a cell is within its box
  pub held_by_its_box : (against cs T q c ≡ Inside) ⊎ (against cs T q c ≡ Border) → Holds (box_at bs c) q
  held_by_its_box (inl e) = in_its_box cs N right h (boxed.each c h) q (λ f s. less_is_at_most ((inside_is_left_of_each cs N q h e).left_of_each f s))
  held_by_its_box (inr e) = in_its_box cs N right h (boxed.each c h) q (border_is_on_a_line cs N q h e).right_of_none

  -- so a cell past whose box the stand lies has it outside
  module _ (p : past (box_at bs c) q ≡ true) where
    pub past_is_outside : Outside ≡ against cs T q c
    past_is_outside = by_place (against cs T q c) refl
      where
        by_place : (w : Containment) → against cs T q c ≡ w → Outside ≡ against cs T q c
        by_place Inside e = absurd (not_both p (held_is_not_past (held_by_its_box (inl e))))
        by_place Border e = absurd (not_both p (held_is_not_past (held_by_its_box (inr e))))
        by_place Outside e = sym e

    -- and no free side that the stand is strictly within
    pub past_has_no_doorway : (ds : List ℕ) (w : ℕ) → None ≡ before (first T (suc c)) (least (within_free cs T ds w q) (side_count T c) (first T c))
    past_has_no_doorway ds w =
        let none = least_is_none (within_free cs T ds w q) (side_count T c) (first T c) (λ f l m. by_test f l m (within_free cs T ds w q f) refl) in
        past_the_end (omega (arith, none, N.at_least c h))
      where
        by_test : (f : ℕ) → first T c ≤ f → f < first T c + side_count T c → (b : Bool) → within_free cs T ds w q f ≡ b → within_free cs T ds w q f ≡ false
        by_test f l m false t = t
        by_test f l m true t =
            let on_it = a_side_is_on_the_border N right q h (record { not_before = l; not_after = omega (arith, N.at_least c h) }) (is_within_and_free cs T q f ds w t).0 in
            absurd (not_both p (held_is_not_past (held_by_its_box (inr (on_a_line_is_border cs N q h on_it)))))
