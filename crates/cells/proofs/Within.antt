-- A point strictly within a side of a cell lies strictly left of every other side of the cell.
use mathlib.Core.List.{List}
use mathlib.Core.Path.{◌≡◌, sym, ◌∙◌, ap, subst}
use Prim.Native.Nat.{ℕ, suc, ◌<◌}
use native.Mathlib.Decide.{ℕ_discrete, dec_lt}
use native.Mathlib.Omega.{arith}
use lib.IntN.{ℤ}
use lib.Signed.{◌<ℤ◌}
use Rattle.exact.proofs.Order.{𝟘}
use Rattle.plane.specs.Side.{Point, side}
use Rattle.plane.specs.Cone.{minus, cross, Beyond, Opposite}
use Rattle.plane.proofs.Found.{side_turns_with_its_corners, side_from_the_stand, side_positive_is_beyond, sides_beyond_a_line_turn_left, the_side_after_a_line_turns_left, the_side_before_a_line_turns_left}
use Rattle.cells.specs.Lists.{Cells, cell_count, first, next}
use Rattle.cells.specs.Sound.{Numbered, CellsRight}
use Rattle.cells.proofs.Faces.{SideOf, side_exists, home_is, next_is_a_side, next_goes_on, next_comes_round, next_of_next_differs}
use Rattle.cells.proofs.Cells.{at}
use Rattle.cells.proofs.Plans.{convex}

-- no two sides of a cell have the same next side
next_is_of_one_side : {T : Cells} → Numbered T → {c f e : ℕ} → c < cell_count T → SideOf T c f → SideOf T c e → next T f ≡ next T e → f ≡ e
next_is_of_one_side {T} N {c} {f} {e} h s t p = by_place (dec_lt (suc f) (first T (suc c))) (dec_lt (suc e) (first T (suc c)))
  where
    by_place : Dec (suc f < first T (suc c)) → Dec (suc e < first T (suc c)) → f ≡ e
    by_place (yes k) (yes l) = omega (arith, p, next_goes_on N h s k, next_goes_on N h t l)
    by_place (yes k) (no l) = omega (arith, p, s.not_before, t.not_after, next_goes_on N h s k, next_comes_round N h t (omega (arith, t.not_after)))
    by_place (no k) (yes l) = omega (arith, p, t.not_before, s.not_after, next_goes_on N h t l, next_comes_round N h s (omega (arith, s.not_after)))
    by_place (no k) (no l) = omega (arith, s.not_after, t.not_after)

module _ {cs : List ℤ} {T : Cells} (N : Numbered T) (right : CellsRight cs T) (q : Point) {c f : ℕ} (h : c < cell_count T) (s : SideOf T c f) (within : Opposite (minus (at cs T f) q) (minus (at cs T (next T f)) q)) (e : ℕ) (t : SideOf T c e) (other : e ≡ f → ⊥) where
  -- another corner of the cell, seen from q, lies strictly left of e
  beyond : {g : ℕ} → SideOf T c g → (g ≡ e → ⊥) → (g ≡ next T e → ⊥) → Beyond (minus (at cs T (next T e)) q) (minus (at cs T e) q) (minus (at cs T g) q)
  beyond {g} r a b =
      side_positive_is_beyond _ _ _ q (convex N right e g (side_exists N h t) (side_exists N h r) (home_is N h t ∙ sym (home_is N h r)) a b)

  -- seen from q, every other side turns left
  pub every_other_side_turns_left : 𝟘 <ℤ cross (minus (at cs T e) q) (minus (at cs T (next T e)) q)
  every_other_side_turns_left = by_place (ℕ_discrete e (next T f)) (ℕ_discrete (next T e) f)
    where
      finish : SideOf T c (next T f)
      finish = next_is_a_side N h s

      by_place : Dec (e ≡ next T f) → Dec (next T e ≡ f) → 𝟘 <ℤ cross (minus (at cs T e) q) (minus (at cs T (next T e)) q)
      by_place (yes a) b =
          the_side_after_a_line_turns_left (minus (at cs T f) q) _ _ (rw (← a) at within)
          (beyond s (λ p. other (sym p)) (λ p. next_of_next_differs N h s (ap (next T) (sym a) ∙ sym p)))
      by_place (no a) (yes b) =
          the_side_before_a_line_turns_left (minus (at cs T (next T f)) q) _ _ (subst (λ (g : ℕ). Opposite (minus (at cs T g) q) (minus (at cs T (next T f)) q)) (sym b) within)
          (beyond finish (λ p. a (sym p)) (λ p. other (sym (next_is_of_one_side N h s t p))))
      by_place (no a) (no b) =
          sides_beyond_a_line_turn_left _ _ _ _ within
          (beyond s (λ p. other (sym p)) (λ p. b (sym p)))
          (beyond finish (λ p. a (sym p)) (λ p. other (sym (next_is_of_one_side N h s t p))))

  pub left_of_every_other_side : 𝟘 <ℤ side (at cs T e) (at cs T (next T e)) q
  left_of_every_other_side =
      subst (λ (z : ℤ). 𝟘 <ℤ z) (sym (sym (side_turns_with_its_corners q (at cs T e) (at cs T (next T e))) ∙ side_from_the_stand q (at cs T e) (at cs T (next T e)))) every_other_side_turns_left
