-- Right and wrong neighbours, and the side that answers.
use mathlib.Core.Bool.{Bool, true, false, not, ◌&&◌, ◌||◌}
use mathlib.Core.Path.{◌≡◌, refl, subst}
use Prim.Native.Nat.{ℕ, suc, ◌+◌, ◌<◌, ◌≤◌}
use native.Mathlib.Decide.{dec_lt}
use native.Mathlib.Omega.{arith}
use borrow.Author.Tests.{eq-eqb, ne_eqb, lt-ltb, le-ltb, eqb-true, ltb-true, not-false}
use lib.Dec.{eqb, ltb}
use Rattle.exact.proofs.Truth.{both_true}
use Rattle.limits.specs.Limits.{wall}
use Rattle.cells.specs.Lists.{Cells, cell_count, first, side_count, home, next, start, neighbour, answers, back}
use Rattle.cells.specs.Meeting.{Answered}
use Rattle.cells.specs.Check.{wrong_neighbour}
use Rattle.cells.specs.Sound.{Numbered}
use Rattle.cells.proofs.Least.{not_both, least_bounds, holds_at_least, fails_before_least}
use Rattle.cells.proofs.Faces.{SideOf, home_is}

pub or_true : (b : Bool) → b || true ≡ true
or_true true = refl
or_true false = refl

module _ (T : Cells) (f : ℕ) where
  pub wall_is_right : neighbour T f ≡ wall → wrong_neighbour T f ≡ false
  unfolding wrong_neighbour
  wall_is_right h = simp (eq-eqb _ _ h)

  pub answered_is_right : neighbour T f < cell_count T → Answered T f → wrong_neighbour T f ≡ false
  unfolding wrong_neighbour
  answered_is_right h k = simp (lt-ltb _ _ h, lt-ltb _ _ k, or_true (eqb (neighbour T f) wall))

  pub missing_is_wrong : (neighbour T f ≡ wall → ⊥) → cell_count T ≤ neighbour T f → wrong_neighbour T f ≡ true
  unfolding wrong_neighbour
  missing_is_wrong h k = simp (ne_eqb _ _ h, le-ltb _ _ k)

  pub unanswered_is_wrong : (neighbour T f ≡ wall → ⊥) → neighbour T f < cell_count T → (Answered T f → ⊥) → wrong_neighbour T f ≡ true
  unfolding wrong_neighbour
  unanswered_is_wrong h k none =
      let l : first T (suc (neighbour T f)) ≤ back T f = omega arith in
      simp (ne_eqb _ _ h, lt-ltb _ _ k, le-ltb _ _ l)

  -- a right neighbour that is not wall exists, and one of its sides answers
  pub right_and_free : wrong_neighbour T f ≡ false → (neighbour T f ≡ wall → ⊥) → (neighbour T f < cell_count T) × Answered T f
  unfolding wrong_neighbour
  right_and_free e free =
      let both = both_true _ _ (not-false _ (subst (λ (b : Bool). not (b || (ltb (neighbour T f) (cell_count T) && ltb (back T f) (first T (suc (neighbour T f))))) ≡ false) (ne_eqb _ _ free) e)) in
      (ltb-true _ _ both.0, ltb-true _ _ both.1)

-- ---- the first side that answers

pub record Answer (T : Cells) (f : ℕ) : Type 0 where
  pub in_the_neighbour : SideOf T (neighbour T f) (back T f)
  pub its_start : start T (back T f) ≡ start T (next T f)
  pub its_finish : start T (next T (back T f)) ≡ start T f
  pub its_neighbour : neighbour T (back T f) ≡ home T f

module _ {T : Cells} (N : Numbered T) (f : ℕ) (exists : neighbour T f < cell_count T) where
  all_sides : first T (neighbour T f) + side_count T (neighbour T f) ≡ first T (suc (neighbour T f))
  all_sides = omega (arith, N.at_least (neighbour T f) exists)

  pub answered : Answered T f → Answer T f
  unfolding answers back
  answered h =
      let t₁ = both_true _ _ (holds_at_least (answers T f) (side_count T (neighbour T f)) (first T (neighbour T f)) (omega (arith, all_sides))) in
      let t₂ = both_true _ _ t₁.0 in
      record {
        in_the_neighbour = record { not_before = (least_bounds (answers T f) (side_count T (neighbour T f)) (first T (neighbour T f))).0; not_after = h };
        its_start = eqb-true _ _ t₂.0;
        its_finish = eqb-true _ _ t₂.1;
        its_neighbour = eqb-true _ _ t₁.1;
      }

  -- the neighbour's faces include the one on the other side
  pub back_is_at_home : Answered T f → home T (back T f) ≡ neighbour T f
  back_is_at_home a = home_is N exists (answered a).in_the_neighbour

  -- a side of the neighbour with the same two corners reversed, whose own neighbour is f's cell, answers
  pub answered_by : (g : ℕ) → SideOf T (neighbour T f) g → start T g ≡ start T (next T f) → start T (next T g) ≡ start T f → neighbour T g ≡ home T f → Answered T f
  unfolding answers back
  answered_by g in_it starts finishes names = by_place (dec_lt (back T f) (first T (suc (neighbour T f))))
    where
      holds : answers T f g ≡ true
      holds = simp (eq-eqb _ _ starts, eq-eqb _ _ finishes, eq-eqb _ _ names)

      by_place : Dec (back T f < first T (suc (neighbour T f))) → Answered T f
      by_place (yes h) = h
      by_place (no h) =
          absurd (not_both holds (fails_before_least (answers T f) (side_count T (neighbour T f)) (first T (neighbour T f)) g in_it.not_before (omega (arith, in_it.not_after))))
