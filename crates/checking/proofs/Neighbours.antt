-- Right and wrong neighbours, by what was read of them.
use mathlib.Core.Bool.{true, false}
use mathlib.Core.Path.{◌≡◌, sym, ◌∙◌, subst}
use Prim.Native.Nat.{ℕ, suc, ◌<◌, ◌≤◌}
use native.Mathlib.Omega.{arith}
use Rattle.std.specs.Prelude.{Some, None}
use Rattle.limits.specs.Limits.{wall}
use Rattle.cells.specs.Least.{before}
use Rattle.cells.specs.Lists.{Cells, cell_count, face_count, first, neighbour, back}
use Rattle.cells.specs.Check.{wrong_neighbour}
use Rattle.cells.specs.Sound.{Numbered}
use Rattle.cells.proofs.Faces.{side_exists}
use Rattle.cells.proofs.Neighbours.{answered_is_right, missing_is_wrong, unanswered_is_wrong, answered}
use Rattle.cells.proofs.Searches.{is_before, not_before}

-- d is the neighbour across face f
module _ (T : Cells) (f : ℕ) {d : ℕ} (is_d : d ≡ neighbour T f) where
  not_wall : (d ≡ wall → ⊥) → neighbour T f ≡ wall → ⊥
  not_wall free w = free (is_d ∙ w)

  pub no_such_cell : (d ≡ wall → ⊥) → cell_count T ≤ d → wrong_neighbour T f ≡ true
  no_such_cell free k = missing_is_wrong T f (not_wall free) (subst (λ (e : ℕ). cell_count T ≤ e) is_d k)

  module _ (k : d < cell_count T) where
    pub it_exists : neighbour T f < cell_count T
    it_exists = subst (λ (e : ℕ). e < cell_count T) is_d k

    pub none_answers : (d ≡ wall → ⊥) → None ≡ before (first T (suc (neighbour T f))) (back T f) → wrong_neighbour T f ≡ true
    none_answers free e = let past = not_before e in unanswered_is_wrong T f (not_wall free) it_exists (λ a. omega arith)

    -- g is the face on the other side
    module _ {g : ℕ} (is_g : Some g ≡ before (first T (suc (neighbour T f))) (back T f)) where
      pub right_if_answered : wrong_neighbour T f ≡ false
      right_if_answered = answered_is_right T f it_exists (is_before is_g).1

      pub answer_exists : Numbered T → g < face_count T
      answer_exists N = subst (λ (e : ℕ). e < face_count T) (sym (is_before is_g).0) (side_exists N it_exists (answered N f it_exists (is_before is_g).1).in_the_neighbour)
