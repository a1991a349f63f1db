-- The tests of one corner of a cell: it exists or not, and it is right or wrong for a side.
use mathlib.Core.Bool.{true, false, not}
use mathlib.Core.List.{List}
use mathlib.Core.Path.{◌≡◌, sym, ◌∙◌}
use Prim.Native.Nat.{ℕ, ◌<◌}
use borrow.Author.Tests.{eq-eqb, ne_eqb, ltb-true, not-false}
use lib.IntN.{ℤ, pos}
use lib.Signed.{◌<ℤ◌, lt_z}
use Rattle.exact.proofs.Order.{𝟘, ltZ_true}
use Rattle.plane.specs.Side.{Point, side}
use Rattle.cells.specs.Lists.{Cells, corner_count, corner_at, next, start}
use Rattle.cells.specs.Check.{wrong_for_side, missing_corner}
use Rattle.cells.proofs.Least.{not_both}

-- the point at which face f starts
abbrev pub at : List ℤ → Cells → ℕ → Point
at cs T f = corner_at cs (start T f)

-- ---- a corner number exists or not

module _ (cs : List ℤ) (T : Cells) (f : ℕ) where
  pub not_missing : missing_corner cs T f ≡ false → start T f < corner_count cs
  unfolding missing_corner
  not_missing e = ltb-true _ _ (not-false _ e)

-- ---- the corner at which face g starts is wrong or right for side f

module _ (cs : List ℤ) (T : Cells) (f g : ℕ) where
  pub its_own_start : g ≡ f → wrong_for_side cs T f g ≡ false
  unfolding wrong_for_side
  its_own_start h = simp (eq-eqb _ _ h)

  module _ (other : g ≡ f → ⊥) where
    pub starts_there_again : start T g ≡ start T f → wrong_for_side cs T f g ≡ true
    unfolding wrong_for_side
    starts_there_again h = simp (ne_eqb _ _ other, eq-eqb _ _ h)

    module _ (elsewhere : start T g ≡ start T f → ⊥) where
      pub its_own_finish : g ≡ next T f → wrong_for_side cs T f g ≡ false
      unfolding wrong_for_side
      its_own_finish h = simp (ne_eqb _ _ other, ne_eqb _ _ elsewhere, eq-eqb _ _ h)

      pub by_side_value : (g ≡ next T f → ⊥) → wrong_for_side cs T f g ≡ not (lt_z (pos 0) (side (at cs T f) (at cs T (next T f)) (at cs T g)))
      unfolding wrong_for_side
      by_side_value h = simp (ne_eqb _ _ other, ne_eqb _ _ elsewhere, ne_eqb _ _ h)

  module _ (right : wrong_for_side cs T f g ≡ false) (other : g ≡ f → ⊥) where
    pub starts_elsewhere : start T g ≡ start T f → ⊥
    starts_elsewhere h = not_both (starts_there_again other h) right

    pub lies_left : (g ≡ next T f → ⊥) → 𝟘 <ℤ side (at cs T f) (at cs T (next T f)) (at cs T g)
    lies_left h = ltZ_true _ _ (not-false _ (sym (by_side_value other starts_elsewhere h) ∙ right))
