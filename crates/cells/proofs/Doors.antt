-- A door names a line, from either of its faces, or not.
use mathlib.Core.Bool.{true, false}
use mathlib.Core.List.{List}
use mathlib.Core.Path.{◌≡◌}
use Prim.Native.Nat.{ℕ}
use borrow.Author.Tests.{eq-eqb, ne_eqb}
use lib.Dec.{eqb}
use lib.ListN.{get_or}
use Rattle.cells.specs.Check.{names}
use Rattle.cells.proofs.Neighbours.{or_true}

module _ (ds : List ℕ) (f g e : ℕ) where
  pub names_the_face : get_or ds e 0 ≡ f → names ds f g e ≡ true
  unfolding names
  names_the_face h = simp (eq-eqb _ _ h)

  pub names_the_back : get_or ds e 0 ≡ g → names ds f g e ≡ true
  unfolding names
  names_the_back h = simp (eq-eqb (get_or ds e 0) g h, or_true (eqb (get_or ds e 0) f))

  pub names_neither : (get_or ds e 0 ≡ f → ⊥) → (get_or ds e 0 ≡ g → ⊥) → names ds f g e ≡ false
  unfolding names
  names_neither h k = simp (ne_eqb _ _ h, ne_eqb _ _ k)
