-- Where a door stands on a route.
use mathlib.Core.Bool.{true, false}
use mathlib.Core.List.{List, [], ◌∷◌}
use mathlib.Core.Logic.{◌⊎◌, inl, inr}
use mathlib.Core.Path.{◌≡◌, refl}
use Prim.Native.Nat.{ℕ}
use borrow.Author.Tests.{eqb-true, eqb-false, eq-eqb, ne_eqb}
use lib.Dec.{eqb}
use Rattle.exact.proofs.Truth.{one_true, neither_true}
use Rattle.runs.specs.Route.{Routed, via}
use Rattle.runs.specs.Door.{is_door, crosses, side_seen, before, same_to_door, on_door, untouched}

module _ (f₀ g₀ : ℕ) where
  pub door_is_one_of_its_faces : (f : ℕ) → is_door f₀ g₀ f ≡ true → (f ≡ f₀) ⊎ (f ≡ g₀)
  unfolding is_door
  door_is_one_of_its_faces f e = by_face (one_true _ _ e)
    where
      by_face : (eqb f f₀ ≡ true) ⊎ (eqb f g₀ ≡ true) → (f ≡ f₀) ⊎ (f ≡ g₀)
      by_face (inl h) = inl (eqb-true _ _ h)
      by_face (inr h) = inr (eqb-true _ _ h)

  pub another_is_neither_face : (f : ℕ) → is_door f₀ g₀ f ≡ false → (f ≡ f₀ → ⊥) × (f ≡ g₀ → ⊥)
  unfolding is_door
  another_is_neither_face f e = let n = neither_true _ _ e in (eqb-false _ _ n.0, eqb-false _ _ n.1)

  -- ---- a route that begins at the door

  module _ (f : ℕ) (e : is_door f₀ g₀ f ≡ true) where
    pub crosses_at_once : (p : List ℕ) → crosses f₀ g₀ (f ∷ p) ≡ true
    unfolding crosses
    crosses_at_once p = rw e

    pub seen_at_once : (p : List ℕ) → side_seen f₀ g₀ (f ∷ p) ≡ f
    unfolding side_seen
    seen_at_once p = rw (e, side_seen)

    pub nothing_before : (p : List ℕ) → before f₀ g₀ (f ∷ p) ≡ []
    unfolding before
    nothing_before p = rw (e, before)

    pub all_the_same : (p q : List ℕ) → same_to_door f₀ g₀ (f ∷ p) (f ∷ q) ≡ true
    unfolding same_to_door
    all_the_same p q = rw (e, eq-eqb f f refl)

    pub touched_beyond : (x : Routed) → untouched f₀ g₀ (via f x) ≡ false
    unfolding untouched
    touched_beyond x = rw (crosses_at_once x.route)

  -- ---- a route that begins elsewhere

  module _ (f : ℕ) (e : is_door f₀ g₀ f ≡ false) where
    pub crosses_later : (p : List ℕ) → crosses f₀ g₀ (f ∷ p) ≡ crosses f₀ g₀ p
    unfolding crosses
    crosses_later p = rw e

    pub seen_later : (p : List ℕ) → side_seen f₀ g₀ (f ∷ p) ≡ side_seen f₀ g₀ p
    unfolding side_seen
    seen_later p = rw (e, side_seen)

    pub one_more_before : (p : List ℕ) → before f₀ g₀ (f ∷ p) ≡ f ∷ before f₀ g₀ p
    unfolding before
    one_more_before p = rw (e, before)

    pub same_further_on : (p q : List ℕ) → same_to_door f₀ g₀ (f ∷ p) (f ∷ q) ≡ same_to_door f₀ g₀ p q
    unfolding same_to_door
    same_further_on p q = rw (e, eq-eqb f f refl)

    pub untouched_further_on : (x : Routed) → untouched f₀ g₀ (via f x) ≡ untouched f₀ g₀ x
    unfolding untouched on_door
    untouched_further_on x = rw (crosses_later x.route)

  -- routes that begin with different faces are not the same
  pub different_at_once : {e e' : ℕ} (p q : List ℕ) → (e ≡ e' → ⊥) → same_to_door f₀ g₀ (e ∷ p) (e' ∷ q) ≡ false
  unfolding same_to_door
  different_at_once p q n = rw (ne_eqb _ _ n)
