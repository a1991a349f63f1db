-- The places of a list, and the one element that has a property.
use Rattle.std.specs.Prelude.{List, ◌∷◌, ◌≡◌, ℕ, zero, suc}

-- x stands at place i of the list, counted from 0
pub data At {A : Type 0} (x : A) : List A → ℕ → Type 0 where
  first : {xs : List A} → At x (x ∷ xs) zero
  later : {y : A} {xs : List A} {i : ℕ} → At x xs i → At x (y ∷ xs) (suc i)

-- no two places of the list have elements with P
pub record NeverTwice {A : Type 0} (P : A → Type 0) (xs : List A) : Type 0 where
  pub same_place : (x y : A) (i j : ℕ) → At x xs i → At y xs j → P x → P y → i ≡ j

-- exactly one element of the list has P, namely w at its place
pub record Only {A : Type 0} (P : A → Type 0) (xs : List A) (w : A) : Type 0 where
  pub place : ℕ
  pub stands : At w xs place
  pub has : P w
  pub no_other : (x : A) (i : ℕ) → At x xs i → P x → i ≡ place
