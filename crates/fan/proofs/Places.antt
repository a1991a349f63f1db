-- Places of two lists that are joined.
use mathlib.Core.List.{List, [], ◌∷◌, ◌++◌}
use mathlib.Core.Path.{◌≡◌, refl, sym, ◌∙◌}
use Prim.Native.Nat.{ℕ, zero, suc, ◌+◌, ◌<◌}
use native.Mathlib.Omega.{arith}
use native.Mathlib.Nat.{zero-add, suc-add}
use lib.ListN.{length, get_or}
use Rattle.fan.specs.Once.{At, NeverTwice, Only}
use Rattle.fan.specs.Once.At.{first, later}

module _ {A : Type 0} where
  pub at_the_only_place : {x y : A} {i : ℕ} → At x (y ∷ []) i → x ≡ y
  at_the_only_place first = refl
  at_the_only_place (later p) = elim p [ ]

  pub only_place_is_first : {x y : A} {i : ℕ} → At x (y ∷ []) i → i ≡ zero
  only_place_is_first first = refl
  only_place_is_first (later p) = elim p [ ]

  pub at_no_place : {x : A} {i : ℕ} → At x [] i → ⊥
  at_no_place p = elim p [ ]

  -- a place of a joined list is one of the first list, or one of the second behind the first
  pub data Joined (x : A) (xs ys : List A) (i : ℕ) : Type 0 where
    in_first : At x xs i → Joined x xs ys i
    in_second : (k : ℕ) → i ≡ length xs + k → At x ys k → Joined x xs ys i

  pub first_joined : {x : A} {xs : List A} (ys : List A) {i : ℕ} → At x xs i → At x (xs ++ ys) i
  first_joined ys first = first
  first_joined ys (later p) = later (first_joined ys p)

  pub second_joined : {x : A} (xs : List A) {ys : List A} {i : ℕ} → At x ys i → At x (xs ++ ys) (length xs + i)
  second_joined [] p = rw zero-add p
  second_joined (y ∷ xs) p = rw suc-add (later (second_joined xs p))

  pub at_joined : {x : A} (xs : List A) {ys : List A} {i : ℕ} → At x (xs ++ ys) i → Joined x xs ys i
  at_joined [] {ys} {i} p = in_second i (omega arith) p
  at_joined (y ∷ xs) first = in_first first
  at_joined {x} (y ∷ xs) {ys} (later {i = i} p) = one_later (at_joined xs p)
    where
      one_later : Joined x xs ys i → Joined x (y ∷ xs) ys (suc i)
      one_later (in_first q) = in_first (later q)
      one_later (in_second k e q) = in_second k (omega arith) q

  -- an element of a joined list is in the first or in the second
  pub either_list : {C : Type 0} {x : A} (xs : List A) {ys : List A} {i : ℕ} → At x (xs ++ ys) i → ((k : ℕ) → At x xs k → C) → ((k : ℕ) → At x ys k → C) → C
  either_list {C} {x} xs {ys} {i} p f g = by_list (at_joined xs p)
    where
      by_list : Joined x xs ys i → C
      by_list (in_first q) = f i q
      by_list (in_second k e q) = g k q

  -- some element has P
  abbrev pub Some : (A → Type 0) → List A → Type 0
  Some P xs = (x : A) × (i : ℕ) × At x xs i × P x

  pub some_in_first : {P : A → Type 0} {xs : List A} (ys : List A) → Some P xs → Some P (xs ++ ys)
  some_in_first ys s = (s.0, s.1, first_joined ys s.2, s.3)

  pub some_in_second : {P : A → Type 0} (xs : List A) {ys : List A} → Some P ys → Some P (xs ++ ys)
  some_in_second xs s = (s.0, length xs + s.1, second_joined xs s.2, s.3)

  pub never_twice_in_one : {P : A → Type 0} {z : A} → NeverTwice P (z ∷ [])
  never_twice_in_one = record { same_place = λ x y i j p q h k. only_place_is_first p ∙ sym (only_place_is_first q) }

  -- what is nowhere twice in a list is nowhere twice behind its first element, nor there where the first has it
  pub never_twice_after : {P : A → Type 0} {z : A} {xs : List A} → NeverTwice P (z ∷ xs) → NeverTwice P xs
  never_twice_after once = record { same_place = λ x y i j p q h k. omega (arith, once.same_place x y (suc i) (suc j) (later p) (later q) h k) }

  pub first_excludes_the_others : {P : A → Type 0} {z y : A} {xs : List A} {j : ℕ} → NeverTwice P (z ∷ xs) → At y xs j → P z → P y → ⊥
  first_excludes_the_others {z = z} {y = y} {j = j} once q h k = omega (arith, once.same_place z y zero (suc j) first (later q) h k)

  -- nor in two joined lists, where no element of the first has P together with one of the second
  pub never_twice_joined :
      {P : A → Type 0} {xs ys : List A} → NeverTwice P xs → NeverTwice P ys → ((x y : A) (i j : ℕ) → At x xs i → At y ys j → P x → P y → ⊥) →
      NeverTwice P (xs ++ ys)
  never_twice_joined {P} {xs} {ys} once₁ once₂ apart =
      record { same_place = λ x y i j p q h k. by_lists x y i j h k (at_joined xs p) (at_joined xs q) }
    where
      by_lists : (x y : A) (i j : ℕ) → P x → P y → Joined x xs ys i → Joined y xs ys j → i ≡ j
      by_lists x y i j h k (in_first p) (in_first q) = once₁.same_place x y i j p q h k
      by_lists x y i j h k (in_first p) (in_second j' e q) = absurd (apart x y i j' p q h k)
      by_lists x y i j h k (in_second i' e p) (in_first q) = absurd (apart y x j i' q p k h)
      by_lists x y i j h k (in_second i' e p) (in_second j' e' q) = omega (arith, once₂.same_place x y i' j' p q h k)

  pub some_never_twice_is_only : {P : A → Type 0} {xs : List A} (s : Some P xs) → NeverTwice P xs → Only P xs s.0
  some_never_twice_is_only s once =
      record { place = s.1; stands = s.2; has = s.3; no_other = λ x i p h. once.same_place x s.0 i s.1 p s.2 h s.3 }

  -- the element at a place, as it is read
  pub read_is_at : (xs : List A) (i : ℕ) (z : A) → i < length xs → At (get_or xs i z) xs i
  read_is_at [] i z h = absurd (omega arith)
  read_is_at (x ∷ xs) zero z h = first
  read_is_at (x ∷ xs) (suc i) z h = later (read_is_at xs i z (omega arith))
