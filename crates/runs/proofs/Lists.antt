-- Laws of lists: their places, and the elements that pass a test.
use mathlib.Core.Bool.{Bool, true, false}
use mathlib.Core.List.{List, [], ◌∷◌, ◌++◌, map}
use mathlib.Core.Path.{◌≡◌, refl, ◌∙◌}
use Prim.Native.Nat.{ℕ, zero, suc}
use Rattle.fan.specs.Once.{At}
use Rattle.fan.specs.Once.At.{first, later}
use Rattle.runs.specs.Door.{those}

module _ {A B : Type 0} where
  -- an element of a mapped list is one of the list, mapped
  pub at_mapped : {h : A → B} {y : B} (xs : List A) {i : ℕ} → At y (map h xs) i → (x : A) × (At x xs i) × (y ≡ h x)
  at_mapped [] p = elim p [ ]
  at_mapped {h = h} {y = y'} (x ∷ xs) {i = i} p = found (λ y j. at_mapped {h = h} {y = y} xs {i = j}) x y' p
    where
      found : ((y : B) (j : ℕ) → At y (map h xs) j → (z : A) × (At z xs j) × (y ≡ h z)) → (x : A) (y : B) {i : ℕ} → At y (h x ∷ map h xs) i → (z : A) × (At z (x ∷ xs) i) × (y ≡ h z)
      found below x y first = (x, first, refl)
      found below x y (later p) = let (z, q, e) = below y _ p in (z, later q, e)

  pub mapped_at : {x : A} {xs : List A} {i : ℕ} (h : A → B) → At x xs i → At (h x) (map h xs) i
  mapped_at h first = first
  mapped_at h (later p) = later (mapped_at h p)

module _ {A : Type 0} where
  one_later : {x y : A} {ys : List A} → (j : ℕ) × At x ys j → (j : ℕ) × At x (y ∷ ys) j
  one_later s = (suc s.0, later s.1)

  first_or_later : {x y : A} {zs ys : List A} {i : ℕ} → ((k : ℕ) → At x zs k → (j : ℕ) × At x ys j) → At x (y ∷ zs) i → (j : ℕ) × At x (y ∷ ys) j
  first_or_later ih first = (zero, first)
  first_or_later ih (later q) = one_later (ih _ q)

  -- an element is the first or one after it
  pub first_or_after : {C : Type 0} {x y : A} {ys : List A} {i : ℕ} → At x (y ∷ ys) i → (x ≡ y → C) → ((k : ℕ) → At x ys k → C) → C
  first_or_after first f g = f refl
  first_or_after (later p) f g = g _ p

  module _ (t : A → Bool) where
    pub kept : (x : A) (xs : List A) → t x ≡ true → those t (x ∷ xs) ≡ x ∷ those t xs
    unfolding those
    kept x xs e = rw (e, those)

    pub left_out : (x : A) (xs : List A) → t x ≡ false → those t (x ∷ xs) ≡ those t xs
    unfolding those
    left_out x xs e = rw (e, those)

    pub those_of_both : (xs ys : List A) → those t (xs ++ ys) ≡ those t xs ++ those t ys
    those_of_both [] ys = unfold those in refl
    those_of_both (x ∷ xs) ys = by_test (those_of_both xs ys) (t x) refl
      where
        by_test : those t (xs ++ ys) ≡ those t xs ++ those t ys → (b : Bool) → t x ≡ b → those t (x ∷ xs ++ ys) ≡ those t (x ∷ xs) ++ those t ys
        by_test ih true e = rw (kept x (xs ++ ys) e, kept x xs e, ih)
        by_test ih false e = rw (left_out x (xs ++ ys) e, left_out x xs e, ih)

    -- what passes the test stands in the list
    pub stands_in_the_list : {x : A} (xs : List A) {i : ℕ} → At x (those t xs) i → (j : ℕ) × At x xs j
    unfolding those
    stands_in_the_list [] p = elim p [ ]
    stands_in_the_list {x} (y ∷ ys) {i} p = by_test (λ k q. stands_in_the_list ys q) (t y) refl
      where
        by_test : ((k : ℕ) → At x (those t ys) k → (j : ℕ) × At x ys j) → (b : Bool) → t y ≡ b → (j : ℕ) × At x (y ∷ ys) j
        by_test ih true e = first_or_later ih (rw (kept y ys e) at p)
        by_test ih false e = one_later (ih i (rw (left_out y ys e) at p))

    pub none_left : (xs : List A) → ((x : A) → t x ≡ false) → those t xs ≡ []
    unfolding those
    none_left [] none = refl
    none_left (x ∷ xs) none = left_out x xs (none x) ∙ none_left xs none

-- two tests that say the same of every element
module _ {A : Type 0} (t s : A → Bool) where
  pub those_alike : (xs : List A) → ((x : A) (i : ℕ) → At x xs i → t x ≡ s x) → those t xs ≡ those s xs
  unfolding those
  those_alike [] alike = refl
  those_alike (x ∷ xs) alike = by_test (those_alike xs (λ y i p. alike y (suc i) (later p))) (s x) refl
    where
      by_test : those t xs ≡ those s xs → (b : Bool) → s x ≡ b → those t (x ∷ xs) ≡ those s (x ∷ xs)
      by_test ih true e = rw (kept t x xs (alike x zero first ∙ e), kept s x xs e, ih)
      by_test ih false e = rw (left_out t x xs (alike x zero first ∙ e), left_out s x xs e, ih)

-- a test of mapped elements
module _ {A B : Type 0} (h : A → B) (t : B → Bool) (s : A → Bool) where
  pub those_of_a_mapped_list : ((x : A) → t (h x) ≡ s x) → (xs : List A) → those t (map h xs) ≡ map h (those s xs)
  unfolding those
  those_of_a_mapped_list same [] = refl
  those_of_a_mapped_list same (x ∷ xs) = by_test (those_of_a_mapped_list same xs) (s x) refl
    where
      by_test : those t (map h xs) ≡ map h (those s xs) → (b : Bool) → s x ≡ b → those t (h x ∷ map h xs) ≡ map h (those s (x ∷ xs))
      by_test ih true e = rw (kept t (h x) (map h xs) (same x ∙ e), kept s x xs e, ih)
      by_test ih false e = rw (left_out t (h x) (map h xs) (same x ∙ e), left_out s x xs e, ih)

-- every element of the list has P
pub data All {A : Type 0} (P : A → Type 0) : List A → Type 0 where
  nothing : All P []
  besides : {x : A} {xs : List A} → P x → All P xs → All P (x ∷ xs)

module _ {A : Type 0} where
  pub all_have : {P Q : A → Type 0} {xs : List A} → ((x : A) → P x → Q x) → All P xs → All Q xs
  all_have h nothing = nothing
  all_have h (besides p a) = besides (h _ p) (all_have h a)

  pub none_pass : (t : A → Bool) {xs : List A} → All (λ (x : A). t x ≡ false) xs → those t xs ≡ []
  unfolding those
  none_pass t nothing = refl
  none_pass t (besides {x = x} {xs = xs} e a) = left_out t x xs e ∙ none_pass t a
