-- How many of the numbers below n pass a test.
use mathlib.Core.Bool.{Bool, true, false, ◌||◌, false≢true}
use mathlib.Core.Logic.{◌⊎◌, inl, inr}
use mathlib.Core.Path.{◌≡◌, refl}
use Prim.Native.Nat.{ℕ, zero, suc, ◌+◌, ◌≤◌, ◌<◌}
use native.Mathlib.Omega.{arith}
use native.Mathlib.Nat.{eq-or-lt_of_le, le_of_suc-le-suc}
use lib.Dec.{eqb}
use borrow.Author.Tests.{eq-eqb}

or_first : (a b : Bool) → a ≡ true → (a || b) ≡ true
or_first a b e = rw e

or_second : (a b : Bool) → b ≡ true → (a || b) ≡ true
or_second true b e = refl
or_second false b e = e

one : Bool → ℕ
one true = 1
one false = 0

unfoldable pub count : (ℕ → Bool) → ℕ → ℕ
unfolding one
count p zero = 0
count p (suc n) = one (p n) + count p n

one_of_parts : (p q s : Bool) → (p ≡ true → s ≡ true) → (q ≡ true → s ≡ true) → (p ≡ true → q ≡ true → ⊥) → one p + one q ≤ one s
unfolding one
one_of_parts true true s ps qs apart = absurd (apart refl refl)
one_of_parts true false true ps qs apart = omega arith
one_of_parts true false false ps qs apart = absurd (false≢true (ps refl))
one_of_parts false true true ps qs apart = omega arith
one_of_parts false true false ps qs apart = absurd (false≢true (qs refl))
one_of_parts false false s ps qs apart = omega arith

-- two tests that share nothing pass together no more than a test that each of them implies
pub parts_at_most_the_whole :
    (p q s : ℕ → Bool) (n : ℕ) → ((i : ℕ) → p i ≡ true → s i ≡ true) → ((i : ℕ) → q i ≡ true → s i ≡ true) → ((i : ℕ) → p i ≡ true → q i ≡ true → ⊥) →
    count p n + count q n ≤ count s n
unfolding count
parts_at_most_the_whole p q s zero ps qs apart = omega arith
parts_at_most_the_whole p q s (suc n) ps qs apart =
    omega (arith, one_of_parts (p n) (q n) (s n) (ps n) (qs n) (apart n), parts_at_most_the_whole p q s n ps qs apart)

-- nor than the test that one of them passes
pub parts_at_most_either : (p q : ℕ → Bool) (n : ℕ) → ((i : ℕ) → p i ≡ true → q i ≡ true → ⊥) → count p n + count q n ≤ count (λ i. p i || q i) n
parts_at_most_either p q n apart =
    parts_at_most_the_whole p q (λ i. p i || q i) n (λ i e. or_first (p i) (q i) e) (λ i e. or_second (p i) (q i) e) apart

-- a number below n is one of them
pub number_is_counted : (v n : ℕ) → v < n → 1 ≤ count (eqb v) n
unfolding count one
number_is_counted v zero h = omega arith
number_is_counted v (suc n) h = by_last (number_is_counted v n) (eq-or-lt_of_le (le_of_suc-le-suc h))
  where
    by_last : (v < n → 1 ≤ count (eqb v) n) → (v ≡ n) ⊎ (v < n) → 1 ≤ one (eqb v n) + count (eqb v) n
    by_last below (inl e) = rw (eq-eqb v n e) (omega arith)
    by_last below (inr k) = omega (arith, below k)

-- of n numbers at most n pass
pub at_most_all_are_counted : (p : ℕ → Bool) (n : ℕ) → count p n ≤ n
unfolding count
at_most_all_are_counted p zero = omega arith
at_most_all_are_counted p (suc n) = omega (arith, at_most_one (p n), at_most_all_are_counted p n)
  where
    at_most_one : (b : Bool) → one b ≤ 1
    at_most_one true = omega arith
    at_most_one false = omega arith
