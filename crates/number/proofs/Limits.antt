-- Comparisons with 2^k and −2^k: both hold exactly of a finite double whose size m·2^e is at most 2^k. The coordinate limit is 2^29, and
-- beyond 2^53 every double is a whole number.
use Rattle.std.proofs.Common.{◌≡◌, ℕ, zero, suc, ◌+◌, ◌*◌, ◌%◌, ◌^◌, ◌<◌, ◌≤◌, Bool, true, false, ◌&&◌, ◌||◌, T, eqb, ltb, leb, ℤ, pos, negsuc, sym, refl, ◌∙◌, true≢false, mul-pos, one-mul, mul-one, arith, ltb→lt, pow_pos, ltb-false, ltb-true, lt-ltb, eq-eqb, eqb-true, le-leb, leb-false, leb-true}
use mathlib.Core.Bool.{false≢true}
use native.Mathlib.Nat.{mod-one}
use lib.Ieee.{Float, nan, inf, fin, binary64, low, emax, up, down, le, fits}
use lib.Ieee.Fits.{down_pos, and_l, and_r}
use borrow.Author.Tests.{eqb-false, lt-leb}
use Rattle.std.specs.Float.{float_is_finite}
use Rattle.plane.specs.Side.{limit}
use Rattle.number.specs.Whole.{is_finite, is_whole, is_within}
use Rattle.number.proofs.Size.{same_test}

-- 2^k and −2^k as doubles
abbrev pub highest : ℕ → Float
highest k = fin false 1 (pos k)

abbrev pub lowest : ℕ → Float
lowest k = fin true 1 (pos k)

-- finite, of a size of at most 2^k
abbrev pub small : ℕ → Float → Bool
small k nan = false
small k (inf s) = false
small k (fin s m e) = leb (m * up e) (2 ^ k * down e)

-- ---- the comparisons of a finite double, by its sign

-- less or equal is one test
less_or_equal : (a b : ℕ) → (ltb a b || (eqb a b && true)) ≡ leb a b
less_or_equal a b = by_tests (ltb a b) (eqb a b) refl refl
  where
    by_tests : (t u : Bool) → ltb a b ≡ t → eqb a b ≡ u → (t || (u && true)) ≡ leb a b
    by_tests true u h k = sym (le-leb a b (omega (arith, ltb-true a b h)))
    by_tests false true h k = sym (le-leb a b (omega (arith, eqb-true a b k)))
    by_tests false false h k = sym (lt-leb a b (omega (arith, ltb-false a b h, eqb-false a b k)))

module _ (k m : ℕ) (e : ℤ) where
  at_most_highest : le (fin false m e) (highest k) ≡ leb (m * up e) (2 ^ k * down e)
  unfolding le
  at_most_highest = rw (mul-one (m * up e), one-mul (2 ^ k)) (less_or_equal (m * up e) (2 ^ k * down e))

  at_least_lowest : le (lowest k) (fin true m e) ≡ leb (m * up e) (2 ^ k * down e)
  unfolding le
  at_least_lowest =
      rw (mul-one (m * up e), one-mul (2 ^ k), same_test (2 ^ k * down e) (m * up e) (m * up e) (2 ^ k * down e) sym sym)
      (less_or_equal (m * up e) (2 ^ k * down e))

  above_nought : 0 < 1 * 2 ^ k * down e
  above_nought = rw (one-mul (2 ^ k)) (mul-pos (pow_pos k) (down_pos e))

  any_positive_at_least_lowest : le (lowest k) (fin false m e) ≡ true
  unfolding le
  any_positive_at_least_lowest = rw (lt-ltb 0 (1 * 2 ^ k * down e + m * up e * 1) (omega (arith, above_nought)))

  any_negative_at_most_highest : le (fin true m e) (highest k) ≡ true
  unfolding le
  any_negative_at_most_highest = rw (lt-ltb 0 (m * up e * 1 + 1 * 2 ^ k * down e) (omega (arith, above_nought)))

-- ---- what the comparisons say of any double

-- from −2^k on, the comparison with 2^k decides
pub decided_by_highest : (k : ℕ) (x : Float) → le (lowest k) x ≡ true → le x (highest k) ≡ small k x
unfolding le
decided_by_highest k nan h = refl
decided_by_highest k (inf true) h = absurd (false≢true h)
decided_by_highest k (inf false) h = refl
decided_by_highest k (fin true m e) h = any_negative_at_most_highest k m e ∙ sym (sym (at_least_lowest k m e) ∙ h)
decided_by_highest k (fin false m e) h = at_most_highest k m e

pub below_lowest : (k : ℕ) (x : Float) → le (lowest k) x ≡ false → small k x ≡ false
below_lowest k nan h = refl
below_lowest k (inf s) h = refl
below_lowest k (fin true m e) h = sym (at_least_lowest k m e) ∙ h
below_lowest k (fin false m e) h = absurd (true≢false (sym (any_positive_at_least_lowest k m e) ∙ h))

-- ---- the two bounds

pub within_is_small : (x : Float) → small 29 x ≡ is_within x
unfolding is_within
within_is_small nan = refl
within_is_small (inf s) = refl
within_is_small (fin s m e) = refl

pub within_is_far_below : (x : Float) → is_within x ≡ true → small 53 x ≡ true
unfolding is_within
within_is_far_below nan h = absurd (false≢true h)
within_is_far_below (inf s) h = absurd (false≢true h)
within_is_far_below (fin s m e) h =
    let l : m * up e ≤ limit * down e = leb-true _ _ h in
    le-leb (m * up e) (2 ^ 53 * down e) (omega arith)

second_of_four : (a b c d : Bool) → T (a && b && c && d) → T b
second_of_four a b c d t = and_r a b (and_l (a && b) c (and_l (a && b && c) d t))

-- a double has 53 binary digits, so one with a fraction is below 2^53
digits : (s : Bool) (m : ℕ) (e : ℤ) → fits binary64 (fin s m e) ≡ true → m < 2 ^ 53
unfolding fits
digits s zero e f = omega arith
digits s (suc m) e f =
    ltb→lt (suc m) (2 ^ 53)
    (second_of_four (eqb (suc m % 2) 1) (ltb (suc m) (2 ^ 53)) (leb (down e) (2 ^ low binary64)) (ltb (suc m * up e) (2 ^ suc (emax binary64) * down e))
    (rw f tt))

pub beyond_is_whole : (x : Float) → fits binary64 x ≡ true → is_finite x ≡ true → small 53 x ≡ false → true ≡ is_whole x
unfolding float_is_finite is_whole
beyond_is_whole nan f h k = absurd (false≢true h)
beyond_is_whole (inf s) f h k = absurd (false≢true h)
beyond_is_whole (fin s m (pos n)) f h k = sym (eq-eqb _ _ (mod-one (m * 2 ^ n)))
beyond_is_whole (fin s m (negsuc n)) f h k =
    let l : 2 ^ 53 * 2 ^ suc n < m * 1 = leb-false _ _ k in
    absurd (omega (arith, digits s m (negsuc n) f, pow_pos (suc n)))
