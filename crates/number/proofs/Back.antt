-- A double without its fraction is a double again, and the two are equal exactly when nothing was cut off. Up to 2^53 it becomes an integer.
use Rattle.std.proofs.Common.{◌≡◌, ℕ, zero, suc, ◌+◌, ◌-◌, ◌*◌, ◌%◌, ◌^◌, ◌<◌, ◌≤◌, min, Bool, true, false, ◌&&◌, ◌||◌, T, eqb, ltb, leb, ℤ, pos, negsuc, neg_ℤ, sym, refl, ap, ◌∙◌, mul-one, mul_assoc, mul_comm, mul_right_comm, arith, lt→ltb, ltb→lt, lt-ltb, leb-true, pow_pos}
use Rattle.std.proofs.lemmas.Nat.{pow-add}
use Rattle.std.specs.Float.{trunc, round_with, float_is_finite}
use mathlib.Core.Bool.{beq, and-true, false≢true}
use native.Mathlib.Nat.{eq_of_mul-eq-mul_right, mul-lt-mul_of_pos_right}
use lib.Ieee.{Float, nan, inf, fin, Format, binary64, prec, emax, low, up, down, le, lt, eq, fits, round, to_signed}
use lib.Ieee.Exact.{HasValue, round_exact}
use lib.Ieee.Back.{round_whole}
use lib.Ieee.Fits.{down_pos, and_l, and_r}
use Rattle.number.specs.Whole.{is_finite, is_whole, size, signed, integer}
use Rattle.number.proofs.Size.{same_test, whole_when_it_is_its_size, size_within, size_is}
use Rattle.number.proofs.Limits.{small}

-- ---- without its fraction, a small double is an integer

uncapped : (n c : ℕ) → n ≤ 2 ^ 53 → 2 ^ 53 ≤ c → min n c ≡ n
uncapped n c h k = omega arith

truncated : (s : Bool) (m : ℕ) (e : ℤ) → size m e ≤ 2 ^ 53 → to_signed 63 (fin s m e) ≡ signed s (size m e)
unfolding to_signed size
truncated true m e h = ap (λ (n : ℕ). neg_ℤ (pos n)) (uncapped (size m e) (2 ^ 63) h (omega arith))
truncated false m e h = ap pos (uncapped (size m e) (2 ^ 63 - 1) h (omega arith))

-- ---- cut off at its fraction, a double is its size

-- the conditions of a double that is not 0: it has 53 binary digits, and is below 2^1024
two_of_four : (a b c d : Bool) → T (a && b && c && d) → T b × T d
two_of_four a b c d t = (and_r a b (and_l (a && b) c (and_l (a && b && c) d t)), and_r (a && b && c) d t)

-- a whole number of so many digits that is no larger is a double itself
large_is_exact : (f : Format) (s : Bool) (m n : ℕ) → m < 2 ^ prec f → m * 2 ^ n < 2 ^ suc (emax f) → HasValue (round f s (m * 2 ^ n) 1) s (m * 2 ^ n) 1
large_is_exact f s m n digits below =
    let shifted : m * 2 ^ (n + low f) ≡ m * 2 ^ n * 2 ^ low f = ap (λ (k : ℕ). m * k) (pow-add 2 n (low f)) ∙ sym (mul_assoc m (2 ^ n) (2 ^ low f)) in
    let most : 2 ^ (low f + suc (emax f)) ≡ 2 ^ suc (emax f) * 2 ^ low f = pow-add 2 (low f) (suc (emax f)) ∙ mul_comm (2 ^ low f) (2 ^ suc (emax f)) in
    round_exact f s (m * 2 ^ n) 1 m (n + low f) (omega arith) digits
    (rw (shifted, most) (mul-lt-mul_of_pos_right below (pow_pos (low f))))
    (sym shifted ∙ sym (mul-one (m * 2 ^ (n + low f))))

cut_is_exact : (s : Bool) (m : ℕ) (e : ℤ) → fits binary64 (fin s m e) ≡ true → HasValue (round binary64 s (size m e) 1) s (size m e) 1
unfolding fits
cut_is_exact s zero e f = round_whole binary64 s (size zero e) (size_within s zero e (2 ^ 53) (omega arith))
cut_is_exact s (suc m) (pos n) f =
    let both = two_of_four (eqb (suc m % 2) 1) (ltb (suc m) (2 ^ 53)) (leb 1 (2 ^ low binary64)) (ltb (suc m * 2 ^ n) (2 ^ suc (emax binary64) * 1)) (rw f tt) in
    let below : suc m * 2 ^ n < 2 ^ suc (emax binary64) = rw (mul-one (2 ^ suc (emax binary64))) at (ltb→lt (suc m * 2 ^ n) (2 ^ suc (emax binary64) * 1) both.1) in
    rw (size_is s (suc m) (pos n) (suc m * 2 ^ n) (sym (mul-one (suc m * 2 ^ n))))
    (large_is_exact binary64 s (suc m) n (ltb→lt (suc m) (2 ^ 53) both.0) below)
cut_is_exact s (suc m) (negsuc n) f =
    let both = two_of_four (eqb (suc m % 2) 1) (ltb (suc m) (2 ^ 53)) (leb (down (negsuc n)) (2 ^ low binary64)) (ltb (suc m * 1) (2 ^ suc (emax binary64) * down (negsuc n))) (rw f tt) in
    let near : suc m * 1 ≤ 2 ^ 53 * 2 ^ suc n = omega (arith, ltb→lt (suc m) (2 ^ 53) both.0, pow_pos (suc n)) in
    round_whole binary64 s (size (suc m) (negsuc n)) (size_within s (suc m) (negsuc n) (2 ^ 53) near)

-- ---- and it equals the double it came from where that is whole

same_sign : (s : Bool) → beq s s ≡ true
same_sign true = refl
same_sign false = refl

equal_to : (y : Float) (s : Bool) (n m : ℕ) (e : ℤ) → HasValue y s n 1 → eq y (fin s m e) ≡ eqb (n * down e) (m * up e)
unfolding eq
equal_to nan s n m e v = absurd v
equal_to (inf u) s n m e v = absurd v
equal_to (fin u k d) s n m e v =
    let a = k * up d * down e in
    let b = m * up e * down d in
    let is : a ≡ n * down e * down d =
    ap (λ (x : ℕ). x * down e) (sym (mul-one (k * up d)) ∙ v.1) ∙ mul_right_comm n (down d) (down e) in
    let level_sizes : eqb a b ≡ eqb (n * down e) (m * up e) =
    same_test a b (n * down e) (m * up e)
    (λ h. eq_of_mul-eq-mul_right (down d) (down_pos d) _ _ (sym is ∙ h))
    (λ h. is ∙ ap (λ (x : ℕ). x * down d) h) in
    let signs : (beq u s || eqb a 0) ≡ true = ap (λ (t : Bool). beq t s || eqb a 0) v.0 ∙ ap (λ (t : Bool). t || eqb a 0) (same_sign s) in
    ap (λ (t : Bool). eqb a b && t) signs ∙ and-true (eqb a b) ∙ level_sizes

-- what is left decides
pub decided_by_cutting : (x : Float) → fits binary64 x ≡ true → is_finite x ≡ true → eq (trunc binary64 x) x ≡ is_whole x
unfolding float_is_finite round_with size
decided_by_cutting nan f h = absurd (false≢true h)
decided_by_cutting (inf s) f h = absurd (false≢true h)
decided_by_cutting (fin false m e) f h = equal_to _ false (size m e) m e (cut_is_exact false m e f) ∙ sym (whole_when_it_is_its_size false m e)
decided_by_cutting (fin true m e) f h = equal_to _ true (size m e) m e (cut_is_exact true m e f) ∙ sym (whole_when_it_is_its_size true m e)

-- ---- what the code makes of a double up to 2^53

size_of_small : (s : Bool) (m : ℕ) (e : ℤ) → small 53 (fin s m e) ≡ true → size m e ≤ 2 ^ 53
size_of_small s m e h = size_within s m e (2 ^ 53) (leb-true _ _ h)

-- truncation leaves its integer
pub truncated_is_its_integer : (x : Float) → small 53 x ≡ true → to_signed 63 x ≡ integer x
unfolding integer
truncated_is_its_integer nan h = absurd (false≢true h)
truncated_is_its_integer (inf s) h = absurd (false≢true h)
truncated_is_its_integer (fin s m e) h = truncated s m e (size_of_small s m e h)

-- such a double is far from the ends of the machine's integers
pub small_in_range : (x : Float) → small 53 x ≡ true → T (le (fin true 1 (pos 63)) x) × T (lt x (fin false 1 (pos 63)))
unfolding le
small_in_range nan h = absurd (false≢true h)
small_in_range (inf s) h = absurd (false≢true h)
small_in_range (fin true m e) h =
    let p : 0 < down e = down_pos e in
    let l : m * up e ≤ 2 ^ 53 * down e = leb-true _ _ h in
    (rw (lt-ltb (m * up e * 1) (2 ^ 63 * down e) (omega arith)) tt, lt→ltb 0 (m * up e * 1 + 2 ^ 63 * down e) (omega arith))
small_in_range (fin false m e) h =
    let p : 0 < down e = down_pos e in
    let l : m * up e ≤ 2 ^ 53 * down e = leb-true _ _ h in
    (rw (lt-ltb 0 (2 ^ 63 * down e + m * up e * 1) (omega arith)) tt, lt→ltb (m * up e * 1) (2 ^ 63 * down e) (omega arith))
