-- A double is accepted as z exactly when it is z and z is within the limits. What is accepted is the double of z, or minus zero; and the double
-- of each whole number within the limits is accepted as that number.
use Rattle.std.proofs.Common.{◌≡◌, ℕ, zero, suc, ◌*◌, ◌^◌, ◌<◌, ◌≤◌, Bool, true, false, ◌&&◌, T, leb, ◌⊎◌, ℤ, pos, negsuc, ◌*ℤ◌, neg_ℤ, nat_abs, sym, refl, ap, ◌∙◌, subst, inl, inr, true≢false, mul-le-mul_right, zero-lt-suc, mul-pos, zero-mul, mul-one, arith, le-leb, leb-true}
use lib.IntN.{pos-ne-negsuc}
use lib.Ieee.{Float, nan, inf, fin, Format, binary64, prec, up, down, fits, of_int}
use lib.Ieee.Back.{round_whole, whole_unique}
use lib.Ieee.Exact.{HasValue}
use lib.Ieee.Fits.{down_pos, of_int-fits}
use Rattle.exact.specs.Within.{Within}
use Rattle.plane.specs.Side.{limit}
use Rattle.number.specs.Whole.{is_whole, size, signed, accepted, whole, Is, minus_zero}
use Rattle.number.proofs.Size.{whole_is_its_size, size_within, size_is, is_whole_number}
use Rattle.std.specs.Prelude.{Some}

-- ---- what was accepted

-- the finite double ±m·2^e was accepted as z
record Taken (s : Bool) (m : ℕ) (e : ℤ) (z : ℤ) : Type 0 where
  sized : m * up e ≡ size m e * down e
  near : size m e ≤ limit
  number : z ≡ signed s (size m e)

abbrev TakenAs : Float → ℤ → Type 0
TakenAs nan z = ⊥
TakenAs (inf s) z = ⊥
TakenAs (fin s m e) z = Taken s m e z

taken : (x : Float) {z : ℤ} → whole x ≡ Some z → TakenAs x z
unfolding whole
taken nan h = let o : ◌≡◌ {A = ℕ} 0 1 = cc in omega arith
taken (inf s) h = let o : ◌≡◌ {A = ℕ} 0 1 = cc in omega arith
taken (fin s m e) {z} h = by_tests (is_whole (fin s m e)) (leb (m * up e) (limit * down e)) refl refl h
  where
    by_tests : (t u : Bool) → is_whole (fin s m e) ≡ t → leb (m * up e) (limit * down e) ≡ u → accepted (t && u) (signed s (size m e)) ≡ Some z
        → Taken s m e z
    by_tests true true k l h =
        record { sized = whole_is_its_size s m e k; near = size_within s m e limit (leb-true _ _ l); number = cc }
    by_tests true false k l h = let o : ◌≡◌ {A = ℕ} 0 1 = cc in absurd (omega arith)
    by_tests false u k l h = let o : ◌≡◌ {A = ℕ} 0 1 = cc in absurd (omega arith)

-- ---- whole numbers with a sign

size_of_signed : (s : Bool) (n : ℕ) → nat_abs (signed s n) ≡ n
size_of_signed false n = refl
size_of_signed true zero = refl
size_of_signed true (suc n) = refl

signed_times : (s : Bool) (n d : ℕ) → signed s (n * d) ≡ signed s n *ℤ pos d
signed_times false n d = refl
signed_times true zero d = rw (zero-mul d)
signed_times true (suc n) d = refl

size_times : (z : ℤ) (d : ℕ) → nat_abs (z *ℤ pos d) ≡ nat_abs z * d
size_times (pos n) d = refl
size_times (negsuc n) d = size_of_signed true (suc n * d)

only_zero_has_both_signs : (a b : ℕ) → neg_ℤ (pos a) ≡ pos b → (a ≡ 0) × (b ≡ 0)
only_zero_has_both_signs zero b h = (refl, cc)
only_zero_has_both_signs (suc a) b h = absurd (pos-ne-negsuc b a (sym h))

-- a multiple of z has the sign of z
sign_of_multiple : (s : Bool) (k d : ℕ) (z : ℤ) → 0 < d → signed s k ≡ z *ℤ pos d → signed s (nat_abs z) ≡ z
sign_of_multiple false k d (pos n) p h = refl
sign_of_multiple false k d (negsuc n) p h =
    let o : suc n * d ≡ 0 = (only_zero_has_both_signs (suc n * d) k (sym h)).0 in
    let q : 0 < suc n * d = mul-pos (zero-lt-suc n) p in
    absurd (omega arith)
sign_of_multiple true k d (pos zero) p h = refl
sign_of_multiple true k d (pos (suc n)) p h =
    let o : suc n * d ≡ 0 = (only_zero_has_both_signs k (suc n * d) h).1 in
    let q : 0 < suc n * d = mul-pos (zero-lt-suc n) p in
    absurd (omega arith)
sign_of_multiple true k d (negsuc n) p h = refl

-- ---- accepted exactly when it is z and z is within the limits

pub accepted_is_within : (x : Float) {z : ℤ} → whole x ≡ Some z → Within limit z
accepted_is_within nan h = absurd (taken nan h)
accepted_is_within (inf s) h = absurd (taken (inf s) h)
accepted_is_within (fin s m e) h =
    let k = taken (fin s m e) h in
    record { size = rw (k.number, size_of_signed s (size m e)) k.near }

pub accepted_is_exact : (x : Float) {z : ℤ} → whole x ≡ Some z → Is x z
accepted_is_exact nan h = absurd (taken nan h)
accepted_is_exact (inf s) h = absurd (taken (inf s) h)
accepted_is_exact (fin s m e) h =
    let k = taken (fin s m e) h in
    rw (k.number, k.sized) (signed_times s (size m e) (down e))

pub exact_and_within_is_accepted : (x : Float) {z : ℤ} → Is x z → Within limit z → whole x ≡ Some z
unfolding whole
exact_and_within_is_accepted nan h w = absurd h
exact_and_within_is_accepted (inf s) h w = absurd h
exact_and_within_is_accepted (fin s m e) {z} h w =
    let k : m * up e ≡ nat_abs z * down e = sym (size_of_signed s (m * up e)) ∙ ap nat_abs h ∙ size_times z (down e) in
    let l : m * up e ≤ limit * down e = rw k (mul-le-mul_right (down e) w.size) in
    rw (
      is_whole_number s m e (nat_abs z) k,
      le-leb (m * up e) (limit * down e) l,
      size_is s m e (nat_abs z) k,
      sign_of_multiple s (m * up e) (down e) z (down_pos e) h,
    )

-- ---- the float of a whole number

has_value_is : (x : Float) (s : Bool) (n : ℕ) → HasValue x s n 1 → Is x (signed s n)
has_value_is nan s n v = v
has_value_is (inf t) s n v = v
has_value_is (fin t m e) s n v = rw (v.0, sym (mul-one (m * up e)) ∙ v.1) (signed_times s n (down e))

-- of either precision, up to 2^24 or 2^53
module _ (f : Format) where
  pub float_is : (z : ℤ) → Within (2 ^ prec f) z → Is (of_int f z) z
  unfolding of_int
  float_is (pos n) w = has_value_is (of_int f (pos n)) false n (round_whole f false n w.size)
  float_is (negsuc n) w = has_value_is (of_int f (negsuc n)) true (suc n) (round_whole f true (suc n) w.size)

  -- zero is plus zero
  pub float_is_no_minus_zero : (z : ℤ) → Within (2 ^ prec f) z → of_int f z ≡ minus_zero → ⊥
  unfolding of_int
  float_is_no_minus_zero (pos n) w e = true≢false (subst (λ (x : Float). HasValue x false n 1) e (round_whole f false n w.size)).0
  float_is_no_minus_zero (negsuc n) w e =
      let none : 0 ≡ suc n * 1 = (subst (λ (x : Float). HasValue x true (suc n) 1) e (round_whole f true (suc n) w.size)).1 in
      absurd (omega arith)

pub double_of_whole_number_is_accepted : (z : ℤ) → Within limit z → whole (of_int binary64 z) ≡ Some z
double_of_whole_number_is_accepted z w =
    let h : nat_abs z ≤ limit = w.size in
    exact_and_within_is_accepted (of_int binary64 z) (float_is binary64 z (record { size = omega arith })) w

by_sign : (s : Bool) (m : ℕ) (e : ℤ) (n : ℕ) → T (fits binary64 (fin s m e)) → n ≤ limit → HasValue (fin s m e) s n 1
    → (fin s m e ≡ of_int binary64 (signed s n)) ⊎ ((fin s m e ≡ minus_zero) × (signed s n ≡ pos 0))
unfolding of_int fits
by_sign false m e n f l v =
    inl (whole_unique binary64 _ _ false n f (of_int-fits binary64 (pos n)) v (round_whole binary64 false n (omega arith)))
by_sign true m e zero f l v = inr (whole_unique binary64 _ minus_zero true 0 f tt v (refl, refl), refl)
by_sign true m e (suc n) f l v =
    inl (whole_unique binary64 _ _ true (suc n) f (of_int-fits binary64 (negsuc n)) v (round_whole binary64 true (suc n) (omega arith)))

pub accepted_is_the_double_or_minus_zero : (x : Float) {z : ℤ} → T (fits binary64 x) → whole x ≡ Some z
    → (x ≡ of_int binary64 z) ⊎ ((x ≡ minus_zero) × (z ≡ pos 0))
accepted_is_the_double_or_minus_zero nan f h = absurd (taken nan h)
accepted_is_the_double_or_minus_zero (inf s) f h = absurd (taken (inf s) h)
accepted_is_the_double_or_minus_zero (fin s m e) f h =
    let k = taken (fin s m e) h in
    rw k.number (by_sign s m e (size m e) f k.near (refl, mul-one (m * up e) ∙ k.sized))
