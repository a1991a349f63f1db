-- Numbers of boxes as the code reads them back: each fits 32 bits.
use mathlib.Core.Bool.{true, false, ◌||◌}
use mathlib.Core.Logic.{◌⊎◌, inl, inr}
use mathlib.Core.Path.{◌≡◌, refl, sym, ap₂, subst}
use Prim.Native.Nat.{◌^◌, ◌<◌, ◌≤◌}
use native.Mathlib.Omega.{arith}
use lib.IntN.{ℤ, pos, negsuc, nat_abs, ◌*ℤ◌}
use lib.Signed.{mag, lt_z, ◌<ℤ◌, ◌≤ℤ◌, <ℤ-≤ℤ_trans, clash_ℤ}
use mir.Syntax.{w32, w64}
use mir.Val.{hbits, to_z, of_z}
use Rattle.exact.specs.Within.{Within}
use Rattle.exact.proofs.Bounds.{Exactly, handed, itself, times, reads_back, widened}
use Rattle.exact.proofs.Order.{less_or_not}
use Rattle.boxes.specs.Boxes.{past}
use Rattle.boxes.specs.Parts.{reaching}
use Rattle.boxes.specs.declared.Bounds.{Bounds}
use Rattle.boxes.specs.declared.part.Line.{Line}

-- a number of 32 bits
abbrev pub Fits32 : ℤ → Type 0
Fits32 z = mag z < 2 ^ hbits w32

-- as it is read back
abbrev pub back : ℤ → ℤ
back z = to_z w32 (of_z w32 z)

pub same : (z : ℤ) → Fits32 z → back z ≡ z
same z f = handed w32 {r = z} {s = z} f refl

-- at most what is at most a third number
pub at_most_then : {a b c : ℤ} → a ≤ℤ b → b ≤ℤ c → a ≤ℤ c
at_most_then {a} {b} {c} h k = by_order (less_or_not c a)
  where
    by_order : (c <ℤ a) ⊎ (a ≤ℤ c) → a ≤ℤ c
    by_order (inl l) = clash_ℤ (<ℤ-≤ℤ_trans l h) k
    by_order (inr l) = l

-- what is known of r, known of what is read back of it
module _ {r a : ℤ} (f : Fits32 r) where
  pub back_is_at_most : r ≤ℤ a → back r ≤ℤ a
  back_is_at_most h = subst (λ (z : ℤ). z ≤ℤ a) (sym (same r f)) h

  pub back_is_at_least : a ≤ℤ r → a ≤ℤ back r
  back_is_at_least h = subst (λ (z : ℤ). a ≤ℤ z) (sym (same r f)) h

  -- where a was read back too
  module _ (g : Fits32 a) where
    pub both_at_most : r ≤ℤ back a → back r ≤ℤ a
    both_at_most h = back_is_at_most (subst (λ (z : ℤ). r ≤ℤ z) (same a g) h)

    pub both_at_least : back a ≤ℤ r → a ≤ℤ back r
    both_at_least h = back_is_at_least (subst (λ (z : ℤ). z ≤ℤ r) (same a g) h)

-- ---- numbers made wider

within_32_bits : (z : ℤ) → Fits32 z → nat_abs z ≤ 2147483648
within_32_bits (pos n) f = omega (arith, f)
within_32_bits (negsuc n) f = omega (arith, f)

-- as it is cast to 64 bits and read back
abbrev pub wide : ℤ → ℤ
wide z = to_z w64 (of_z w64 (back z))

-- it is itself, of at most 2^31
pub made_wide : (z : ℤ) → Fits32 z → Exactly (wide z) z 2147483648
made_wide z f = record { is = widened w32 w64 tt z f; size = within_32_bits z f }

-- and twice itself, where the code doubles it
pub doubled : (z : ℤ) → Fits32 z → Exactly (pos 2 *ℤ wide z) (pos 2 *ℤ z) 4294967296
doubled z f = let two : Within 2 (pos 2) = record { size = omega arith } in times (itself two) (made_wide z f)

-- ---- does a point lie past a box?

-- the code's tests of one of its coordinates
module _ (z a : ℤ) (f : mag z < 2 ^ hbits w64) (g : Fits32 a) where
  test_below : lt_z (to_z w64 (of_z w64 z)) (wide a) ≡ lt_z z a
  test_below = ap₂ lt_z (handed w64 {r = z} {s = z} f refl) (made_wide a g).is

  test_above : lt_z (wide a) (to_z w64 (of_z w64 z)) ≡ lt_z a z
  test_above = ap₂ lt_z (made_wide a g).is (handed w64 {r = z} {s = z} f refl)

-- all four
pub test_past : (b : Bounds) (x y : ℤ) → mag x < 2 ^ hbits w64 → mag y < 2 ^ hbits w64 → Fits32 b.left → Fits32 b.right → Fits32 b.low → Fits32 b.high → (lt_z (to_z w64 (of_z w64 x)) (wide b.left) || lt_z (wide b.right) (to_z w64 (of_z w64 x)) || lt_z (to_z w64 (of_z w64 y)) (wide b.low) || lt_z (wide b.high) (to_z w64 (of_z w64 y))) ≡ past b (record { x = x; y = y })
unfolding past
test_past b x y f g l r d u =
    rw (test_below x b.left f l, test_above x b.right f r, test_below y b.low g d, test_above y b.high g u) refl

-- ---- does a box reach to a side?

-- the code's test against twice a number
module _ (t z : ℤ) (f : mag t < 2 ^ hbits w64) (g : Fits32 z) where
  pub test_below_twice : lt_z (to_z w64 (of_z w64 t)) (to_z w64 (of_z w64 (pos 2 *ℤ wide z))) ≡ lt_z t (pos 2 *ℤ z)
  test_below_twice = ap₂ lt_z (handed w64 {r = t} {s = t} f refl) (reads_back w64 tt (doubled z g)).is

  pub test_above_twice : lt_z (to_z w64 (of_z w64 (pos 2 *ℤ wide z))) (to_z w64 (of_z w64 t)) ≡ lt_z (pos 2 *ℤ z) t
  test_above_twice = ap₂ lt_z (reads_back w64 tt (doubled z g)).is (handed w64 {r = t} {s = t} f refl)

-- one test for each kind of line and each side
module _ (b : Bounds) (l : Line) where
  pub reaches_right : l.upright ≡ true → l.beyond ≡ true → lt_z l.twice (pos 2 *ℤ b.right) ≡ reaching b l
  unfolding reaching
  reaches_right h k = rw (h, k, reaching) refl

  pub reaches_left : l.upright ≡ true → l.beyond ≡ false → lt_z (pos 2 *ℤ b.left) l.twice ≡ reaching b l
  unfolding reaching
  reaches_left h k = rw (h, k, reaching) refl

  pub reaches_up : l.upright ≡ false → l.beyond ≡ true → lt_z l.twice (pos 2 *ℤ b.high) ≡ reaching b l
  unfolding reaching
  reaches_up h k = rw (h, k, reaching) refl

  pub reaches_down : l.upright ≡ false → l.beyond ≡ false → lt_z (pos 2 *ℤ b.low) l.twice ≡ reaching b l
  unfolding reaching
  reaches_down h k = rw (h, k, reaching) refl
