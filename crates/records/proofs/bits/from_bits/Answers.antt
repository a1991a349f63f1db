-- Without its sign's bit, a NaN's pattern is a number above the infinity's; any other pattern is its own double's.
use mathlib.Core.Path.{◌≡◌, refl, sym, ◌∙◌}
use mathlib.Core.Bool.{true, false≢true}
use Prim.Native.Nat.{ℕ, ◌%◌, ◌^◌}
use native.Mathlib.Omega.{arith}
use lib.Ieee.{Float, nan, inf, fin, binary64, is_nan, of_bits, div}
use lib.Ieee.Bits.{nan_bits_above, nan_bits_is}
use borrow.Author.Tests.{lt-ltb, le-ltb}
use Rattle.records.proofs.bits.from_bits.Goals as goal

only_nan : (x : Float) → is_nan x ≡ true → nan ≡ x
unfolding is_nan
only_nan nan h = refl
only_nan (inf s) h = absurd (false≢true h)
only_nan (fin s m e) h = absurd (false≢true h)

-- the pattern of plus infinity
abbrev infinity : ℕ
infinity = 0x7ff0_0000_0000_0000

pub float_from_bits-result : goal.float_from_bits-result
float_from_bits-result c = rw (nan_bits_above, le-ltb infinity (c.args.b % 2 ^ 63) (omega arith)) tt

pub returns-then-b-gt9218868437227405312 : goal.returns-then-b-gt9218868437227405312
unfolding div of_bits
returns-then-b-gt9218868437227405312 c = only_nan (of_bits binary64 c.args.b)
    (sym (nan_bits_is binary64 c.args.b) ∙ nan_bits_above binary64 c.args.b ∙ lt-ltb infinity (c.args.b % 2 ^ 63) (omega arith))
