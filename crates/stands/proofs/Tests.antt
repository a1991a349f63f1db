-- The stand of the code's number, by the tests that it passed and failed. The code's −1 is the word 2^64 − 1.
use mathlib.Core.Bool.{Bool, true, false}
use mathlib.Core.Logic.{◌≢◌}
use mathlib.Core.Path.{◌≡◌, refl, ap, sym, ◌∙◌}
use Prim.Native.Nat.{ℕ, zero, suc, ◌≤◌, ◌<◌}
use native.Mathlib.Omega.{arith}
use borrow.Author.Tests.{leb-true, le-leb}
use lib.Dec.{leb}
use lib.Ieee.{Float}
use lib.IntN.{ℤ, pos, negsuc, nat_abs}
use mir.Syntax.{w64}
use mir.Val.{to_z, of_z}
use Rattle.std.specs.Prelude.{Result, Ok, Err}
use Rattle.std.specs.Result.{OkIff, result_unwrap_or}
use Rattle.std.specs.Int.{FitsUnsignedBits}
use Rattle.exact.proofs.Bounds.{coordinate}
use Rattle.exact.specs.Within.{Within}
use Rattle.number.proofs.Whole.{accepted_is_within}
use Rattle.number.specs.Whole.{whole}
use Rattle.plane.specs.Side.{limit}
use Rattle.stand.specs.declared.spot.Stand.TheVariants.{Point, Offset}
use Rattle.stands.specs.Numbered.{no_corner, by_number, stand_of}
use Rattle.std.specs.Prelude.{None, Option, Some}

-- ---- whole numbers

abbrev minus_one : ℤ
minus_one = negsuc 0

is_minus_one : (z : ℤ) → Within limit z → of_z w64 z ≡ of_z w64 minus_one → z ≡ minus_one
is_minus_one (pos n) w h =
    let l : n ≤ limit = w.size in
    absurd (omega arith)
is_minus_one (negsuc n) w h =
    let l : suc n ≤ limit = w.size in
    ap negsuc (omega arith)

module _ (x y : Float) where
  -- what is left of a number that is not −1, where its corner fits a word of 16 bits or doesn't
  by_corner : {E : Type 0} (z : ℤ) (r : Result ℕ E) → of_z w64 z ≢ of_z w64 minus_one → OkIff r (FitsUnsignedBits 16 z) (nat_abs z)
      → Offset (result_unwrap_or r no_corner) x y ≡ by_number (Some z) x y
  by_corner (pos n) (Ok u) k h = let fits : n < 65536 = h.0 in rw (h.1, le-leb n no_corner (omega arith), by_number)
  by_corner (pos n) (Err e) k h = by_test (leb n no_corner) refl
    where
      by_test : (t : Bool) → leb n no_corner ≡ t → Offset no_corner x y ≡ elim t [ true ↦ Offset n x y | false ↦ Offset no_corner x y ]
      by_test true l = absurd (h (omega (arith, leb-true n no_corner l)))
      by_test false l = refl
  by_corner (negsuc zero) r k h = absurd (k refl)
  by_corner (negsuc (suc n)) (Ok u) k h = absurd h.0
  by_corner (negsuc (suc n)) (Err e) k h = refl

-- ---- the code's number

module _ (c x y : Float) where
  pub refused : whole c ≡ None → Offset no_corner x y ≡ stand_of c x y
  unfolding stand_of
  refused e = ap (λ (m : Option ℤ). by_number m x y) (sym e)

  module _ {z : ℤ} (e : whole c ≡ Some z) where
    read : to_z w64 (of_z w64 z) ≡ z
    read = (coordinate w64 tt (accepted_is_within c e)).is

    of_number : by_number (Some z) x y ≡ stand_of c x y
    unfolding stand_of
    of_number = ap (λ (m : Option ℤ). by_number m x y) (sym e)

    pub passed_first : of_z w64 z ≡ of_z w64 minus_one → Point x y ≡ stand_of c x y
    passed_first h = ap (λ (u : ℤ). by_number (Some u) x y) (sym (is_minus_one z (accepted_is_within c e) h)) ∙ of_number

    pub passed_second : {E : Type 0} (r : Result ℕ E) → of_z w64 z ≢ of_z w64 minus_one
        → OkIff r (FitsUnsignedBits 16 (to_z w64 (of_z w64 z))) (nat_abs (to_z w64 (of_z w64 z))) → Offset (result_unwrap_or r no_corner) x y ≡ stand_of c x y
    passed_second r k h = by_corner x y z r k (rw read at h) ∙ of_number
