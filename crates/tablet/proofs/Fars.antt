-- Too far or not: the code's comparisons decide it, and a difference that is not too far is a whole number that single precision has.
use mathlib.Core.Bool.{Bool, true, false, ◌||◌}
use mathlib.Core.Path.{◌≡◌, refl, sym, ap₂, ◌∙◌}
use Prim.Native.Nat.{suc}
use native.Mathlib.Omega.{arith}
use borrow.Author.Tests.{ltb-true, ltb-false, lt-ltb, le-ltb}
use lib.Dec.{T, ltb, lt→ltb, le→leb}
use lib.IntN.{ℤ, pos, negsuc, neg_ℤ, nat_abs}
use lib.Signed.{lt_z}
use lib.Ieee.{binary32, in_float}
use Rattle.exact.specs.Within.{Within}
use Rattle.exact.proofs.Truth.{neither_true}
use Rattle.plane.specs.Side.{Point}
use Rattle.limits.specs.Limits.{most_offset}
use Rattle.tablet.specs.Drawing.{far}

-- ---- one axis

abbrev beyond : ℤ → Bool
beyond z = ltb most_offset (nat_abs z)

-- past either end
abbrev pub outside : ℤ → Bool
outside z = lt_z z (neg_ℤ (pos most_offset)) || lt_z (pos most_offset) z

outside_is_beyond : (z : ℤ) → outside z ≡ beyond z
outside_is_beyond (pos n) = refl
outside_is_beyond (negsuc n) = by_test (ltb 16777215 n) refl
  where
    by_test : (t : Bool) → ltb 16777215 n ≡ t → (t || false) ≡ ltb most_offset (suc n)
    by_test true h = sym (lt-ltb most_offset (suc n) (omega (arith, ltb-true 16777215 n h)))
    by_test false h = sym (le-ltb most_offset (suc n) (omega (arith, ltb-false 16777215 n h)))

-- ---- both axes, where the code has u and v for the differences

pub far_is_outside : (d : Point) {u v : ℤ} → u ≡ d.x → v ≡ d.y → (outside u || outside v) ≡ far d
unfolding far
far_is_outside d is_u is_v = ap₂ (λ (u v : ℤ). outside u || outside v) is_u is_v ∙ ap₂ ◌||◌ (outside_is_beyond d.x) (outside_is_beyond d.y)

-- ---- a difference that is not too far

-- is no further than 2^24
pub not_far : (d : Point) → far d ≡ false → Within most_offset d.x × Within most_offset d.y
unfolding far
not_far d h =
    let n = neither_true (beyond d.x) (beyond d.y) h in
    (record { size = ltb-false _ _ n.0 }, record { size = ltb-false _ _ n.1 })

-- and so the cast takes it
pub in_single : (z : ℤ) → Within most_offset z → T (in_float binary32 z)
unfolding in_float
in_single (pos n) h = le→leb n 16777216 h.size
in_single (negsuc n) h = lt→ltb n 16777216 h.size
