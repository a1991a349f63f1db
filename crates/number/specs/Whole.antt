-- A double as whole millimetres (document 01, "The stand"). A finite double is ±m·2^e, and 2^e is the fraction up e / down e.
use Rattle.std.specs.Prelude.{◌≡◌, ℕ, ◌*◌, ◌/◌, ◌%◌, Bool, true, false, ◌&&◌, ℤ, pos, ◌*ℤ◌, neg_ℤ, ◌==◌, nat_le, Float, None, Option, Some}
use Rattle.std.specs.Float.{nan, inf, fin, float_is_finite}
use Rattle.std.specs.Float.Ieee.{up, down}
use Rattle.plane.specs.Side.{limit}

-- neither a NaN nor an infinity
abbrev pub is_finite : Float → Bool
is_finite = float_is_finite

-- a whole number
unfoldable pub is_whole : Float → Bool
is_whole nan = false
is_whole (inf s) = false
is_whole (fin s m e) = m * up e % down e == 0

-- within the coordinate limits
unfoldable pub is_within : Float → Bool
is_within nan = false
is_within (inf s) = false
is_within (fin s m e) = nat_le (m * up e) (limit * down e)

-- m·2^e without its fraction: the number itself where it is whole
unfoldable pub size : ℕ → ℤ → ℕ
size m e = m * up e / down e

-- the whole number of size n, negative where the double's sign is set; minus zero reads as 0
abbrev pub signed : Bool → ℕ → ℤ
signed false n = pos n
signed true n = neg_ℤ (pos n)

-- the integer of a finite double, without its fraction
unfoldable pub integer : Float → ℤ
unfolding size
integer nan = pos 0
integer (inf s) = pos 0
integer (fin s m e) = signed s (size m e)

-- z where it is accepted, and a refusal where it is not
abbrev pub accepted : Bool → ℤ → Option ℤ
accepted true z = Some z
accepted false z = None

-- a double is accepted exactly when it is finite, a whole number of millimetres and within the coordinate limits; it is read as that number
unfoldable pub whole : Float → Option ℤ
unfolding float_is_finite is_whole is_within integer
whole x = accepted (is_finite x && is_whole x && is_within x) (integer x)

-- the float is exactly the whole number z: ±m·2^e = z, both sides times down e
abbrev pub Is : Float → ℤ → Type 0
Is nan z = ⊥
Is (inf s) z = ⊥
Is (fin s m e) z = signed s (m * up e) ≡ z *ℤ pos (down e)

abbrev pub minus_zero : Float
minus_zero = fin true 0 (pos 0)
