-- The area test, the containment test of one side, and whether a point is strictly within a side (document 01, "Side value and plan check" and "The
-- stand"; document 02, A4 and A14).
use Rattle.std.specs.Prelude.{Bool, true, false, not, ◌&&◌, List, ℤ, pos}
use Rattle.std.specs.Int.Signed.{lt_z, le_z}
use Rattle.plane.specs.Side.{Point, corner, side, side_of}
use Rattle.plane.specs.Cone.{minus, dot}
use Rattle.plane.specs.declared.Containment.{Containment}
use Rattle.plane.specs.declared.Containment.TheVariants.{Inside, Border, Outside}

-- a cell is right when its side value is positive
abbrev pub right_cell : List (List ℤ) → Bool
right_cell c = lt_z (pos 0) (side_of c)

-- by whether every side value is positive, and whether none is negative
abbrev pub chosen : Bool → Bool → Containment
chosen true n = Inside
chosen false true = Border
chosen false false = Outside

-- by one side value
unfoldable pub by_value : ℤ → Containment
by_value s = chosen (lt_z (pos 0) s) (le_z (pos 0) s)

-- where a side's third point lies against it
abbrev pub beside_of : List (List ℤ) → Containment
beside_of p = by_value (side_of p)

-- q is strictly within the side from a to b: on its line, and seen from q its two ends lie in opposite directions
unfoldable pub is_within : Point → Point → Point → Bool
is_within a b q = not (lt_z (side a b q) (pos 0)) && not (lt_z (pos 0) (side a b q)) && lt_z (dot (minus a q) (minus b q)) (pos 0)

-- of a side's two ends and a third point
abbrev pub within_of : List (List ℤ) → Bool
within_of p = is_within (corner p 0) (corner p 1) (corner p 2)
