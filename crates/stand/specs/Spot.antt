-- The stand in whole millimetres (document 01, "The stand").
use Rattle.std.specs.Prelude.{true, false, ◌||◌, List, ltb, ℤ, ◌+ℤ◌, Float, None, Option, Some}
use Rattle.cells.specs.Lists.{corner_count, corner_at}
use Rattle.cells.specs.Check.{outside}
use Rattle.number.specs.Whole.{whole}
use Rattle.stand.specs.declared.spot.Stand.{Stand}
use Rattle.stand.specs.declared.spot.Stand.TheVariants.{Point, Offset}

-- two numbers that are each accepted
abbrev pub pair : Option ℤ → Option ℤ → Option (ℤ × ℤ)
pair (Some u) (Some v) = Some (u, v)
pair (Some u) None = None
pair None m = None

unfoldable pub whole_point : Float → Float → Option (ℤ × ℤ)
whole_point x y = pair (whole x) (whole y)

-- the point (x, y), refused where a coordinate is outside the limits
unfoldable pub within_limits : ℤ → ℤ → Option (ℤ × ℤ)
within_limits x y = elim (outside x || outside y) [ true ↦ None | false ↦ Some (x, y) ]

-- an accepted offset from the point (x, y)
abbrev pub offset_by : Option (ℤ × ℤ) → ℤ → ℤ → Option (ℤ × ℤ)
offset_by (Some (u, v)) x y = within_limits (x +ℤ u) (y +ℤ v)
offset_by None x y = None

-- for an offset the corner must exist, the offsets obey the same bound as points, and the sums must lie within the limits
unfoldable pub stood : List ℤ → Stand → Option (ℤ × ℤ)
stood cs (Point x y) = whole_point x y
stood cs (Offset i x y) =
    elim (ltb i (corner_count cs)) [ true ↦ offset_by (whole_point x y) (corner_at cs i).x (corner_at cs i).y | false ↦ None ]
