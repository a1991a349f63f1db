-- The limits of a plan (document 01, "The plan file"). The code has the same numbers as constants of `Plan`.
use Rattle.std.specs.Prelude.{Bool, ◌&&◌, ℕ, leb}
use Rattle.plane.specs.Side.{limit}

abbrev pub least_corners : ℕ
least_corners = 3

abbrev pub most_corners : ℕ
most_corners = 2048

abbrev pub least_cells : ℕ
least_cells = 1

abbrev pub most_cells : ℕ
most_cells = 3000

abbrev pub most_doors : ℕ
most_doors = 64

-- the sides, and corners, of one cell (document 02, A14)
abbrev pub least_sides : ℕ
least_sides = 3

abbrev pub most_sides : ℕ
most_sides = 8

-- the kind of a list of cells of three corners, and of a list that has each cell's corner count before it
abbrev pub triangles : ℕ
triangles = 2

abbrev pub polygons : ℕ
polygons = 12

-- the stands of one call (document 02, A1)
abbrev pub most_stands : ℕ
most_stands = 32

-- a stated reach, in millimetres (document 02, A5)
abbrev pub least_reach : ℕ
least_reach = 1

abbrev pub most_reach : ℕ
most_reach = 262144

-- a drawn corner is no further from the stand in either axis, in millimetres (document 02, A2)
abbrev pub most_offset : ℕ
most_offset = 16777216

-- coordinates go from −coordinate_limit to coordinate_limit
abbrev pub coordinate_limit : ℕ
coordinate_limit = limit

-- the neighbour of a side that is wall
abbrev pub wall : ℕ
wall = 65535

-- are the counts of corners, cells and doors within the limits?
unfoldable pub sized : ℕ → ℕ → ℕ → Bool
sized n m k = leb least_corners n && leb n most_corners && leb least_cells m && leb m most_cells && leb k most_doors
