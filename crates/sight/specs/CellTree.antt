-- What is seen through the lines around the stand, over the code's tables: corners seen from the stand, four numbers a face, and two numbers a face; and within
-- a range.
use Rattle.std.specs.Prelude.{List, ◌≡◌, ℕ, zero, suc, ◌+◌, ◌*◌, ◌-◌, ◌<◌, ◌≤◌, length, get_or, ℤ}
use Rattle.limits.specs.Limits.{wall}
use Rattle.cells.specs.Lists.{Cells, cell_count, first, side_count}
use Rattle.stand.specs.declared.locate.Footing.{Footing}
use Rattle.stand.specs.declared.locate.Footing.TheVariants.{Inside, Side}
use Rattle.fan.specs.Sight.{Sight, follow}
use Rattle.fan.specs.Sight.Sight.{both}
use Rattle.expand.specs.Floor.{floor_of}

-- side f, from the corner at which it starts to the corner at which it ends
abbrev pub side_tree : List ℤ → List ℕ → List ℕ → ℕ → ℕ → ℕ → Sight
side_tree zs ls fs R n f = follow (floor_of zs ls fs R) n f (get_or fs (2 * f) 0) (get_or ls (4 * f) 0)

-- side f and the m sides after it, one after the other
unfoldable pub cell_tree : List ℤ → List ℕ → List ℕ → ℕ → ℕ → ℕ → ℕ → Sight
cell_tree zs ls fs R n zero f = side_tree zs ls fs R n f
cell_tree zs ls fs R n (suc m) f = both (side_tree zs ls fs R n f) (cell_tree zs ls fs R n m (get_or ls (4 * f + 3) 0))

-- the other sides of g's cell, in order after g
abbrev pub others_tree : List ℤ → List ℕ → List ℕ → ℕ → ℕ → ℕ → Sight
others_tree zs ls fs R n g = cell_tree zs ls fs R n (get_or ls (4 * g + 2) 0) (get_or ls (4 * g + 3) 0)

-- all sides of cell c in their order
abbrev pub inside_tree : List ℤ → List ℕ → Cells → ℕ → ℕ → Sight
inside_tree zs ls T R c = cell_tree zs ls T.faces R (cell_count T - 1) (side_count T c - 1) (first T c)

-- the other sides of the cell of side f, and then those of the cell across it
abbrev pub within_tree : List ℤ → List ℕ → List ℕ → ℕ → ℕ → ℕ → Sight
within_tree zs ls fs R m f = both (others_tree zs ls fs R (m - 2) f) (others_tree zs ls fs R (m - 2) (get_or ls (4 * f + 1) 0))

-- the lines around a stand that was found at p
abbrev pub stand_tree : List ℤ → List ℕ → Cells → ℕ → Footing → Sight
stand_tree zs ls T R (Inside c) = inside_tree zs ls T R c
stand_tree zs ls T R (Side c k) = within_tree zs ls T.faces R (cell_count T) (first T c + k)

-- what such a stand has in the tables: its cell; or its side, which is free, and a second cell
abbrev pub StandsIn : List ℕ → Cells → Footing → Type 0
StandsIn ls T (Inside c) = c < cell_count T
StandsIn ls T (Side c k) = (c < cell_count T) × (4 * (first T c + k) + 3 < length ls) × (get_or ls (4 * (first T c + k) + 1) 0 ≡ wall → ⊥) × (2 ≤ cell_count T)
