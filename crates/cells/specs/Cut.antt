-- A list of cells of either kind, cut into its cells (document 01, "The plan file"; document 02, A14).
use Rattle.std.specs.Prelude.{Bool, true, false, ◌&&◌, List, [], ◌∷◌, ◌++◌, ℕ, zero, suc, ◌+◌, ◌*◌, eqb, leb, length, take, drop}
use Rattle.limits.specs.Limits.{least_sides, most_sides, triangles, polygons}
use Rattle.cells.specs.Lists.{Cells}

-- a cell's corner numbers, and across its sides its neighbours
pub record Cell : Type 0 where
  pub corners : List ℕ
  pub neighbours : List ℕ

-- what a list is cut into
pub data Cut : Type 0 where
  whole : List Cell → Cut
  -- a count outside 3 to 8, a cell running past the end, or a leftover
  broken : Cut

-- the cell of n corners at the beginning of a list
unfoldable pub cell_of : ℕ → List ℕ → Cell
cell_of n xs = record { corners = take n xs; neighbours = take n (drop n xs) }

abbrev pub onto : Cell → Cut → Cut
onto c (whole cs) = whole (c ∷ cs)
onto c broken = broken

-- kind 2: cells of three corners. At most n cells are cut off
unfoldable pub cut_triangles : ℕ → List ℕ → Cut
cut_triangles zero [] = whole []
cut_triangles zero (x ∷ xs) = broken
cut_triangles (suc n) [] = whole []
cut_triangles (suc n) (x ∷ xs) =
    elim (leb 6 (length (x ∷ xs))) [ true ↦ onto (cell_of 3 (x ∷ xs)) (cut_triangles n (drop 6 (x ∷ xs))) | false ↦ broken ]

-- kind 12: of each cell first its corner count
unfoldable pub cut_polygons : ℕ → List ℕ → Cut
cut_polygons zero [] = whole []
cut_polygons zero (x ∷ xs) = broken
cut_polygons (suc n) [] = whole []
cut_polygons (suc n) (x ∷ xs) =
    elim (leb least_sides x && leb x most_sides && leb (2 * x) (length xs)) [
      | true ↦ onto (cell_of x xs) (cut_polygons n (drop (2 * x) xs))
      | false ↦ broken
    ]

-- a list has no more cells than numbers; there is no other kind
unfoldable pub cut : ℕ → List ℕ → Cut
cut k ts =
    elim (eqb k triangles) [
      | true ↦ cut_triangles (length ts) ts
      | false ↦ elim (eqb k polygons) [ true ↦ cut_polygons (length ts) ts | false ↦ broken ]
    ]

abbrev pub is_whole : Cut → Bool
is_whole (whole cs) = true
is_whole broken = false

abbrev pub cells_in : Cut → List Cell
cells_in (whole cs) = cs
cells_in broken = []

-- ---- faces in their order

-- two numbers a face: corner, neighbour
unfoldable pub pairs : List ℕ → List ℕ → List ℕ
pairs [] ns = []
pairs (a ∷ bs) [] = []
pairs (a ∷ bs) (n ∷ ns) = a ∷ n ∷ pairs bs ns

unfoldable pub faces_of : List Cell → List ℕ
faces_of [] = []
faces_of (c ∷ cs) = pairs c.corners c.neighbours ++ faces_of cs

-- the first faces of cells whose first is face f, and the face after their last
unfoldable pub firsts_from : ℕ → List Cell → List ℕ
firsts_from f [] = f ∷ []
firsts_from f (c ∷ cs) = f ∷ firsts_from (f + length c.corners) cs

unfoldable pub tables : List Cell → Cells
tables cs = record { faces = faces_of cs; firsts = firsts_from 0 cs }

-- the cells of a list of kind k; none where it is not cut into whole cells
unfoldable pub cells_of : ℕ → List ℕ → Cells
cells_of k ts = tables (cells_in (cut k ts))

-- ---- the one list of each kind

-- a list of kind 12
unfoldable pub as_polygons : List Cell → List ℕ
as_polygons [] = []
as_polygons (c ∷ cs) = length c.corners ∷ (c.corners ++ (c.neighbours ++ as_polygons cs))

-- a list of kind 2, where each cell has three corners
unfoldable pub as_triangles : List Cell → List ℕ
as_triangles [] = []
as_triangles (c ∷ cs) = c.corners ++ (c.neighbours ++ as_triangles cs)
