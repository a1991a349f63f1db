-- A plan's corners x, y, x, y, .., and its cells, whichever kind of list they came in (document 01, "The plan file"; document 02, A14).
use Rattle.std.specs.Prelude.{List, Bool, true, false, ◌&&◌, ℕ, suc, ◌+◌, ◌*◌, ◌-◌, ◌/◌, eqb, ltb, length, get_or, ℤ, pos}
use Rattle.plane.specs.Side.{Point}
use Rattle.cells.specs.Least.{least}

abbrev pub corner_count : List ℤ → ℕ
corner_count cs = length cs / 2

-- corner i's point
abbrev pub corner_at : List ℤ → ℕ → Point
corner_at cs i = record { x = get_or cs (2 * i) (pos 0); y = get_or cs (2 * i + 1) (pos 0) }

pub record Cells : Type 0 where
  -- faces are numbered in file order, the sides of a cell one after another: of each face the corner at which it starts, and the neighbour across it
  pub faces : List ℕ
  -- of each cell its first face; last, the number of faces
  pub firsts : List ℕ

abbrev pub cell_count : Cells → ℕ
cell_count T = length T.firsts - 1

abbrev pub face_count : Cells → ℕ
face_count T = length T.faces / 2

-- the first face of cell c; of the cell after the last, the number of faces
abbrev pub first : Cells → ℕ → ℕ
first T c = get_or T.firsts c 0

-- how many sides, and corners, cell c has
abbrev pub side_count : Cells → ℕ → ℕ
side_count T c = first T (suc c) - first T c

-- the cell of face f
unfoldable pub home : Cells → ℕ → ℕ
home T f = least (λ c. ltb f (first T (suc c))) (cell_count T) 0

-- the next side of the same cell: after the last the first
unfoldable pub next : Cells → ℕ → ℕ
next T f = elim (eqb (suc f) (first T (suc (home T f)))) [ true ↦ first T (home T f) | false ↦ suc f ]

-- the corner at which face f starts; it runs to the corner at which the next one starts
unfoldable pub start : Cells → ℕ → ℕ
start T f = get_or T.faces (2 * f) 0

-- the neighbour across face f
unfoldable pub neighbour : Cells → ℕ → ℕ
neighbour T f = get_or T.faces (2 * f + 1) 0

-- face g answers face f: it has the same two corners reversed, and its own neighbour there is f's cell
unfoldable pub answers : Cells → ℕ → ℕ → Bool
answers T f g = eqb (start T g) (start T (next T f)) && eqb (start T (next T g)) (start T f) && eqb (neighbour T g) (home T f)

-- the face on the other side of f: the first side of the neighbour that answers; where none does, the first face of the cell after it
unfoldable pub back : Cells → ℕ → ℕ
back T f = least (answers T f) (side_count T (neighbour T f)) (first T (neighbour T f))

-- the cells that two tables of the code describe
abbrev pub tabled : List ℕ → List ℕ → Cells
tabled faces firsts = record { faces = faces; firsts = firsts }
