-- The boxes of cells (document 02, A7 and A3), four numbers a cell in a table. Only that a box holds its cell is asked of it.
use Rattle.std.specs.Prelude.{Bool, ◌&&◌, ◌||◌, List, ℕ, suc, ◌+◌, ◌*◌, ◌<◌, ◌≤◌, length, get_or, ℤ, pos, ◌≤ℤ◌}
use Rattle.std.specs.Int.Signed.{lt_z}
use Rattle.plane.specs.Side.{Point}
use Rattle.cells.specs.Lists.{Cells, corner_at, cell_count, first, start}
use Rattle.boxes.specs.declared.Bounds.{Bounds}

-- p lies in the box, its border included
pub record Holds (b : Bounds) (p : Point) : Type 0 where
  pub not_left : b.left ≤ℤ p.x
  pub not_right : p.x ≤ℤ b.right
  pub not_below : b.low ≤ℤ p.y
  pub not_above : p.y ≤ℤ b.high

-- the first box holds the second
pub record Wider (b a : Bounds) : Type 0 where
  pub left : b.left ≤ℤ a.left
  pub right : a.right ≤ℤ b.right
  pub low : b.low ≤ℤ a.low
  pub high : a.high ≤ℤ b.high

-- the box holds every corner of cell c
pub record HoldsCell (cs : List ℤ) (T : Cells) (c : ℕ) (b : Bounds) : Type 0 where
  pub corners : (f : ℕ) → first T c ≤ f → f < first T (suc c) → Holds b (corner_at cs (start T f))

-- the box of cell c in a table: left, right, low, high
abbrev pub box_at : List ℤ → ℕ → Bounds
box_at bs c =
    record {
      left = get_or bs (4 * c) (pos 0);
      right = get_or bs (4 * c + 1) (pos 0);
      low = get_or bs (4 * c + 2) (pos 0);
      high = get_or bs (4 * c + 3) (pos 0);
    }

-- the table has the boxes of the first n cells, and room for those of all
pub record BoxedBelow (cs : List ℤ) (T : Cells) (n : ℕ) (bs : List ℤ) : Type 0 where
  pub room : 4 * cell_count T ≤ length bs
  pub each : (c : ℕ) → c < n → HoldsCell cs T c (box_at bs c)

-- and of all cells
abbrev pub Boxed : List ℤ → Cells → List ℤ → Type 0
Boxed cs T bs = BoxedBelow cs T (cell_count T) bs

-- two boxes meet strictly, in x and in y
unfoldable pub meeting : Bounds → Bounds → Bool
meeting a b = lt_z a.left b.right && lt_z b.left a.right && lt_z a.low b.high && lt_z b.low a.high

-- p lies past the box: beyond one of its four borders, and not on it
unfoldable pub past : Bounds → Point → Bool
past b p = lt_z p.x b.left || lt_z b.right p.x || lt_z p.y b.low || lt_z b.high p.y
