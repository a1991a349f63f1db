-- What a plan that passed the check, or a part of it, is known to be.
use Rattle.std.specs.Prelude.{true, false, List, ◌≡◌, ℕ, suc, ◌+◌, ◌%◌, ◌<◌, ◌≤◌, length, ℤ}
use Rattle.plane.specs.Side.{Near}
use Rattle.limits.specs.Limits.{sized, least_sides, most_sides}
use Rattle.cells.specs.Lists.{Cells, corner_count, corner_at, cell_count, face_count, first, start}
use Rattle.cells.specs.Check.{wrong_cell, wrong_neighbour, wrong_door, in_a_pair}

-- every corner's coordinates are within the limits
pub record CornersNear (cs : List ℤ) : Type 0 where
  pub near : (i : ℕ) → i < corner_count cs → Near (corner_at cs i)

-- faces are numbered in file order: the cells' sides, 3 to 8 each, one after another, and nothing besides
pub record Numbered (T : Cells) : Type 0 where
  pub whole_faces : length T.faces % 2 ≡ 0
  pub begins : first T 0 ≡ 0
  pub at_least : (c : ℕ) → c < cell_count T → first T c + least_sides ≤ first T (suc c)
  pub at_most : (c : ℕ) → c < cell_count T → first T (suc c) ≤ first T c + most_sides
  pub ends : first T (cell_count T) ≡ face_count T
  pub firsts_stand : length T.firsts ≡ suc (cell_count T)

-- every corner number of a cell exists
pub record CornersExist (cs : List ℤ) (T : Cells) : Type 0 where
  pub exists : (f : ℕ) → f < face_count T → start T f < corner_count cs

-- every cell is right
pub record CellsRight (cs : List ℤ) (T : Cells) : Type 0 where
  pub right : (c : ℕ) → c < cell_count T → wrong_cell cs T c ≡ false

-- every neighbour is right
pub record NeighboursRight (T : Cells) : Type 0 where
  pub right : (f : ℕ) → f < face_count T → wrong_neighbour T f ≡ false

-- an accepted plan
pub record Sound (cs : List ℤ) (T : Cells) (ds : List ℕ) : Type 0 where
  pub whole_corners : length cs % 2 ≡ 0
  pub numbered : Numbered T
  pub in_size : sized (corner_count cs) (cell_count T) (length ds) ≡ true
  pub corners : CornersNear cs
  pub cells : CellsRight cs T
  pub neighbours : NeighboursRight T
  pub doors : (i : ℕ) → i < length ds → wrong_door T ds i ≡ false
  pub apart : (c : ℕ) → c < cell_count T → in_a_pair cs T c ≡ false
