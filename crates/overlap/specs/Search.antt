-- What a search for overlapping cells has found (document 02, A7): the least cell of any pair looked at. In which order it looks does not show.
use Rattle.std.specs.Prelude.{Bool, true, false, not, List, ◌≡◌, ℕ, ◌<◌, ◌≤◌, length, get_or, ℤ, pos}
use Rattle.std.specs.Int.Signed.{lt_z}
use Rattle.plane.specs.Side.{Point, side, Near}
use Rattle.cells.specs.Lists.{Cells, corner_at, next, start}
use Rattle.cells.specs.Check.{some_face, overlapping, in_a_pair}
use Rattle.cells.specs.Sound.{CornersNear, Numbered, CellsRight}

-- corners near, and right cells: what is known when cells are compared
pub record Ready (cs : List ℤ) (T : Cells) : Type 0 where
  pub near : CornersNear cs
  pub numbered : Numbered T
  pub right : CellsRight cs T

-- every corner of cell e is on the line from a to b or right of it
unfoldable pub cut_off : List ℤ → Cells → Point → Point → ℕ → Bool
cut_off cs T a b e = not (some_face T e (λ g. lt_z (pos 0) (side a b (corner_at cs (start T g)))))

-- a and b are the ends of face f, and near
pub record EndsOf (cs : List ℤ) (T : Cells) (f : ℕ) (a b : Point) : Type 0 where
  pub from : a ≡ corner_at cs (start T f)
  pub towards : b ≡ corner_at cs (start T (next T f))
  pub from_near : Near a
  pub towards_near : Near b

-- cell c overlaps none of the cells of a list from place n on and before place r
pub record Apart (cs : List ℤ) (T : Cells) (xs : List ℕ) (c n r : ℕ) : Type 0 where
  pub not_before : n ≤ r
  pub at_most : r ≤ length xs
  pub none : (j : ℕ) → n ≤ j → j < r → overlapping cs T c (get_or xs j 0) ≡ false

-- where cells c and e overlap, r is no greater than either
abbrev pub Passes : List ℤ → Cells → ℕ → ℕ → ℕ → Type 0
Passes cs T r c e = overlapping cs T c e ≡ true → (r ≤ c) × (r ≤ e)

-- in place of best: no greater, and best itself or a cell of an overlapping pair
pub record Found (cs : List ℤ) (T : Cells) (best r : ℕ) : Type 0 where
  pub no_greater : r ≤ best
  pub in_one : (r ≡ best → ⊥) → in_a_pair cs T r ≡ true

-- the cell at place s of a list against those from place n on and before place u
pub record Against (cs : List ℤ) (T : Cells) (xs : List ℕ) (s n u best r : ℕ) : Type 0 where
  pub found : Found cs T best r
  pub passes : (j : ℕ) → n ≤ j → j < u → Passes cs T r (get_or xs s 0) (get_or xs j 0)

-- every two places of a list before place s, and each of those against every later place
pub record SettlesBelow (cs : List ℤ) (T : Cells) (xs : List ℕ) (s best r : ℕ) : Type 0 where
  pub found : Found cs T best r
  pub passes : (i j : ℕ) → i < s → i < j → j < length xs → Passes cs T r (get_or xs i 0) (get_or xs j 0)

-- every two places of a list
pub record Settles (cs : List ℤ) (T : Cells) (xs : List ℕ) (best r : ℕ) : Type 0 where
  pub found : Found cs T best r
  pub passes : (i j : ℕ) → i < length xs → j < length xs → Passes cs T r (get_or xs i 0) (get_or xs j 0)
