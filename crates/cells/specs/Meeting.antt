-- Where two cells meet (document 01, "Side value and plan check").
use Rattle.std.specs.Prelude.{Bool, ◌&&◌, ◌≡◌, ℕ, suc, ◌<◌, eqb, Option, None, Some}
use Rattle.cells.specs.Lists.{Cells, cell_count, face_count, first, home, next, start, neighbour, back}

-- face g has the same two corners as face f, reversed
unfoldable pub reversed : Cells → ℕ → ℕ → Bool
reversed T f g = eqb (start T g) (start T (next T f)) && eqb (start T (next T g)) (start T f)

-- a side of face f's neighbour answers
abbrev pub Answered : Cells → ℕ → Type 0
Answered T f = back T f < first T (suc (neighbour T f))

-- r is the face of cell d at which it meets cell c: the one on the other side of a face of c; none where d has none
pub data Meeting (T : Cells) (c d : ℕ) (r : Option ℕ) : Type 0 where
  at : (f : ℕ) → f < face_count T → home T f ≡ c → neighbour T f ≡ d → Answered T f → r ≡ Some (back T f) → Meeting T c d r
  nowhere : ((f : ℕ) → f < face_count T → home T f ≡ c → neighbour T f ≡ d → Answered T f → ⊥) → r ≡ None → Meeting T c d r

-- two cells meet at most once: of one cell's faces, another cell answers one
pub record MeetOnce (T : Cells) : Type 0 where
  pub once : (f g : ℕ) → f < face_count T → g < face_count T → home T f ≡ home T g → neighbour T f < cell_count T → neighbour T f ≡ neighbour T g → Answered T f → Answered T g → f ≡ g
