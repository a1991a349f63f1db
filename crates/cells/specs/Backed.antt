-- A table of the faces on the other side.
use Rattle.std.specs.Prelude.{List, ◌≡◌, ℕ, ◌<◌, length, get_or}
use Rattle.limits.specs.Limits.{wall}
use Rattle.cells.specs.Lists.{Cells, face_count, neighbour, back}

-- of each face that is not wall, the face on its other side
pub record Backed (T : Cells) (bs : List ℕ) : Type 0 where
  pub whole : length bs ≡ face_count T
  pub stands : (f : ℕ) → f < face_count T → (neighbour T f ≡ wall → ⊥) → get_or bs f 0 ≡ back T f
