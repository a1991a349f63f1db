-- A table of the faces on the other side: of each free face the one that `back` gives.
use Rattle.std.specs.Prelude.{List, ◌≡◌, ℕ, ◌<◌, length, get_or}
use Rattle.limits.specs.Limits.{wall}
use Rattle.cells.specs.Lists.{Cells, face_count, neighbour, back}

-- it stands for the first n faces
pub record BackedBelow (T : Cells) (n : ℕ) (bs : List ℕ) : Type 0 where
  pub whole : length bs ≡ face_count T
  pub stands : (f : ℕ) → f < n → (neighbour T f ≡ wall → ⊥) → get_or bs f 0 ≡ back T f
