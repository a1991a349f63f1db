-- A list of cells counted: how many cells and faces it is cut into.
use Rattle.std.specs.Prelude.{true, false, List, ◌≡◌, ℕ, ◌<◌, length, get_or, Option, Some, None}
use Rattle.cells.specs.Lists.{cell_count, face_count}
use Rattle.cells.specs.Cut.{cut, is_whole, cells_of}
use Rattle.draw.specs.declared.Sizes.{Sizes}

unfoldable pub counted : ℕ → List ℕ → Option Sizes
counted k ts =
    elim (is_whole (cut k ts)) [ true ↦ Some (record { cells = cell_count (cells_of k ts); faces = face_count (cells_of k ts) }) | false ↦ None ]

-- where n is told of place i, it is this list's number there
abbrev pub Tells : (ℕ → ℕ → Type 0) → List ℕ → Type 0
Tells told ts = (i n : ℕ) → i < length ts → told i n → n ≡ get_or ts i 0
