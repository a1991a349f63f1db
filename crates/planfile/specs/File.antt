-- The plan file (document 01, "The plan file"; document 02, A14): the one file of three lists, and the lists of a file.
use Rattle.std.specs.Prelude.{List, ◌++◌, map, ℕ, ◌+◌, ◌/◌, ℤ}
use Rattle.records.specs.Bytes.{numbers_at, signed}
use Rattle.records.specs.Record.{corner_record, cell_record, door_record, body_length, kind_at, second, third}

-- ---- the one file

-- a plan is exactly three records in this order, and nothing after them; the list of cells is of kind k
unfoldable pub file_of : ℕ → List ℤ → List ℕ → List ℕ → List ℕ
file_of k cs ts ds = corner_record cs ++ (cell_record k ts ++ door_record ds)

-- ---- the lists of a file

unfoldable pub corners_in : List ℕ → List ℤ
corners_in s = map signed (numbers_at 4 s 6 (body_length s 0 / 4))

unfoldable pub cells_in : List ℕ → List ℕ
cells_in s = numbers_at 2 s (second s + 6) (body_length s (second s) / 2)

unfoldable pub doors_in : List ℕ → List ℕ
doors_in s = numbers_at 2 s (third s + 6) (body_length s (third s) / 2)

-- the kind of the list of cells
abbrev pub kind_in : List ℕ → ℕ
kind_in s = kind_at s (second s)
