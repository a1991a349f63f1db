-- Records (document 01, "The plan file"; document 02, A14): the kinds of a plan file, and the frame of a file.
use Rattle.std.specs.Prelude.{Bool, ◌&&◌, ◌||◌, List, ◌++◌, map, ℕ, ◌+◌, ◌%◌, eqb, length, ℤ}
use Rattle.records.specs.Bytes.{bytes, number_at, all_bytes, complement}

-- ---- the one record of a body, and of each list

-- a record is a four-byte length of its body, a two-byte kind, then the body
unfoldable pub record_of : ℕ → List ℕ → List ℕ
record_of kind body = bytes 4 (length body) ++ (bytes 2 kind ++ body)

-- corners: 8 bytes each, signed 32-bit x then y
unfoldable pub corner_record : List ℤ → List ℕ
corner_record cs = record_of 1 (all_bytes 4 (map complement cs))

-- cells, of kind 2 or 12: two-byte numbers
unfoldable pub cell_record : ℕ → List ℕ → List ℕ
cell_record k ts = record_of k (all_bytes 2 ts)

-- doors: 2 bytes each, a face number
unfoldable pub door_record : List ℕ → List ℕ
door_record ds = record_of 3 (all_bytes 2 ds)

-- ---- a file's three records

-- the length of the body of the record that begins at `at`
abbrev pub body_length : List ℕ → ℕ → ℕ
body_length s at = number_at 4 s at

-- the kind of the record that begins at `at`
abbrev pub kind_at : List ℕ → ℕ → ℕ
kind_at s at = number_at 2 s (at + 4)

-- where the record that begins at `at` ends
unfoldable pub end_of : List ℕ → ℕ → ℕ
end_of s at = at + 6 + body_length s at

-- where the second record begins, and the third
abbrev pub second : List ℕ → ℕ
second s = end_of s 0

abbrev pub third : List ℕ → ℕ
third s = end_of s (second s)

-- the record that begins at `at` is of this kind, and its body is a multiple of `size`
unfoldable pub is_record : List ℕ → ℕ → ℕ → ℕ → Bool
is_record s at kind size = eqb (kind_at s at) kind && eqb (body_length s at % size) 0

-- it is a list of cells: of kind 2, 12 bytes each, or of kind 12, whole numbers of two bytes
unfoldable pub is_cells : List ℕ → ℕ → Bool
is_cells s at = is_record s at 2 12 || is_record s at 12 2

-- the file is the three records in their order, and nothing after them: then no byte past its end is read
unfoldable pub framed : List ℕ → Bool
framed s = eqb (end_of s (third s)) (length s) && is_record s 0 1 8 && is_cells s (second s) && is_record s (third s) 3 2
