-- What is printed for an input (document 01, "Printing program"), and what the call leaves in the lent text.
use Rattle.std.specs.Prelude.{Bool, true, false, ◌&&◌, List, ◌++◌, ℕ, ◌+◌, ◌*◌, ◌≤◌, eqb, ltb, leb, Float, length, drop, replicate, Err, None, Ok, Result}
use Rattle.std.specs.Float.{binary64}
use Rattle.std.specs.Float.Ieee.{of_bits}
use Rattle.std.proofs.lemmas.List.Edits.{sets}
use Rattle.limits.specs.Limits.{most_corners}
use Rattle.limits.specs.declared.Refusal.TheVariants as R
use Rattle.records.specs.Bytes.{number_at}
use Rattle.records.specs.Record.{framed}
use Rattle.planfile.specs.File.{kind_in, corners_in, cells_in, doors_in}
use Rattle.records.specs.Bits.{bits_at}
use Rattle.stand.specs.declared.spot.Stand.{Stand}
use Rattle.stand.specs.declared.spot.Stand.TheVariants.{Point, Offset}
use Rattle.sight.specs.Listing.{listed}
use Rattle.sight.specs.declared.view.Query.{Query}
use Rattle.text.specs.Text.{refusal_line, count_line, row_lines}
use Rattle.sight.specs.declared.list.Counts.{Counts}
use Rattle.limits.specs.declared.Refusal.{Refusal}

-- longer input is refused before all else
abbrev pub most_input : ℕ
most_input = 65536

-- a text of so many bytes has room for every answer: a line of counts or a refusal, then a row's line for each corner
abbrev pub most_text : ℕ
most_text = 64 + 24 * most_corners

-- the table that the listing writes into has room for the largest plan
abbrev pub blank_table : List ℕ
blank_table = replicate (4 * most_corners) 0

-- the input begins with a record of this kind, with a body of so many bytes
unfoldable pub begins : List ℕ → ℕ → ℕ → Bool
begins s kind size = leb (6 + size) (length s) && eqb (number_at 4 s 0) size && eqb (number_at 2 s 4) kind

-- the double in the eight bytes from `at` on
abbrev pub double_at : List ℕ → ℕ → Float
double_at s at = of_bits binary64 (bits_at s at)

-- what is asked under a setting, from a stand; no reach is stated, and no ceiling
abbrev pub asks : ℕ → Stand → Query
asks w s = record { setting = w; stand = s; reach = None }

-- the listing of a plan file so asked
unfoldable pub file_listed : List ℕ → ℕ → Stand → List ℕ → Result Counts Refusal × List ℕ
file_listed file w s table =
    elim (framed file) [
      | true ↦ listed (kind_in file) (corners_in file) (cells_in file) (doors_in file) (asks w s) table
      | false ↦ (Err R.Frame, table)
    ]

-- the lines of a listing or of a refusal
abbrev pub lines : Result Counts Refusal × List ℕ → List ℕ
lines (Ok n, table) = count_line n.rows n.crossings ++ row_lines table n.rows
lines (Err r, table) = refusal_line r

-- a query record, then a plan. Kind 4: setting, x, y. Kind 5: setting, corner, dx, dy
unfoldable pub printed : List ℕ → List ℕ
printed s =
    elim (ltb most_input (length s)) [
      | true ↦ refusal_line R.Size
      | false ↦ elim (begins s 4 24) [
        | true ↦ lines (file_listed (drop 30 s) (bits_at s 6) (Point (double_at s 14) (double_at s 22)) blank_table)
        | false ↦ elim (begins s 5 26) [
          | true ↦ lines (file_listed (drop 32 s) (bits_at s 6) (Offset (number_at 2 s 14) (double_at s 16) (double_at s 24)) blank_table)
          | false ↦ refusal_line R.Frame
        ]
      ]
    ]

-- the answer and the text at exit: written from its beginning, where it has room for every answer
unfoldable pub answered : List ℕ → List ℕ → Result ℕ Refusal × List ℕ
answered s text =
    elim (ltb (length text) most_text) [
      | true ↦ (Err R.Room, text)
      | false ↦ (Ok (length (printed s)), sets text 0 (printed s))
    ]

-- the lines stand within the text
abbrev pub Within : Result ℕ Refusal → ℕ → Type 0
Within (Ok n) room = n ≤ room
Within (Err r) room = Unit {0}
