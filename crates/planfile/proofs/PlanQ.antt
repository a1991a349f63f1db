-- Plan Q (document 01, "Printing program") as a file, byte by byte; and a coordinate below zero.
use mathlib.Core.Bool.{true}
use mathlib.Core.List.{List, [], ◌∷◌, ◌++◌}
use mathlib.Core.Path.{◌≡◌, refl, sym, ap, ◌∙◌}
use Prim.Native.Nat.{ℕ}
use native.Mathlib.Omega.{arith}
use lib.IntN.{negsuc}
use Rattle.plane.specs.Side.{side}
use Rattle.limits.specs.Limits.{triangles, polygons, sized}
use Rattle.cells.specs.Least.{least}
use Rattle.cells.specs.Lists.{home, next, start, neighbour}
use Rattle.cells.specs.Cut.{cell_of, cut_polygons, cut, pairs, faces_of, firsts_from, tables, cells_of}
use Rattle.cells.specs.Check.{framed as Check·framed, outside, wrong_corner, some_face, wrong_for_side, missing_corner, wrong_side, wrong_cell, wrong_neighbour, wrong_door, strictly_left, separates, overlapping, in_a_pair, checked_cells, checked}
use Rattle.cells.specs.PlanQ.{corners_of_Q, cells_of_Q, doors_of_Q}
use Rattle.records.specs.Bytes.{bytes, number_at, all_bytes, numbers_at, complement, signed}
use Rattle.records.specs.Record.{record_of, corner_record, cell_record, door_record, end_of, is_record, is_cells, framed}
use Rattle.planfile.specs.File.{file_of, corners_in}
use Rattle.planfile.specs.Calls.{read_reply}
use Rattle.planfile.proofs.RoundTrip.{the_file_is_told}
use Rattle.std.specs.Prelude.{Ok}

abbrev corner_bytes : List ℕ
corner_bytes =
    (32 ∷ 0 ∷ 0 ∷ 0 ∷ 1 ∷ 0 ∷ [])
    ++ (0 ∷ 0 ∷ 0 ∷ 0 ∷ 0 ∷ 0 ∷ 0 ∷ 0 ∷ 10 ∷ 0 ∷ 0 ∷ 0 ∷ 0 ∷ 0 ∷ 0 ∷ 0 ∷ 10 ∷ 0 ∷ 0 ∷ 0 ∷ 10 ∷ 0 ∷ 0 ∷ 0 ∷ 0 ∷ 0 ∷ 0 ∷ 0 ∷ 10 ∷ 0 ∷ 0 ∷ 0 ∷ [])

-- ---- in kind 2

abbrev pub file : List ℕ
file =
    corner_bytes
    ++ (24 ∷ 0 ∷ 0 ∷ 0 ∷ 2 ∷ 0 ∷ [])
    ++ (0 ∷ 0 ∷ 1 ∷ 0 ∷ 2 ∷ 0 ∷ 255 ∷ 255 ∷ 255 ∷ 255 ∷ 1 ∷ 0 ∷ 0 ∷ 0 ∷ 2 ∷ 0 ∷ 3 ∷ 0 ∷ 0 ∷ 0 ∷ 255 ∷ 255 ∷ 255 ∷ 255 ∷ [])
    ++ (2 ∷ 0 ∷ 0 ∷ 0 ∷ 3 ∷ 0 ∷ [])
    ++ (2 ∷ 0 ∷ [])

pub the_file_of_plan_Q : file_of triangles corners_of_Q cells_of_Q doors_of_Q ≡ file
unfolding file_of corner_record cell_record door_record record_of all_bytes bytes
the_file_of_plan_Q = refl

pub the_frame_of_plan_Q : framed file ≡ true
unfolding framed is_cells is_record end_of number_at
the_frame_of_plan_Q = refl

pub the_corners_of_plan_Q : corners_in file ≡ corners_of_Q
unfolding corners_in numbers_at number_at signed
the_corners_of_plan_Q = refl

-- ---- in kind 12, as one cell of four corners, without its door

abbrev pub one_cell : List ℕ
one_cell = 4 ∷ 0 ∷ 1 ∷ 2 ∷ 3 ∷ 65535 ∷ 65535 ∷ 65535 ∷ 65535 ∷ []

abbrev pub file_of_one_cell : List ℕ
file_of_one_cell =
    corner_bytes
    ++ (18 ∷ 0 ∷ 0 ∷ 0 ∷ 12 ∷ 0 ∷ [])
    ++ (4 ∷ 0 ∷ 0 ∷ 0 ∷ 1 ∷ 0 ∷ 2 ∷ 0 ∷ 3 ∷ 0 ∷ 255 ∷ 255 ∷ 255 ∷ 255 ∷ 255 ∷ 255 ∷ 255 ∷ 255 ∷ [])
    ++ (0 ∷ 0 ∷ 0 ∷ 0 ∷ 3 ∷ 0 ∷ [])

pub the_file_of_one_cell : file_of polygons corners_of_Q one_cell [] ≡ file_of_one_cell
unfolding file_of corner_record cell_record door_record record_of all_bytes bytes
the_file_of_one_cell = refl

pub the_frame_of_one_cell : framed file_of_one_cell ≡ true
unfolding framed is_cells is_record end_of number_at
the_frame_of_one_cell = refl

pub one_cell_is_accepted : checked polygons corners_of_Q one_cell [] ≡ Ok (record { corners = 4; cells = 1; doors = 0 })
unfolding checked Check·framed cut cut_polygons cell_of cells_of tables faces_of pairs firsts_from checked_cells sized wrong_corner outside wrong_cell some_face missing_corner wrong_side wrong_for_side wrong_neighbour wrong_door strictly_left separates overlapping in_a_pair least start next home neighbour side
one_cell_is_accepted = refl

pub the_reply_to_one_cell : read_reply file_of_one_cell 8 9 0 ≡ Ok (record { counts = record { corners = 4; cells = 1; doors = 0 }; kind = polygons; numbers = 9 })
the_reply_to_one_cell =
    ap (λ (s : List ℕ). read_reply s 8 9 0) (sym the_file_of_one_cell)
    ∙ the_file_is_told polygons corners_of_Q one_cell [] one_cell_is_accepted 8 9 0 (omega arith) (omega arith) (omega arith)

-- ---- a coordinate below zero

pub minus_two : bytes 4 (complement (negsuc 1)) ≡ 254 ∷ 255 ∷ 255 ∷ 255 ∷ []
unfolding bytes
minus_two = refl
