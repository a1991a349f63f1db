-- What document 01 says is printed, computed ("Printing program").
use mathlib.Core.List.{List, [], ◌∷◌, ◌++◌}
use mathlib.Core.Path.{◌≡◌, refl}
use Prim.Native.Nat.{ℕ, ◌<◌}
use borrow.Author.Tests.{lt-ltb}
use lib.Ieee.{of_bits}
use lib.ListN.{length}
use Rattle.plane.specs.Side.{side}
use Rattle.plane.specs.Cone.{minus, dot}
use Rattle.plane.specs.Tests.{is_within}
use Rattle.limits.specs.Limits.{sized}
use Rattle.cells.specs.Least.{least}
use Rattle.cells.specs.Lists.{home, next, start, neighbour, answers, back}
use Rattle.cells.specs.Cut.{cell_of, cut_triangles, cut_polygons, cut, pairs, faces_of, firsts_from, tables, cells_of}
use Rattle.cells.specs.Check.{framed as framed_lists, outside, wrong_corner, some_face, wrong_for_side, missing_corner, wrong_side, wrong_cell, wrong_neighbour, names, wrong_door, strictly_left, separates, overlapping, in_a_pair, checked_cells, checked}
use Rattle.setting.specs.Setting.{shut, wrong_setting, bars, ends}
use Rattle.records.specs.Bytes.{number_at, numbers_at, signed}
use Rattle.records.specs.Record.{end_of, is_record, is_cells, framed}
use Rattle.planfile.specs.File.{corners_in, cells_in, doors_in}
use Rattle.planfile.proofs.PlanQ.{file}
use Rattle.number.specs.Whole.{whole}
use Rattle.stand.specs.Spot.{whole_point, stood}
use Rattle.stand.specs.Find.{not_left_of, right_of, against, strictly_within, within_free, located}
use Rattle.fan.specs.Sight.{fan, follow, sides, lines_around, unentered, lines_seen, seen_from, numbers, row_count, crossings}
use Rattle.reach.specs.Reach.{out_of_reach, far, wrong_reach}
use Rattle.sight.specs.Listing.{no_room, placed, viewed, listing_numbers, listing_row_count, listing_crossings, listed}
use Rattle.text.specs.Word.{word}
use Rattle.text.specs.Text.{digits, decimal, refusal_line, count_line, row_line, row_lines}
use Rattle.printing.specs.Print.{most_input, begins, file_listed, printed}

-- the query of case a: kind 4, 24 bytes, setting 0, x 6.0, y 3.0
abbrev query : List ℕ
query =
    (24 ∷ 0 ∷ 0 ∷ 0 ∷ 4 ∷ 0 ∷ [])
    ++ (0 ∷ 0 ∷ 0 ∷ 0 ∷ 0 ∷ 0 ∷ 0 ∷ 0 ∷ [])
    ++ (0 ∷ 0 ∷ 0 ∷ 0 ∷ 0 ∷ 0 ∷ 24 ∷ 64 ∷ [])
    ++ (0 ∷ 0 ∷ 0 ∷ 0 ∷ 0 ∷ 0 ∷ 8 ∷ 64 ∷ [])

-- query (6,3), setting 0, with plan Q prints exactly
pub case_a_is_printed : printed (query ++ file) ≡ word "rows 4 crossings 1\n0 0 1 0\n1 1 2 0\n4 2 3 0\n5 3 0 0\n"
unfolding of_bits side sized least home next start neighbour answers back cell_of cut_triangles cut_polygons cut pairs faces_of firsts_from tables cells_of framed_lists outside wrong_corner some_face wrong_for_side missing_corner wrong_side wrong_cell wrong_neighbour names wrong_door strictly_left separates overlapping in_a_pair checked_cells checked shut wrong_setting bars ends whole whole_point stood not_left_of right_of against is_within strictly_within within_free minus dot located fan follow sides lines_around unentered lines_seen seen_from numbers row_count crossings placed viewed no_room listing_numbers listing_row_count listing_crossings listed number_at numbers_at signed end_of is_record is_cells framed corners_in cells_in doors_in digits decimal refusal_line count_line row_line row_lines begins file_listed printed out_of_reach far wrong_reach
case_a_is_printed = refl

-- a missing query
pub nothing_asked : printed [] ≡ word "refused 1 0\n"
unfolding number_at digits decimal refusal_line begins printed
nothing_asked = refl

-- input over 65,536 bytes, before all else
pub longer_is_refused_first : (s : List ℕ) → most_input < length s → printed s ≡ word "refused 2 0\n"
unfolding digits decimal refusal_line printed
longer_is_refused_first s h = rw (lt-ltb _ _ h, printed) refl
