-- A ceiling of crossings, computed on document 01's plan Q (document 02, A13).
use mathlib.Core.List.{List, [], ◌∷◌, ◌++◌}
use mathlib.Core.Path.{◌≡◌, refl}
use Prim.Native.Nat.{ℕ}
use lib.Ieee.{Float, of_bits}
use lib.ListN.{replicate}
use Rattle.plane.specs.Side.{side}
use Rattle.plane.specs.Cone.{minus, dot}
use Rattle.plane.specs.Tests.{is_within}
use Rattle.limits.specs.Limits.{triangles, sized}
use Rattle.cells.specs.Least.{least}
use Rattle.cells.specs.Lists.{next, start, neighbour, answers, back, home}
use Rattle.cells.specs.Check.{outside, wrong_corner, wrong_cell, wrong_neighbour, names, wrong_door, strictly_left, separates, overlapping, in_a_pair, checked, framed, some_face, wrong_for_side, missing_corner, wrong_side, checked_cells}
use Rattle.cells.specs.Cut.{cell_of, cut_triangles, cut_polygons, cut, pairs, faces_of, firsts_from, tables, cells_of}
use Rattle.setting.specs.Setting.{shut, wrong_setting, bars, ends}
use Rattle.limits.specs.declared.Refusal.TheVariants.{Room, Outside, Ceiling as TooMany}
use Rattle.number.specs.Whole.{whole}
use Rattle.stand.specs.Spot.{whole_point, stood}
use Rattle.stand.specs.Find.{against, strictly_within, within_free, located, not_left_of, right_of}
use Rattle.stand.specs.declared.spot.Stand.TheVariants.{Point}
use Rattle.fan.specs.Sight.{follow, numbers, row_count, crossings, fan, sides, lines_around, unentered, lines_seen, seen_from}
use Rattle.sight.specs.Ceiling.{exceeds, listed_up_to}
use Rattle.reach.specs.Reach.{out_of_reach, far, wrong_reach}
use Rattle.sight.specs.Listing.{no_room, viewed, listing_numbers, listing_row_count, listing_crossings, listed, placed}
use Rattle.cells.specs.PlanQ.{corners_of_Q, cells_of_Q, doors_of_Q}
use Rattle.manopluea.specs.Cases.{three, six, five, eleven, old, untouched}
use Rattle.sight.specs.declared.list.Counts.{Counts}
use Rattle.limits.specs.declared.Refusal.{Refusal}
use Rattle.std.specs.Prelude.{Err, None, Ok, Option, Result, Some}

-- from the point (x, y) under a setting, in a table
abbrev from : ℕ → Float → Float → Option ℕ → List ℕ → Result Counts Refusal × List ℕ
from w x y c table = listed_up_to triangles corners_of_Q cells_of_Q doors_of_Q (record { setting = w; stand = Point x y; reach = None }) c table

-- the rows of case a, which are those of the doorway too, and those with the door shut
abbrev rows : List ℕ
rows = 0 ∷ 0 ∷ 1 ∷ 0 ∷ 1 ∷ 1 ∷ 2 ∷ 0 ∷ 4 ∷ 2 ∷ 3 ∷ 0 ∷ 5 ∷ 3 ∷ 0 ∷ 0 ∷ []

abbrev shut_rows : List ℕ
shut_rows = 0 ∷ 0 ∷ 1 ∷ 0 ∷ 1 ∷ 1 ∷ 2 ∷ 0 ∷ 2 ∷ 2 ∷ 0 ∷ 0 ∷ []

-- one crossing: exceeds 0, and is allowed by 1, by the largest number and by no ceiling. No crossing, with the door shut and in the doorway: allowed by 0. A table
-- that is one short is 11 and a stand outside is 10, though the ceiling is exceeded
pub ceilings_of_Q : (from 0 six three (Some 0) untouched ∷ from 0 six three (Some 1) untouched ∷ from 0 six three (Some 18446744073709551615) untouched ∷ from 0 six three None untouched ∷ from 1 six three (Some 0) untouched ∷ from 0 five five (Some 0) untouched ∷ from 0 six three (Some 0) (replicate 15 old) ∷ from 0 eleven five (Some 0) untouched ∷ []) ≡ ((Err TooMany, untouched) ∷ (Ok (record { rows = 4; crossings = 1 }), rows) ∷ (Ok (record { rows = 4; crossings = 1 }), rows) ∷ (Ok (record { rows = 4; crossings = 1 }), rows) ∷ (Ok (record { rows = 3; crossings = 0 }), shut_rows ++ replicate 4 old) ∷ (Ok (record { rows = 4; crossings = 0 }), rows) ∷ (Err Room, replicate 15 old) ∷ (Err Outside, untouched) ∷ [])
unfolding of_bits side sized least home next start neighbour answers back cell_of cut_triangles cut_polygons cut pairs faces_of firsts_from tables cells_of framed outside wrong_corner some_face wrong_for_side missing_corner wrong_side wrong_cell wrong_neighbour names wrong_door strictly_left separates overlapping in_a_pair checked_cells checked shut wrong_setting bars ends whole whole_point stood not_left_of right_of against is_within strictly_within within_free minus dot located fan follow sides lines_around unentered lines_seen seen_from numbers row_count crossings placed viewed no_room listing_numbers listing_row_count listing_crossings listed listed_up_to exceeds out_of_reach far wrong_reach
ceilings_of_Q = refl
