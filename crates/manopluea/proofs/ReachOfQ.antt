-- A stated reach, computed on document 01's plan Q from the stand of cases a and b (document 02, A5). From (6, 3) side 0 is 3 mm away, side 1 is 4, the door's
-- line √4.5, side 4 is 7 and side 5 is 6.
use mathlib.Core.Bool.{Bool, true, false}
use mathlib.Core.List.{List, [], ◌∷◌, ◌++◌}
use mathlib.Core.Path.{◌≡◌, refl}
use Prim.Native.Nat.{ℕ}
use lib.Ieee.{of_bits}
use lib.ListN.{replicate}
use lib.IntN.{pos, negsuc}
use Rattle.plane.specs.Side.{side}
use Rattle.plane.specs.Cone.{minus, cross, dot}
use Rattle.plane.specs.Tests.{is_within}
use Rattle.limits.specs.Limits.{triangles, sized}
use Rattle.cells.specs.Least.{least}
use Rattle.cells.specs.Lists.{next, start, neighbour, answers, back, home}
use Rattle.cells.specs.Check.{outside, wrong_corner, wrong_cell, wrong_neighbour, names, wrong_door, strictly_left, separates, overlapping, in_a_pair, checked, framed, some_face, wrong_for_side, missing_corner, wrong_side, checked_cells}
use Rattle.cells.specs.Cut.{cell_of, cut_triangles, cut_polygons, cut, pairs, faces_of, firsts_from, tables, cells_of}
use Rattle.setting.specs.Setting.{shut, with_shut, with_open, wrong_setting, bars, ends}
use Rattle.limits.specs.declared.Refusal.TheVariants.{Stand as NoStand, Line, Rows as Untrue, Reach as NoReach}
use Rattle.number.specs.Whole.{whole}
use Rattle.stand.specs.Spot.{whole_point, stood}
use Rattle.stand.specs.Find.{against, strictly_within, within_free, located, not_left_of, right_of}
use Rattle.stand.specs.declared.spot.Stand.{Stand}
use Rattle.stand.specs.declared.spot.Stand.TheVariants.{Point}
use Rattle.fan.specs.Sight.{follow, numbers, row_count, crossings, fan, sides, lines_around, unentered, lines_seen, seen_from}
use Rattle.reach.specs.Reach.{in_reach, out_of_reach, far, wrong_reach}
use Rattle.sight.specs.Listing.{no_room, viewed, listing_numbers, listing_row_count, listing_crossings, listed, placed}
use Rattle.sight.specs.declared.view.Query.{Query}
use Rattle.doors.specs.Change.{underfoot, same_list, no_change, changed}
use Rattle.cells.specs.PlanQ.{corners_of_Q, cells_of_Q, doors_of_Q}
use Rattle.manopluea.specs.Cases.{double, three, six, six_and_a_half, minus_zero, old, untouched}
use Rattle.sight.specs.declared.list.Counts.{Counts}
use Rattle.limits.specs.declared.Refusal.{Refusal}
use Rattle.std.specs.Prelude.{Err, Ok, Result, Some}

abbrev within : ℕ → ℕ → Stand → Query
within R w s = record { setting = w; stand = s; reach = Some R }

abbrev listed_within : ℕ → Stand → Result Counts Refusal × List ℕ
listed_within R s = listed triangles corners_of_Q cells_of_Q doors_of_Q (within R 0 s) untouched

-- with the door in reach, open and shut, and with it out of reach
abbrev open_within_3 : List ℕ
open_within_3 = 0 ∷ 0 ∷ 1 ∷ 0 ∷ 1 ∷ 1 ∷ 2 ∷ 1 ∷ 4 ∷ 2 ∷ 3 ∷ 1 ∷ 5 ∷ 3 ∷ 0 ∷ 1 ∷ []

abbrev shut_within_3 : List ℕ
shut_within_3 = 0 ∷ 0 ∷ 1 ∷ 0 ∷ 1 ∷ 1 ∷ 2 ∷ 1 ∷ 2 ∷ 2 ∷ 0 ∷ 0 ∷ []

abbrev within_2 : List ℕ
within_2 = 0 ∷ 0 ∷ 1 ∷ 1 ∷ 1 ∷ 1 ∷ 2 ∷ 1 ∷ 2 ∷ 2 ∷ 0 ∷ 1 ∷ []

-- the least reach; the door's line out of reach; a wall exactly at the reach, and the door's line crossed; one wall short; all in reach; the most. No reach are 0
-- and one more than the most; that is 15, which goes after a stand that is not accepted and before one on a line
pub reach_of_Q : (listed_within 1 (Point six three) ∷ listed_within 2 (Point six three) ∷ listed_within 3 (Point six three) ∷ listed_within 6 (Point six three) ∷ listed_within 7 (Point six three) ∷ listed_within 262144 (Point six three) ∷ listed_within 0 (Point six three) ∷ listed_within 262145 (Point six three) ∷ listed_within 0 (Point six_and_a_half three) ∷ listed_within 0 (Point six minus_zero) ∷ listed_within 1 (Point six minus_zero) ∷ []) ≡ ((Ok (record { rows = 3; crossings = 0 }), within_2 ++ replicate 4 old) ∷ (Ok (record { rows = 3; crossings = 0 }), within_2 ++ replicate 4 old) ∷ (Ok (record { rows = 4; crossings = 1 }), open_within_3) ∷ (Ok (record { rows = 4; crossings = 1 }), 0 ∷ 0 ∷ 1 ∷ 0 ∷ 1 ∷ 1 ∷ 2 ∷ 0 ∷ 4 ∷ 2 ∷ 3 ∷ 1 ∷ 5 ∷ 3 ∷ 0 ∷ 0 ∷ []) ∷ (Ok (record { rows = 4; crossings = 1 }), 0 ∷ 0 ∷ 1 ∷ 0 ∷ 1 ∷ 1 ∷ 2 ∷ 0 ∷ 4 ∷ 2 ∷ 3 ∷ 0 ∷ 5 ∷ 3 ∷ 0 ∷ 0 ∷ []) ∷ (Ok (record { rows = 4; crossings = 1 }), 0 ∷ 0 ∷ 1 ∷ 0 ∷ 1 ∷ 1 ∷ 2 ∷ 0 ∷ 4 ∷ 2 ∷ 3 ∷ 0 ∷ 5 ∷ 3 ∷ 0 ∷ 0 ∷ []) ∷ (Err NoReach, untouched) ∷ (Err NoReach, untouched) ∷ (Err NoStand, untouched) ∷ (Err NoReach, untouched) ∷ (Err Line, untouched) ∷ [])
unfolding of_bits side sized least home next start neighbour answers back cell_of cut_triangles cut_polygons cut pairs faces_of firsts_from tables cells_of framed outside wrong_corner some_face wrong_for_side missing_corner wrong_side wrong_cell wrong_neighbour names wrong_door strictly_left separates overlapping in_a_pair checked_cells checked shut wrong_setting bars ends whole whole_point stood not_left_of right_of against is_within strictly_within within_free minus dot located fan follow sides lines_around unentered lines_seen seen_from numbers row_count crossings placed viewed listing_numbers listing_row_count listing_crossings listed no_room out_of_reach far wrong_reach in_reach cross
reach_of_Q = refl

abbrev changed_within : ℕ → ℕ → List ℕ → Bool → Result Counts Refusal × List ℕ
changed_within R w given b = changed triangles corners_of_Q cells_of_Q doors_of_Q (within R w (Point six three)) given 0 b untouched

-- the door in reach, shut and opened; out of reach, shut and opened: the rows are the same; and a list that is true within another reach
pub changes_within_reach : (changed_within 3 0 open_within_3 true ∷ changed_within 3 1 shut_within_3 false ∷ changed_within 2 0 within_2 true ∷ changed_within 2 1 within_2 false ∷ changed_within 3 1 within_2 false ∷ []) ≡ ((Ok (record { rows = 3; crossings = 0 }), shut_within_3 ++ replicate 4 old) ∷ (Ok (record { rows = 4; crossings = 1 }), open_within_3) ∷ (Ok (record { rows = 3; crossings = 0 }), within_2 ++ replicate 4 old) ∷ (Ok (record { rows = 3; crossings = 0 }), within_2 ++ replicate 4 old) ∷ (Err Untrue, untouched) ∷ [])
unfolding of_bits side sized least home next start neighbour answers back cell_of cut_triangles cut_polygons cut pairs faces_of firsts_from tables cells_of framed outside wrong_corner some_face wrong_for_side missing_corner wrong_side wrong_cell wrong_neighbour names wrong_door strictly_left separates overlapping in_a_pair checked_cells checked shut with_shut with_open wrong_setting bars ends whole whole_point stood not_left_of right_of against is_within strictly_within within_free minus dot located fan follow sides lines_around unentered lines_seen seen_from numbers row_count crossings placed viewed listing_numbers listing_row_count listing_crossings same_list no_change changed underfoot no_room out_of_reach far wrong_reach in_reach cross
changes_within_reach = refl

-- two triangles, the far wall of the second hidden where it is near: its face 4 comes within √1800 mm of (30, 10), which is between 42 and 43, but there it is
-- behind corner 2, and what is seen of it begins 1.2·√1300 mm away, more than 43
abbrev listed_in_the_nook : ℕ → Result Counts Refusal × List ℕ
listed_in_the_nook R =
    listed triangles (pos 0 ∷ pos 0 ∷ pos 100 ∷ pos 0 ∷ pos 60 ∷ pos 30 ∷ negsuc 199 ∷ pos 300 ∷ []) (0 ∷ 1 ∷ 2 ∷ 65535 ∷ 1 ∷ 65535 ∷ 2 ∷ 1 ∷ 3 ∷ 0 ∷ 65535 ∷ 65535 ∷ []) []
    (within R 0 (Point (double 0x403e000000000000) (double 0x4024000000000000))) untouched

pub in_reach_though_not_seen : (listed_in_the_nook 42 ∷ listed_in_the_nook 43 ∷ []) ≡ ((Ok (record { rows = 3; crossings = 1 }), 0 ∷ 0 ∷ 1 ∷ 0 ∷ 4 ∷ 1 ∷ 2 ∷ 1 ∷ 2 ∷ 2 ∷ 0 ∷ 0 ∷ replicate 4 old) ∷ (Ok (record { rows = 3; crossings = 1 }), 0 ∷ 0 ∷ 1 ∷ 0 ∷ 4 ∷ 1 ∷ 2 ∷ 0 ∷ 2 ∷ 2 ∷ 0 ∷ 0 ∷ replicate 4 old) ∷ [])
unfolding of_bits side sized least home next start neighbour answers back cell_of cut_triangles cut_polygons cut pairs faces_of firsts_from tables cells_of framed outside wrong_corner some_face wrong_for_side missing_corner wrong_side wrong_cell wrong_neighbour names wrong_door strictly_left separates overlapping in_a_pair checked_cells checked shut wrong_setting bars ends whole whole_point stood not_left_of right_of against is_within strictly_within within_free minus dot located fan follow sides lines_around unentered lines_seen seen_from numbers row_count crossings placed viewed listing_numbers listing_row_count listing_crossings listed no_room out_of_reach far wrong_reach in_reach cross
in_reach_though_not_seen = refl
