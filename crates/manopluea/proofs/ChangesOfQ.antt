-- The door change, computed on document 01's plan Q from the stand of cases a and b: its door is shut and opened, and lists that are not true are refused.
use mathlib.Core.Bool.{Bool, true, false}
use mathlib.Core.List.{List, [], ◌∷◌}
use mathlib.Core.Path.{◌≡◌, refl}
use Prim.Native.Nat.{ℕ}
use lib.Ieee.{of_bits}
use Rattle.plane.specs.Side.{side}
use Rattle.plane.specs.Cone.{minus, dot}
use Rattle.plane.specs.Tests.{is_within}
use Rattle.limits.specs.Limits.{triangles, sized}
use Rattle.cells.specs.Least.{least}
use Rattle.cells.specs.Lists.{next, start, neighbour, answers, back, home}
use Rattle.cells.specs.Check.{outside, wrong_corner, wrong_cell, wrong_neighbour, names, wrong_door, strictly_left, separates, overlapping, in_a_pair, checked, framed, some_face, wrong_for_side, missing_corner, wrong_side, checked_cells}
use Rattle.cells.specs.Cut.{cell_of, cut_triangles, cut_polygons, cut, pairs, faces_of, firsts_from, tables, cells_of}
use Rattle.setting.specs.Setting.{shut, with_shut, with_open, wrong_setting, bars, ends}
use Rattle.limits.specs.declared.Refusal.TheVariants.{Line, Change, Rows as Untrue}
use Rattle.number.specs.Whole.{whole}
use Rattle.stand.specs.Spot.{whole_point, stood}
use Rattle.stand.specs.Find.{against, strictly_within, within_free, located, not_left_of, right_of}
use Rattle.stand.specs.declared.spot.Stand.{Stand}
use Rattle.stand.specs.declared.spot.Stand.TheVariants.{Point}
use Rattle.fan.specs.Sight.{follow, numbers, row_count, crossings, fan, sides, lines_around, unentered, lines_seen, seen_from}
use Rattle.reach.specs.Reach.{out_of_reach, far, wrong_reach}
use Rattle.sight.specs.Listing.{no_room, viewed, listing_numbers, listing_row_count, listing_crossings, placed}
use Rattle.doors.specs.Change.{underfoot, same_list, no_change, changed}
use Rattle.cells.specs.PlanQ.{corners_of_Q, cells_of_Q, doors_of_Q}
use Rattle.manopluea.specs.Cases.{five, six, three, old, untouched}
use Rattle.sight.specs.declared.list.Counts.{Counts}
use Rattle.limits.specs.declared.Refusal.{Refusal}
use Rattle.std.specs.Prelude.{Err, None, Ok, Result}

-- the list of case a, door open, and of case b, door shut
abbrev list_a : List ℕ
list_a = 0 ∷ 0 ∷ 1 ∷ 0 ∷ 1 ∷ 1 ∷ 2 ∷ 0 ∷ 4 ∷ 2 ∷ 3 ∷ 0 ∷ 5 ∷ 3 ∷ 0 ∷ 0 ∷ []

abbrev list_b : List ℕ
list_b = 0 ∷ 0 ∷ 1 ∷ 0 ∷ 1 ∷ 1 ∷ 2 ∷ 0 ∷ 2 ∷ 2 ∷ 0 ∷ 0 ∷ []

abbrev changed_on_Q : ℕ → Stand → List ℕ → ℕ → Bool → List ℕ → Result Counts Refusal × List ℕ
changed_on_Q w s = changed triangles corners_of_Q cells_of_Q doors_of_Q (record { setting = w; stand = s; reach = None })

-- door 0 of Q: shut from case a gives case b, opened from case b gives case a, and each list is untrue under the other setting; shut twice, and a door 1. From
-- the doorway: the door underfoot, also where it is already open and the table is short, and a door 1
pub changes_of_Q : (changed_on_Q 0 (Point six three) list_a 0 true untouched ∷ changed_on_Q 1 (Point six three) list_b 0 false untouched ∷ changed_on_Q 0 (Point six three) list_b 0 true untouched ∷ changed_on_Q 1 (Point six three) list_a 0 false untouched ∷ changed_on_Q 1 (Point six three) list_b 0 true untouched ∷ changed_on_Q 0 (Point six three) list_a 1 true untouched ∷ changed_on_Q 0 (Point five five) list_a 0 true untouched ∷ changed_on_Q 0 (Point five five) list_a 0 false [] ∷ changed_on_Q 0 (Point five five) list_a 1 true untouched ∷ []) ≡ ((Ok (record { rows = 3; crossings = 0 }), 0 ∷ 0 ∷ 1 ∷ 0 ∷ 1 ∷ 1 ∷ 2 ∷ 0 ∷ 2 ∷ 2 ∷ 0 ∷ 0 ∷ old ∷ old ∷ old ∷ old ∷ []) ∷ (Ok (record { rows = 4; crossings = 1 }), list_a) ∷ (Err Untrue, untouched) ∷ (Err Untrue, untouched) ∷ (Err Change, untouched) ∷ (Err Change, untouched) ∷ (Err Line, untouched) ∷ (Err Line, []) ∷ (Err Change, untouched) ∷ [])
unfolding of_bits side sized least home next start neighbour answers back cell_of cut_triangles cut_polygons cut pairs faces_of firsts_from tables cells_of framed outside wrong_corner some_face wrong_for_side missing_corner wrong_side wrong_cell wrong_neighbour names wrong_door strictly_left separates overlapping in_a_pair checked_cells checked shut with_shut with_open wrong_setting bars ends whole whole_point stood not_left_of right_of against is_within strictly_within within_free minus dot located fan follow sides lines_around unentered lines_seen seen_from numbers row_count crossings placed viewed listing_numbers listing_row_count listing_crossings same_list no_change changed underfoot no_room out_of_reach far wrong_reach
changes_of_Q = refl
