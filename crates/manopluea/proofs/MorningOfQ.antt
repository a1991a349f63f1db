-- Several stands in one call, computed on document 01's plan Q: the stands of cases j, a, i, c and h, of which the first and the third are refused and
-- the last is in the doorway.
use mathlib.Core.List.{List, [], ◌∷◌, ◌++◌}
use mathlib.Core.Path.{◌≡◌, refl}
use Prim.Native.Nat.{ℕ}
use lib.Ieee.{of_bits}
use lib.ListN.{replicate}
use Rattle.plane.specs.Side.{side}
use Rattle.plane.specs.Cone.{minus, dot}
use Rattle.plane.specs.Tests.{is_within}
use Rattle.limits.specs.Limits.{triangles, sized}
use Rattle.cells.specs.Least.{least}
use Rattle.cells.specs.Lists.{next, start, neighbour, answers, back, home}
use Rattle.cells.specs.Check.{outside, wrong_corner, wrong_cell, wrong_neighbour, names, wrong_door, strictly_left, separates, overlapping, in_a_pair, checked, framed, some_face, wrong_for_side, missing_corner, wrong_side, checked_cells}
use Rattle.cells.specs.Cut.{cell_of, cut_triangles, cut_polygons, cut, pairs, faces_of, firsts_from, tables, cells_of}
use Rattle.setting.specs.Setting.{shut, wrong_setting, bars, ends}
use Rattle.limits.specs.declared.Refusal.TheVariants.{Size, Room}
use Rattle.number.specs.Whole.{whole}
use Rattle.stand.specs.Spot.{whole_point, stood}
use Rattle.stand.specs.Find.{against, strictly_within, within_free, located, not_left_of, right_of}
use Rattle.stand.specs.declared.spot.Stand.{Stand}
use Rattle.stand.specs.declared.spot.Stand.TheVariants.{Point}
use Rattle.fan.specs.Sight.{follow, numbers, row_count, crossings, fan, sides, lines_around, unentered, lines_seen, seen_from}
use Rattle.sight.specs.Ceiling.{exceeds, listed_up_to}
use Rattle.reach.specs.Reach.{out_of_reach, far, wrong_reach}
use Rattle.sight.specs.Listing.{no_room, viewed, listing_numbers, listing_row_count, listing_crossings, listed, placed}
use Rattle.cells.specs.PlanQ.{corners_of_Q, cells_of_Q, doors_of_Q}
use Rattle.grant.specs.Asked.{asked}
use Rattle.morning.specs.Morning.{one_after_another, in_all, single, listed_stands}
use Rattle.manopluea.specs.Cases.{three, five, six, six_and_a_half, eleven, old}
use Rattle.sight.specs.declared.list.Counts.{Counts}
use Rattle.limits.specs.declared.Refusal.{Refusal}
use Rattle.std.specs.Prelude.{Err, None, Ok, Option, Result, Some}

abbrev stands : List Stand
stands = Point six_and_a_half three ∷ Point six three ∷ Point eleven five ∷ Point three six ∷ Point five five ∷ []

-- the rows of case a, which are those of cases c and h
abbrev rows : List ℕ
rows = 0 ∷ 0 ∷ 1 ∷ 0 ∷ 1 ∷ 1 ∷ 2 ∷ 0 ∷ 4 ∷ 2 ∷ 3 ∷ 0 ∷ 5 ∷ 3 ∷ 0 ∷ 0 ∷ []

abbrev listed_on_Q : Option ℕ → Option ℕ → ℕ → ℕ → ℕ → Result Counts Refusal × (List ℕ × List ℕ)
listed_on_Q reach ceiling n room places =
    listed_stands triangles corners_of_Q cells_of_Q doors_of_Q (record { setting = 0; count = n; reach = reach; ceiling = ceiling }) stands (replicate room old) (replicate places old)

-- all five; the first two; none; a table and replies that are one short; more than 32; all five with a number that is no reach, where each stand that is
-- accepted replies 15; with a ceiling of 0, where the two stands that cross a line reply 19 and the one on a side, which crosses none, is listed; and with a
-- ceiling of 1, which each stand has for itself
pub morning_of_Q : (listed_on_Q None None 5 80 15 ∷ listed_on_Q None None 2 32 9 ∷ listed_on_Q None None 0 1 1 ∷ listed_on_Q None None 5 79 15 ∷ listed_on_Q None None 5 80 14 ∷ listed_on_Q None None 33 1 1 ∷ listed_on_Q (Some 0) None 5 80 15 ∷ listed_on_Q None (Some 0) 5 80 15 ∷ listed_on_Q None (Some 1) 5 80 15 ∷ []) ≡ ((Ok (record { rows = 12; crossings = 2 }), (rows ++ rows ++ rows ++ replicate 32 old, 8 ∷ 0 ∷ 0 ∷ 0 ∷ 4 ∷ 1 ∷ 10 ∷ 0 ∷ 0 ∷ 0 ∷ 4 ∷ 1 ∷ 0 ∷ 4 ∷ 0 ∷ [])) ∷ (Ok (record { rows = 4; crossings = 1 }), (rows ++ replicate 16 old, 8 ∷ 0 ∷ 0 ∷ 0 ∷ 4 ∷ 1 ∷ old ∷ old ∷ old ∷ [])) ∷ (Ok (record { rows = 0; crossings = 0 }), (old ∷ [], old ∷ [])) ∷ (Err Room, (replicate 79 old, replicate 15 old)) ∷ (Err Room, (replicate 80 old, replicate 14 old)) ∷ (Err Size, (old ∷ [], old ∷ [])) ∷ (Ok (record { rows = 0; crossings = 0 }), (replicate 80 old, 8 ∷ 0 ∷ 0 ∷ 15 ∷ 0 ∷ 0 ∷ 15 ∷ 0 ∷ 0 ∷ 15 ∷ 0 ∷ 0 ∷ 15 ∷ 0 ∷ 0 ∷ [])) ∷ (Ok (record { rows = 4; crossings = 0 }), (rows ++ replicate 64 old, 8 ∷ 0 ∷ 0 ∷ 19 ∷ 0 ∷ 0 ∷ 10 ∷ 0 ∷ 0 ∷ 19 ∷ 0 ∷ 0 ∷ 0 ∷ 4 ∷ 0 ∷ [])) ∷ (Ok (record { rows = 12; crossings = 2 }), (rows ++ rows ++ rows ++ replicate 32 old, 8 ∷ 0 ∷ 0 ∷ 0 ∷ 4 ∷ 1 ∷ 10 ∷ 0 ∷ 0 ∷ 0 ∷ 4 ∷ 1 ∷ 0 ∷ 4 ∷ 0 ∷ [])) ∷ [])
unfolding of_bits side sized least home next start neighbour answers back cell_of cut_triangles cut_polygons cut pairs faces_of firsts_from tables cells_of framed outside wrong_corner some_face wrong_for_side missing_corner wrong_side wrong_cell wrong_neighbour names wrong_door strictly_left separates overlapping in_a_pair checked_cells checked shut wrong_setting bars ends whole whole_point stood not_left_of right_of against is_within strictly_within within_free minus dot located fan follow sides lines_around unentered lines_seen seen_from numbers row_count crossings placed viewed no_room listing_numbers listing_row_count listing_crossings listed listed_up_to exceeds one_after_another in_all single asked listed_stands out_of_reach far wrong_reach
morning_of_Q = refl
