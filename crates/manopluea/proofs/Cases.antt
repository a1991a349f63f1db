-- The twelve measured examples of document 01, as one statement: the listing's definition says of each what the table says. And document 02's A4 and A14: the
-- doorway of case h with its door shut, and plan Q as one cell of four corners.
use mathlib.Core.List.{[], ◌∷◌, map}
use mathlib.Core.Path.{◌≡◌, refl}
use lib.Ieee.{of_bits}
use Rattle.plane.specs.Side.{side}
use Rattle.plane.specs.Cone.{minus, dot}
use Rattle.plane.specs.Tests.{is_within}
use Rattle.limits.specs.Limits.{polygons, sized}
use Rattle.cells.specs.Least.{least}
use Rattle.cells.specs.Lists.{next, start, neighbour, answers, back, home}
use Rattle.cells.specs.Check.{outside, wrong_corner, wrong_cell, wrong_neighbour, names, wrong_door, strictly_left, separates, overlapping, in_a_pair, checked, framed, some_face, wrong_for_side, missing_corner, wrong_side, checked_cells}
use Rattle.cells.specs.Cut.{cell_of, cut_triangles, cut_polygons, cut, pairs, faces_of, firsts_from, tables, cells_of}
use Rattle.setting.specs.Setting.{shut, wrong_setting, bars, ends}
use Rattle.number.specs.Whole.{whole}
use Rattle.stand.specs.Spot.{whole_point, stood}
use Rattle.stand.specs.Find.{against, strictly_within, within_free, located, not_left_of, right_of}
use Rattle.fan.specs.Sight.{follow, numbers, row_count, crossings, fan, sides, lines_around, unentered, lines_seen, seen_from}
use Rattle.reach.specs.Reach.{out_of_reach, far, wrong_reach}
use Rattle.sight.specs.Listing.{no_room, viewed, listing_numbers, listing_row_count, listing_crossings, listed, placed}
use Rattle.sight.specs.Ceiling.{exceeds, listed_up_to}
use Rattle.cells.specs.PlanQ.{corners_of_Q}
use Rattle.stand.specs.declared.spot.Stand.TheVariants.{Point}
use Rattle.manopluea.specs.Cases.{cases, in_the_shut_doorway, computed, stated, square_of_Q, six, three, untouched}
use Rattle.std.specs.Prelude.{None, Ok}

pub the_twelve_cases : map computed cases ≡ map stated cases
unfolding of_bits side sized least home next start neighbour answers back cell_of cut_triangles cut_polygons cut pairs faces_of firsts_from tables cells_of framed outside wrong_corner some_face wrong_for_side missing_corner wrong_side wrong_cell wrong_neighbour names wrong_door strictly_left separates overlapping in_a_pair checked_cells checked shut wrong_setting bars ends whole whole_point stood not_left_of right_of against is_within strictly_within within_free minus dot located fan follow sides lines_around unentered lines_seen seen_from numbers row_count crossings placed viewed no_room listing_numbers listing_row_count listing_crossings listed listed_up_to exceeds out_of_reach far wrong_reach
the_twelve_cases = refl

-- in the doorway of case h, its door shut, the stand is on a line (document 02, A4)
pub the_shut_doorway : computed in_the_shut_doorway ≡ stated in_the_shut_doorway
unfolding of_bits side sized least home next start neighbour answers back cell_of cut_triangles cut_polygons cut pairs faces_of firsts_from tables cells_of framed outside wrong_corner some_face wrong_for_side missing_corner wrong_side wrong_cell wrong_neighbour names wrong_door strictly_left separates overlapping in_a_pair checked_cells checked shut wrong_setting bars ends whole whole_point stood not_left_of right_of against is_within strictly_within within_free minus dot located fan follow sides lines_around unentered lines_seen seen_from numbers row_count crossings placed viewed no_room listing_numbers listing_row_count listing_crossings listed listed_up_to exceeds out_of_reach far wrong_reach
the_shut_doorway = refl

-- plan Q as one cell of four corners, without a door, from the stand of case a: its four sides are the rows, and nothing is crossed
pub one_cell_of_four : listed polygons corners_of_Q square_of_Q [] (record { setting = 0; stand = Point six three; reach = None }) untouched ≡ (Ok (record { rows = 4; crossings = 0 }), 0 ∷ 0 ∷ 1 ∷ 0 ∷ 1 ∷ 1 ∷ 2 ∷ 0 ∷ 2 ∷ 2 ∷ 3 ∷ 0 ∷ 3 ∷ 3 ∷ 0 ∷ 0 ∷ [])
unfolding of_bits side sized least home next start neighbour answers back cell_of cut_triangles cut_polygons cut pairs faces_of firsts_from tables cells_of framed outside wrong_corner some_face wrong_for_side missing_corner wrong_side wrong_cell wrong_neighbour names wrong_door strictly_left separates overlapping in_a_pair checked_cells checked shut wrong_setting bars ends whole whole_point stood not_left_of right_of against is_within strictly_within within_free minus dot located fan follow sides lines_around unentered lines_seen seen_from numbers row_count crossings placed viewed no_room listing_numbers listing_row_count listing_crossings listed out_of_reach far wrong_reach
one_cell_of_four = refl
