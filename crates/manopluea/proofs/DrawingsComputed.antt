-- Drawings, computed: a triangle with its corners just near enough, one millimetre and two too far, and a far corner that no row names (document 02, A2).
use mathlib.Core.List.{List, [], ◌∷◌, ◌++◌}
use mathlib.Core.Path.{◌≡◌, refl}
use Prim.Native.Nat.{ℕ}
use lib.IntN.{ℤ, pos}
use lib.Ieee.{Float, nan, inf, binary32, of_bits, of_int}
use mathlib.Core.Bool.{true}
use lib.ListN.{replicate}
use Rattle.plane.specs.Side.{side}
use Rattle.plane.specs.Cone.{minus, dot}
use Rattle.plane.specs.Tests.{is_within}
use Rattle.limits.specs.Limits.{triangles, sized, wall}
use Rattle.cells.specs.Least.{least}
use Rattle.cells.specs.Lists.{next, start, neighbour, answers, back, home}
use Rattle.cells.specs.Check.{outside, wrong_corner, wrong_cell, wrong_neighbour, names, wrong_door, strictly_left, separates, overlapping, in_a_pair, checked, framed, some_face, wrong_for_side, missing_corner, wrong_side, checked_cells}
use Rattle.cells.specs.Cut.{cell_of, cut_triangles, cut_polygons, cut, pairs, faces_of, firsts_from, tables, cells_of}
use Rattle.setting.specs.Setting.{shut, wrong_setting, bars, ends}
use Rattle.limits.specs.declared.Refusal.TheVariants.{Room, Far}
use Rattle.number.specs.Whole.{whole}
use Rattle.stand.specs.Spot.{whole_point, stood}
use Rattle.stand.specs.Find.{against, strictly_within, within_free, located, not_left_of, right_of}
use Rattle.stand.specs.declared.spot.Stand.TheVariants.{Point}
use Rattle.fan.specs.Sight.{follow, rows, row_count, crossings, fan, sides, lines_around, unentered, lines_seen, seen_from}
use Rattle.reach.specs.Reach.{out_of_reach, wrong_reach}
use Rattle.sight.specs.Listing.{no_room, viewed, listing_rows, listing_row_count, listing_crossings, placed}
use Rattle.tablet.specs.Drawing.{far, any_far, offsets_of, drawn}
use Rattle.manopluea.specs.Cases.{double}
use Rattle.sight.specs.declared.list.Counts.{Counts}
use Rattle.limits.specs.declared.Refusal.{Refusal}
use Rattle.std.specs.Prelude.{Err, None, Ok, Result}

-- one cell, the triangle (0,0) (x,0) (16777216,4), and what other corners there are; the stand is (16777216,1)
abbrev from : ℕ → List ℤ → List Float → Result Counts Refusal × List Float
from x more lent =
    drawn triangles (pos 0 ∷ pos 0 ∷ pos x ∷ pos 0 ∷ pos 16777216 ∷ pos 4 ∷ more) (0 ∷ 1 ∷ 2 ∷ wall ∷ wall ∷ wall ∷ []) []
    (record { setting = 0; stand = Point (double 0x4170_0000_0000_0000) (double 0x3ff0_0000_0000_0000); reach = None }) lent

abbrev single : ℕ → Float
single bits = of_bits binary32 bits

-- −16777216, −1; 16777216, −1; plus zero, 3
abbrev left_corner : List Float
left_corner = single 0xcb80_0000 ∷ single 0xbf80_0000 ∷ []

abbrev right_corner : List Float
right_corner = single 0x4b80_0000 ∷ single 0xbf80_0000 ∷ []

abbrev upper_corner : List Float
upper_corner = single 0 ∷ single 0x4040_0000 ∷ []

abbrev three_rows : List Float
three_rows = left_corner ++ right_corner ++ right_corner ++ upper_corner ++ upper_corner ++ left_corner

abbrev old : ℕ → List Float
old n = replicate n nan

-- just near enough, with a number beyond that is kept; one millimetre and two too far, though single precision has the second; too far in a list that is one
-- number short; and a far corner that no row names
pub drawings_computed : (from 33554432 [] (old 12 ++ (inf true ∷ [])) ∷ from 33554433 [] (old 12) ∷ from 33554434 [] (old 12) ∷ from 33554433 [] (old 11) ∷ from 33554432 (pos 536870912 ∷ pos 536870912 ∷ []) (old 16) ∷ []) ≡ ((Ok (record { rows = 3; crossings = 0 }), three_rows ++ (inf true ∷ [])) ∷ (Err Far, old 12) ∷ (Err Far, old 12) ∷ (Err Room, old 11) ∷ (Ok (record { rows = 3; crossings = 0 }), three_rows ++ old 4) ∷ [])
unfolding of_bits side sized least home next start neighbour answers back cell_of cut_triangles cut_polygons cut pairs faces_of firsts_from tables cells_of framed outside wrong_corner some_face wrong_for_side missing_corner wrong_side wrong_cell wrong_neighbour names wrong_door strictly_left separates overlapping in_a_pair checked_cells checked shut wrong_setting bars ends whole whole_point stood not_left_of right_of against is_within strictly_within within_free minus dot located fan follow sides lines_around unentered lines_seen seen_from rows row_count crossings placed viewed no_room listing_rows listing_row_count listing_crossings out_of_reach wrong_reach of_int far any_far offsets_of drawn
drawings_computed = refl
