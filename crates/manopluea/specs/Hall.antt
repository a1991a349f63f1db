-- A hall whose far door, face 10, lies behind a corner: seen from (0, 5) its cell is entered on the corner's right and on its left, so there are two runs
-- through the door, side by side.
use Rattle.std.specs.Prelude.{List, [], ◌∷◌, ℕ, ℤ, pos, negsuc, replicate, None}
use Rattle.sight.specs.declared.view.Query.{Query}
use Rattle.stand.specs.declared.spot.Stand.{Stand}
use Rattle.stand.specs.declared.spot.Stand.TheVariants.{Point}
use Rattle.manopluea.specs.Cases.{double, five, old}

abbrev pub corners_of_hall : List ℤ
corners_of_hall =
    negsuc 9 ∷ pos 0 ∷ pos 10 ∷ pos 0 ∷ pos 0 ∷ pos 10 ∷ pos 10 ∷ pos 20 ∷ negsuc 9 ∷ pos 20 ∷ pos 1 ∷ pos 30 ∷ []

abbrev pub cells_of_hall : List ℕ
cells_of_hall =
    0 ∷ 1 ∷ 2 ∷ 65535 ∷ 1 ∷ 2
    ∷ 1 ∷ 3 ∷ 2 ∷ 65535 ∷ 3 ∷ 0
    ∷ 0 ∷ 2 ∷ 4 ∷ 0 ∷ 3 ∷ 65535
    ∷ 2 ∷ 3 ∷ 4 ∷ 1 ∷ 4 ∷ 2
    ∷ 4 ∷ 3 ∷ 5 ∷ 3 ∷ 65535 ∷ 65535
    ∷ []

abbrev pub doors_of_hall : List ℕ
doors_of_hall = 10 ∷ []

abbrev pub stand_in_hall : Stand
stand_in_hall = Point (double 0) five

-- what is asked there while the door is open; no reach is stated
abbrev pub query_in_hall : Query
query_in_hall = record { setting = 0; stand = Point (double 0) five; reach = None }

-- a table of 4·corners old values
abbrev pub hall_table : List ℕ
hall_table = replicate 24 old

-- the list with the door open, six crossings, and with it shut, four
abbrev pub open_hall : List ℕ
open_hall = 0 ∷ 0 ∷ 1 ∷ 0 ∷ 3 ∷ 1 ∷ 3 ∷ 0 ∷ 13 ∷ 3 ∷ 5 ∷ 0 ∷ 14 ∷ 5 ∷ 2 ∷ 0 ∷ 14 ∷ 2 ∷ 4 ∷ 0 ∷ 8 ∷ 4 ∷ 0 ∷ 0 ∷ []

abbrev pub shut_hall : List ℕ
shut_hall = 0 ∷ 0 ∷ 1 ∷ 0 ∷ 3 ∷ 1 ∷ 3 ∷ 0 ∷ 10 ∷ 3 ∷ 2 ∷ 0 ∷ 10 ∷ 2 ∷ 4 ∷ 0 ∷ 8 ∷ 4 ∷ 0 ∷ 0 ∷ []
