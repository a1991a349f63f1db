-- A longer reach only refines (document 02, A5), of any two counts and tables.
use Rattle.std.specs.Prelude.{Bool, List, ◌≡◌, ℕ, ◌*◌, ◌≤◌, eqb, take, ℤ, Ok, Option, Some}
use Rattle.cells.specs.Lists.{cell_count}
use Rattle.cells.specs.Cut.{cells_of}
use Rattle.reach.specs.Reach.{range}
use Rattle.stand.specs.Spot.{stood}
use Rattle.stand.specs.Find.{located}
use Rattle.stand.specs.declared.spot.Stand.{Stand}
use Rattle.stand.specs.declared.locate.Footing.{Footing}
use Rattle.fan.specs.Sight.{unentered}
use Rattle.runs.specs.Route.{Routed, routed, row_numbers}
use Rattle.runs.specs.Door.{those}
use Rattle.runs.specs.Opening.{open_rows}
use Rattle.runs.specs.Kept.{StandIn}
use Rattle.sight.specs.Listing.{unreached, plan_floor, standing, sight_from}

-- the row's fourth number is 0
abbrev pub in_reach : Routed → Bool
in_reach x = eqb x.row.far 0

-- n rows and k crossings within one reach, and n' rows and k' crossings within a longer one, of one plan under one setting from one stand
pub record Refined (kind : ℕ) (cs : List ℤ) (ts ds : List ℕ) (w : ℕ) (s : Stand) (reach longer : Option ℕ) (n k : ℕ) (table : List ℕ) (n' k' : ℕ) (table' : List ℕ) : Type 0 where
  -- the rows of the two tables, with their routes: those of the two listings
  pub near : List Routed
  pub further : List Routed
  pub near_listed : take (4 * n) table ≡ row_numbers near
  pub further_listed : take (4 * n') table' ≡ row_numbers further
  pub x : ℤ
  pub y : ℤ
  pub the_stand : stood cs s ≡ Some (x, y)
  pub place : Footing
  pub its_place : located cs (cells_of kind ts) ds w (record { x = x; y = y }) ≡ Ok place
  pub near_seen : near ≡ routed (sight_from cs (cells_of kind ts) ds w (range reach) (record { x = x; y = y }) place)
  pub further_seen : further ≡ routed (sight_from cs (cells_of kind ts) ds w (range longer) (record { x = x; y = y }) place)
  -- a row that is listed as a wall in reach is listed so within the longer reach, limits, route and number the same, and all of them in their order
  pub in_reach_stand : StandIn (those in_reach near) further
  -- a row that is out of reach is replaced by what is seen at its line or through it, and nothing else changes
  pub others_opened : further ≡ open_rows (plan_floor cs (cells_of kind ts) ds w (range longer) (record { x = x; y = y })) (unreached cs (cells_of kind ts) (range reach) (record { x = x; y = y })) (unentered (cell_count (cells_of kind ts)) (standing (cells_of kind ts) place)) near
  -- there are no fewer rows and no fewer crossings
  pub no_fewer_rows : n ≤ n'
  pub no_fewer_crossings : k ≤ k'
