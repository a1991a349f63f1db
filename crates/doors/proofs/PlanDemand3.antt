-- Demand 3 (document 01, "Changing a door"; document 02, A5): the listings of an accepted plan from a stand and within a range, with door i open and with it shut,
-- every other door as the setting has it.
use mathlib.Core.Bool.{true, false}
use mathlib.Core.List.{List, [], map}
use mathlib.Core.Path.{◌≡◌, sym, ◌∙◌, ap, subst}
use Prim.Native.Nat.{ℕ, ◌+◌, ◌<◌}
use lib.ListN.{length, get_or}
use lib.IntN.{ℤ}
use Rattle.plane.specs.Side.{Point}
use Rattle.cells.specs.Lists.{Cells, cell_count, face_count, next, start, back}
use Rattle.cells.specs.Sound.{Sound}
use Rattle.cells.proofs.Plans.{back_starts_at_the_finish, back_finishes_at_the_start, door_exists, door_is_free}
use Rattle.setting.specs.Setting.{shut, with_shut, with_open}
use Rattle.setting.proofs.Settings.{opening_opens_the_door, opening_undoes_shutting, shutting_undoes_opening}
use Rattle.stand.specs.declared.locate.Footing.{Footing}
use Rattle.stand.proofs.Located.{Stands}
use Rattle.fan.specs.Sight.{Sight, unentered, numbers, crossings}
use Rattle.fan.specs.Once.{At}
use Rattle.runs.specs.Route.{Routed, routed, way, row_numbers}
use Rattle.runs.specs.Door.{is_door, same_to_door, on_door, untouched, those}
use Rattle.runs.specs.Shutting.{Piece, runs, door_row, shut_rows, prune, crossings_left, crossings_lost}
use Rattle.runs.specs.Opening.{open_rows}
use Rattle.runs.proofs.Demand3 as Any
use Rattle.runs.proofs.Demand3.{DoorChange}
use Rattle.runs.proofs.InThePlane.{every_listed_row_has_its_own_way}
use Rattle.runs.proofs.Routes.{routed_numbers_are_the_numbers, face_is_on_the_way}
use Rattle.runs.proofs.Ways.{way_tells_the_place}
use Rattle.runs.proofs.SideSeen as Side
use Rattle.sight.specs.Listing.{seen, unreached, plan_floor, standing, sight_from}
use Rattle.sight.proofs.PlanFloor.{plan_geometry, stands_on_the_floor}
use Rattle.doors.proofs.PlanDoors.{ends_at_the_open_door, plan_change}

module _ {cs : List ℤ} {T : Cells} {ds : List ℕ} (sound : Sound cs T ds) (R : ℕ) (q : Point) (p : Footing) (i : ℕ) (h : i < length ds) where
  -- the door's two faces
  abbrev f₀ : ℕ
  f₀ = get_or ds i 0

  abbrev g₀ : ℕ
  g₀ = back T (get_or ds i 0)

  -- what is seen under a setting, and its rows with their routes
  abbrev under : ℕ → Sight
  under w = sight_from cs T ds w R q p

  abbrev listing : ℕ → List Routed
  listing w = routed (sight_from cs T ds w R q p)

  -- how many crossings a route has at most
  abbrev fuel : ℕ
  fuel = unentered (cell_count T) (standing T p)

  -- ---- shutting an open door

  module _ (w : ℕ) (stands : Stands cs T ds w q p) (is_open : shut w i ≡ false) where
    change : DoorChange (face_count T) f₀ g₀ (plan_floor cs T ds w R q) (plan_floor cs T ds (with_shut w i) R q).ends (cell_count T) (standing T p)
    change = plan_change sound w R q p stands i h is_open

    -- on the tree: sight ends where the door was passed
    pub shutting_prunes : under (with_shut w i) ≡ prune f₀ g₀ (under w)
    shutting_prunes = Any.shutting_prunes change

    -- the listing under the shut setting is the listing under the open one with each run replaced by one row
    pub shutting_replaces_each_run : listing (with_shut w i) ≡ shut_rows f₀ g₀ (listing w)
    shutting_replaces_each_run = Any.shutting_replaces_each_run change

    pub shut_numbers_are_the_numbers : numbers (under (with_shut w i)) ≡ row_numbers (shut_rows f₀ g₀ (listing w))
    shut_numbers_are_the_numbers = Any.shut_numbers_are_the_numbers change

    -- rows whose routes neither cross the door nor end on it stand in both lists, unaltered, in the same order
    pub untouched_rows_stand_in_both : those (untouched f₀ g₀) (listing (with_shut w i)) ≡ those (untouched f₀ g₀) (listing w)
    untouched_rows_stand_in_both = Any.untouched_rows_stand_in_both change

    -- a door in reach: runs through the open door and rows on the shut door correspond one to one, in order
    pub rows_on_the_shut_door_are_the_runs : unreached cs T R q f₀ ≡ false → those (on_door f₀ g₀) (listing (with_shut w i)) ≡ map (door_row f₀ g₀) (runs f₀ g₀ (listing w))
    rows_on_the_shut_door_are_the_runs e = Any.rows_on_the_shut_door_are_the_runs change (ends_at_the_open_door sound i h w R q is_open ∙ e)

    -- a door out of reach: what is seen is the same shut and open, so that it keeps its row, and no run is behind it
    pub out_of_reach_nothing_changes : unreached cs T R q f₀ ≡ true → under (with_shut w i) ≡ under w
    out_of_reach_nothing_changes e = Any.out_of_reach_nothing_changes change (ends_at_the_open_door sound i h w R q is_open ∙ e)

    pub out_of_reach_no_runs : unreached cs T R q f₀ ≡ true → runs f₀ g₀ (listing w) ≡ []
    out_of_reach_no_runs e = Any.out_of_reach_no_runs change (ends_at_the_open_door sound i h w R q is_open ∙ e)

    -- no two runs have the same route up to and including the door: two visits by different routes stay two rows
    pub runs_have_routes_of_their_own : {k k' : Piece} {a b : ℕ} → At k (runs f₀ g₀ (listing w)) a → At k' (runs f₀ g₀ (listing w)) b → same_to_door f₀ g₀ k.first.route k'.first.route ≡ true → a ≡ b
    runs_have_routes_of_their_own a r same = Any.runs_have_routes_of_their_own change a r same

    -- crossings once the door is shut, and while it is open
    pub crossings_once_shut : crossings (under (with_shut w i)) ≡ crossings_left f₀ g₀ (under w)
    crossings_once_shut = Any.crossings_once_shut_are_those_left change

    pub crossings_while_open : crossings (under w) ≡ crossings (under (with_shut w i)) + crossings_lost f₀ g₀ (under w)
    crossings_while_open = Any.crossings_while_open_are_those_and_the_lost change

    -- the listing under the open setting is the listing under the shut one with each row on the door replaced by its run
    pub shutting_is_undone : listing w ≡ open_rows (plan_floor cs T ds w R q) (is_door f₀ g₀) fuel (listing (with_shut w i))
    shutting_is_undone = Any.opening_replaces_each_door_row change

    -- shutting and then opening returns the first list
    pub shut_then_opened : listing (with_open (with_shut w i) i) ≡ listing w
    shut_then_opened = ap listing (opening_undoes_shutting w i is_open)

  -- ---- opening a shut door

  module _ (w : ℕ) (stands : Stands cs T ds (with_open w i) q p) (is_shut : shut w i ≡ true) where
    -- each row on the door is replaced by its run
    pub opening_replaces_each_door_row : listing (with_open w i) ≡ open_rows (plan_floor cs T ds (with_open w i) R q) (is_door f₀ g₀) fuel (listing w)
    opening_replaces_each_door_row =
        subst (λ (v : ℕ). listing (with_open w i) ≡ open_rows (plan_floor cs T ds (with_open w i) R q) (is_door f₀ g₀) fuel (listing v))
        (shutting_undoes_opening w i is_shut) (shutting_is_undone (with_open w i) stands (opening_opens_the_door w i))

    pub opened_numbers_are_the_numbers : numbers (under (with_open w i)) ≡ row_numbers (open_rows (plan_floor cs T ds (with_open w i) R q) (is_door f₀ g₀) fuel (listing w))
    opened_numbers_are_the_numbers = sym (routed_numbers_are_the_numbers (under (with_open w i))) ∙ ap row_numbers opening_replaces_each_door_row

    -- the reverse of shutting
    pub opening_is_the_reverse_of_shutting : listing w ≡ shut_rows f₀ g₀ (listing (with_open w i))
    opening_is_the_reverse_of_shutting =
        subst (λ (v : ℕ). listing v ≡ shut_rows f₀ g₀ (listing (with_open w i))) (shutting_undoes_opening w i is_shut)
        (shutting_replaces_each_run (with_open w i) stands (opening_opens_the_door w i))

    -- opening and then shutting returns the first list
    pub opened_then_shut : listing (with_shut (with_open w i) i) ≡ listing w
    opened_then_shut = ap listing (shutting_undoes_opening w i is_shut)

  -- ---- the door, seen

  -- the door's other face has its two ends reversed
  other_starts : start T g₀ ≡ start T (next T f₀)
  other_starts = back_starts_at_the_finish sound f₀ (door_exists sound i h) (door_is_free sound i h)

  other_finishes : start T (next T g₀) ≡ start T f₀
  other_finishes = back_finishes_at_the_start sound f₀ (door_exists sound i h) (door_is_free sound i h)

  -- the door is always seen from the same side from one stand, under whatever settings: crossed or ended on, by one face
  pub door_is_seen_from_the_same_side : {w w' : ℕ} → Stands cs T ds w q p → Stands cs T ds w' q p → {x y : Routed} {a b k m e e' : ℕ} → At x (listing w) a → At y (listing w') b → At e (way x) k → At e' (way y) m → is_door f₀ g₀ e ≡ true → is_door f₀ g₀ e' ≡ true → e ≡ e'
  door_is_seen_from_the_same_side {w} {w'} S S' {e = e} {e' = e'} a a' r r' d d' =
      Side.seen_from_one_side (plan_floor cs T ds w R q) (seen cs q) f₀ g₀ other_starts other_finishes e e' d d'
      (Side.way_is_seen (plan_geometry sound w R q) (stands_on_the_floor sound w R q S) a r)
      (Side.way_is_seen (plan_geometry sound w' R q) (stands_on_the_floor sound w' R q S') a' r')

  -- no route crosses it twice, nor ends on it after crossing it
  pub no_route_crosses_the_door_twice : {w : ℕ} → Stands cs T ds w q p → {x : Routed} {k : ℕ} → At x (listing w) k → (a b : ℕ) → a < b → b < length (way x) → is_door f₀ g₀ (get_or (way x) a 0) ≡ true → is_door f₀ g₀ (get_or (way x) b 0) ≡ true → ⊥
  no_route_crosses_the_door_twice {w} S a =
      Side.no_way_meets_the_door_twice (plan_geometry sound w R q) (stands_on_the_floor sound w R q S) f₀ g₀ other_starts other_finishes a

  -- rows on the door have one face, and each a route of its own
  pub rows_on_the_door_have_one_face : {w w' : ℕ} → Stands cs T ds w q p → Stands cs T ds w' q p → {x y : Routed} {a b : ℕ} → At x (listing w) a → At y (listing w') b → on_door f₀ g₀ x ≡ true → on_door f₀ g₀ y ≡ true → x.row.face ≡ y.row.face
  unfolding on_door
  rows_on_the_door_have_one_face S S' {x} {y} a r d d' = door_is_seen_from_the_same_side S S' a r (face_is_on_the_way x) (face_is_on_the_way y) d d'

  pub rows_on_the_door_have_routes_of_their_own : {w : ℕ} → Stands cs T ds w q p → {x y : Routed} {a b : ℕ} → At x (listing w) a → At y (listing w) b → on_door f₀ g₀ x ≡ true → on_door f₀ g₀ y ≡ true → x.route ≡ y.route → a ≡ b
  unfolding way
  rows_on_the_door_have_routes_of_their_own {w} S a r d d' same =
      way_tells_the_place (every_listed_row_has_its_own_way (plan_geometry sound w R q) (stands_on_the_floor sound w R q S)) a r
      (rw (same, rows_on_the_door_have_one_face S S a r d d'))
