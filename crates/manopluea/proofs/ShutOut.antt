-- Wrong versions break the demand that document 01 names ("What the promises have to say"): the listing's on plan Q from the stand of cases a and b, the
-- door change's on the hall with two adjacent runs. Each is asked of any answer and table that such a version could leave.
use mathlib.Core.Bool.{true, false}
use mathlib.Core.List.{List, [], ◌∷◌}
use mathlib.Core.Path.{◌≡◌, refl, ap, ap₂, sym, ◌∙◌, subst}
use native.Mathlib.Omega.{arith}
use Prim.Native.Nat.{ℕ, zero, suc, ◌+◌, ◌*◌, ◌<◌}
use lib.Ieee.{of_bits}
use lib.ListN.{get_or, get_or-eq_default}
use lib.Seq.{sets}
use lib.IntN.{ℤ, pos, negsuc}
use lib.Signed.{◌<ℤ◌}
use Rattle.plane.specs.Side.{Point as Vector, side}
use Rattle.plane.specs.Cone.{minus, cross, dot, Holds, Direction}
use Rattle.plane.specs.Tests.{is_within}
use Rattle.limits.specs.Limits.{triangles, sized}
use Rattle.cells.specs.Least.{least}
use Rattle.cells.specs.Lists.{corner_at, next, start, neighbour, answers, back, home}
use Rattle.cells.specs.Check.{outside, wrong_corner, wrong_cell, wrong_neighbour, names, wrong_door, strictly_left, separates, overlapping, in_a_pair, checked, framed, some_face, wrong_for_side, missing_corner, wrong_side, checked_cells}
use Rattle.limits.specs.Reply.{number, refused}
use Rattle.cells.specs.PlanQ.{corners_of_Q, cells_of_Q, doors_of_Q}
use Rattle.limits.specs.declared.Refusal.{Refusal}
use Rattle.limits.specs.declared.Refusal.TheVariants.{Frame, Size, Corner, Cell as NoCell, Neighbour, Door, Overlap, Setting, Stand as NoStand, Line, Outside, Room, Change, Rows as Untrue, Far, Reach as NoReach, Ceiling as NoCeiling}
use Rattle.cells.specs.Cut.{cell_of, cut_triangles, cut_polygons, cut, pairs, faces_of, firsts_from, tables, cells_of}
use Rattle.setting.specs.Setting.{shut, with_shut, wrong_setting, bars, ends}
use Rattle.number.specs.Whole.{whole}
use Rattle.stand.specs.Spot.{whole_point, stood}
use Rattle.stand.specs.Find.{against, strictly_within, within_free, located, not_left_of, right_of}
use Rattle.stand.specs.declared.spot.Stand.TheVariants.{Point}
use Rattle.stand.specs.declared.locate.Footing.{Footing}
use Rattle.stand.specs.declared.locate.Footing.TheVariants.{Inside}
use Rattle.cells.proofs.Tables.{numbered}
use Rattle.stand.proofs.Located.{found_place_holds_the_stand}
use Rattle.stand.proofs.Unique.{a_stand_is_one_point, a_stand_has_one_place}
use Rattle.fan.specs.Sight.{Row, follow, numbers, row_count, crossings, fan, sides, lines_around, unentered, lines_seen, seen_from}
use Rattle.fan.specs.Walk.Among.{this, after as one_after}
use Rattle.fan.specs.Walk.Begins.{in_the_cell}
use Rattle.fan.specs.Walk.Walks.{ended, crossed}
use Rattle.fan.specs.Written.{written, row_at}
use Rattle.reach.specs.Reach.{out_of_reach, far, range, wrong_reach}
use Rattle.sight.specs.Listing.{no_room, sight_from, viewed, listing_numbers, listing_row_count, listing_crossings, listed, placed}
use Rattle.sight.specs.Reply.{listed_reply}
use Rattle.sight.specs.declared.view.Query.{Query}
use Rattle.sight.specs.Ceiling.{exceeds, listed_up_to}
use Rattle.sight.proofs.Sightings.{walk_is_unique}
use Rattle.sight.proofs.Views.{view_says}
use Rattle.runs.specs.Route.{routed, row_numbers}
use Rattle.runs.specs.Door.{is_door, crosses, side_seen, before, same_to_door, on_door}
use Rattle.runs.specs.Shutting.{last, joined, pieces, is_run, door_row, shut_piece, shut_rows}
use Rattle.doors.specs.Change.{no_change, wished_for}
use Rattle.manopluea.specs.Cases.{six, three, old, untouched}
use Rattle.manopluea.specs.Conditions.{Answers, list_conditions, door_underfoot}
use Rattle.manopluea.specs.Demands.{MeetsNoCorner, HeldOnce, HoldsDirection, WalkEndsAt, Sighted, Demand2, Demand3}
use Rattle.manopluea.specs.Hall.{corners_of_hall, cells_of_hall, doors_of_hall, stand_in_hall, query_in_hall, hall_table, open_hall, shut_hall}
use Rattle.manopluea.specs.ShutOut.{as_walls, first_line_alone, other_sides_as_walls, rows_of, first_run_alone, only_the_first_run, in_front_of, joined_on_the_door, adjacent_runs_joined}
use Rattle.manopluea.proofs.Demands.{demand_1}
use Rattle.sight.specs.declared.list.Counts.{Counts}
use Rattle.std.specs.Prelude.{None, Ok, Result, Some}
use Rattle.limits.proofs.Handed.{ok_same}

-- ---- plan Q from (6, 3), under a setting

abbrev query : ℕ → Query
query w = record { setting = w; stand = Point six three; reach = None }

abbrev q : Vector
q = record { x = pos 6; y = pos 3 }

view_open : viewed triangles corners_of_Q cells_of_Q doors_of_Q (query 0) ≡ Ok (record { x = pos 6; y = pos 3; footing = Inside 0 })
unfolding of_bits side sized least home next start neighbour answers back cell_of cut_triangles cut_polygons cut pairs faces_of firsts_from tables cells_of framed outside wrong_corner some_face wrong_for_side missing_corner wrong_side wrong_cell wrong_neighbour names wrong_door strictly_left separates overlapping in_a_pair checked_cells checked wrong_setting whole whole_point stood not_left_of right_of against is_within strictly_within within_free minus dot located viewed wrong_reach
view_open = refl

view_shut : viewed triangles corners_of_Q cells_of_Q doors_of_Q (query 1) ≡ Ok (record { x = pos 6; y = pos 3; footing = Inside 0 })
unfolding of_bits side sized least home next start neighbour answers back cell_of cut_triangles cut_polygons cut pairs faces_of firsts_from tables cells_of framed outside wrong_corner some_face wrong_for_side missing_corner wrong_side wrong_cell wrong_neighbour names wrong_door strictly_left separates overlapping in_a_pair checked_cells checked wrong_setting whole whole_point stood not_left_of right_of against is_within strictly_within within_free minus dot located viewed wrong_reach
view_shut = refl

-- the direction (−3, 5) meets no corner
abbrev d : Vector
d = record { x = negsuc 2; y = pos 5 }

d_is_a_direction : Direction d
d_is_a_direction = record { not_both_zero = λ e f. let z : ◌≡◌ {A = ℕ} 0 1 = cc in omega arith }

d_meets_no_corner : (w : ℕ) → MeetsNoCorner corners_of_Q (cells_of triangles cells_of_Q) doors_of_Q w 0 q (Inside 0) d
unfolding cross minus
d_meets_no_corner w zero h m = let e = m.along in let z : ◌≡◌ {A = ℕ} 0 1 = cc in omega arith
d_meets_no_corner w (suc zero) h m = let e = m.along in let z : ◌≡◌ {A = ℕ} 0 1 = cc in omega arith
d_meets_no_corner w (suc (suc zero)) h m = let e = m.along in let z : ◌≡◌ {A = ℕ} 0 1 = cc in omega arith
d_meets_no_corner w (suc (suc (suc zero))) h m = let e = m.along in let z : ◌≡◌ {A = ℕ} 0 1 = cc in omega arith
d_meets_no_corner w (suc (suc (suc (suc k)))) h m = omega arith

-- its walk ends at face 4 while the door is open, and at the door's face 2 while it is shut
leaves_by_2 : Holds (minus (record { x = pos 10; y = pos 10 }) q) (minus (record { x = pos 0; y = pos 0 }) q) d
unfolding cross minus
leaves_by_2 = record { right = record { lt = tt }; left = record { lt = tt } }

leaves_by_4 : Holds (minus (record { x = pos 10; y = pos 10 }) q) (minus (record { x = pos 0; y = pos 10 }) q) d
unfolding cross minus
leaves_by_4 = record { right = record { lt = tt }; left = record { lt = tt } }

walk_while_open : WalkEndsAt corners_of_Q (cells_of triangles cells_of_Q) doors_of_Q 0 0 q (Inside 0) d 4
unfolding start next home ends bars names shut least neighbour answers back cell_of cut_triangles cut pairs faces_of firsts_from tables cells_of out_of_reach
walk_while_open = record { side = 2; begins = in_the_cell (one_after (one_after this)); leaves = leaves_by_2; walks = crossed refl this leaves_by_4 (ended refl) }

walk_once_shut : WalkEndsAt corners_of_Q (cells_of triangles cells_of_Q) doors_of_Q 1 0 q (Inside 0) d 2
unfolding start next home ends bars names shut least neighbour answers back cell_of cut_triangles cut pairs faces_of firsts_from tables cells_of out_of_reach
walk_once_shut = record { side = 2; begins = in_the_cell (one_after (one_after this)); leaves = leaves_by_2; walks = ended refl }

-- what demand 2 asks at the stand's point and cell
module _ {kind : ℕ} {cs : List ℤ} {ts ds : List ℕ} {a : Query} {n k : ℕ} {table : List ℕ} (seen : Sighted kind cs ts ds a n k table) {x y : ℤ} {p : Footing} (at : stood cs a.stand ≡ Some (x, y)) (there : located cs (cells_of kind ts) ds a.setting (record { x = x; y = y }) ≡ Ok p) where
  same_point : ◌≡◌ {A = Vector} (record { x = seen.x; y = seen.y }) (record { x = x; y = y })
  same_point = a_stand_is_one_point cs a.stand seen.the_stand at

  same_place : seen.place ≡ p
  same_place = a_stand_has_one_place cs a.stand seen.the_stand at (cells_of kind ts) ds a.setting seen.its_place there

  held_there : (d : Vector) → Direction d → MeetsNoCorner cs (cells_of kind ts) ds a.setting (range a.reach) (record { x = x; y = y }) p d → HeldOnce cs (cells_of kind ts) ds a.setting (range a.reach) (record { x = x; y = y }) p n table d
  held_there d = subst (λ (v : Vector). Direction d → MeetsNoCorner cs (cells_of kind ts) ds a.setting (range a.reach) v p d → HeldOnce cs (cells_of kind ts) ds a.setting (range a.reach) v p n table d) same_point (subst (λ (f : Footing). Direction d → MeetsNoCorner cs (cells_of kind ts) ds a.setting (range a.reach) (record { x = seen.x; y = seen.y }) f d → HeldOnce cs (cells_of kind ts) ds a.setting (range a.reach) (record { x = seen.x; y = seen.y }) f n table d) same_place (seen.held d))

-- so the row that holds the direction (−3, 5) has the face where its walk ends
module _ {w : ℕ} (view : viewed triangles corners_of_Q cells_of_Q doors_of_Q (query w) ≡ Ok (record { x = pos 6; y = pos 3; footing = Inside 0 })) {f : ℕ} (ends_there : WalkEndsAt corners_of_Q (cells_of triangles cells_of_Q) doors_of_Q w 0 q (Inside 0) d f) {n k : ℕ} {after : List ℕ} {before : List ℕ} (demand : Demand2 triangles corners_of_Q cells_of_Q doors_of_Q (query w) before (Ok (record { rows = n; crossings = k })) after) where
  held_d : HeldOnce corners_of_Q (cells_of triangles cells_of_Q) doors_of_Q w 0 q (Inside 0) n after d
  held_d =
      let says = view_says triangles corners_of_Q cells_of_Q doors_of_Q (query w) view in
      held_there (demand.sighted n k refl) says.spotted.stand_is says.spotted.stand_place d d_is_a_direction (d_meets_no_corner w)

  face_of_d : held_d.row.face ≡ f
  face_of_d =
      let says = view_says triangles corners_of_Q cells_of_Q doors_of_Q (query w) view in
      walk_is_unique says.sound w 0 q (Inside 0) (found_place_holds_the_stand corners_of_Q (numbered triangles cells_of_Q) doors_of_Q w q says.spotted.stand_place) d held_d.met ends_there

-- ---- one that always refuses: the exact conditions of demand 1

no_refusal_is_0 : (r : Refusal) → number r ≡ 0 → ⊥
no_refusal_is_0 Frame e = omega arith
no_refusal_is_0 Size e = omega arith
no_refusal_is_0 (Corner i) e = omega arith
no_refusal_is_0 (NoCell c) e = omega arith
no_refusal_is_0 (Neighbour f) e = omega arith
no_refusal_is_0 (Door i) e = omega arith
no_refusal_is_0 (Overlap c) e = omega arith
no_refusal_is_0 Setting e = omega arith
no_refusal_is_0 NoStand e = omega arith
no_refusal_is_0 Line e = omega arith
no_refusal_is_0 Outside e = omega arith
no_refusal_is_0 Room e = omega arith
no_refusal_is_0 Change e = omega arith
no_refusal_is_0 Untrue e = omega arith
no_refusal_is_0 Far e = omega arith
no_refusal_is_0 NoReach e = omega arith
no_refusal_is_0 NoCeiling e = omega arith

-- no condition applies to plan Q, so whatever is refused there breaks demand 1
listed_open : (listed_up_to triangles corners_of_Q cells_of_Q doors_of_Q (query 0) None untouched).0 ≡ Ok (record { rows = 4; crossings = 1 })
unfolding of_bits side sized least home next start neighbour answers back cell_of cut_triangles cut_polygons cut pairs faces_of firsts_from tables cells_of framed outside wrong_corner some_face wrong_for_side missing_corner wrong_side wrong_cell wrong_neighbour names wrong_door strictly_left separates overlapping in_a_pair checked_cells checked shut wrong_setting bars ends whole whole_point stood not_left_of right_of against is_within strictly_within within_free minus dot located fan follow sides lines_around unentered lines_seen seen_from numbers row_count crossings placed viewed no_room listing_numbers listing_row_count listing_crossings listed listed_up_to exceeds out_of_reach far wrong_reach
listed_open = refl

pub always_refused_breaks_demand_1 : (r : Refusal) (after : List ℕ) {numbers : List ℕ} → Answers numbers (list_conditions triangles corners_of_Q cells_of_Q doors_of_Q (query 0) None 16) (refused r) untouched after → ⊥
always_refused_breaks_demand_1 r after says =
    let done = (demand_1.list triangles corners_of_Q cells_of_Q doors_of_Q (query 0) None untouched).exact in
    no_refusal_is_0 r
    (ap (λ (p : ℕ × ℕ). p.0) (says.exact ∙ sym done) ∙ ap (λ (a : Result Counts Refusal). (listed_reply a).number) listed_open)

-- ---- demand 2

-- a listing that writes nothing: every row of the old table has the right limit 777, or 0 beyond its end, and neither is right of (−3, 5)
seen_in_the_old_table : (i : ℕ) → ◌≡◌ {A = Vector} (minus (corner_at corners_of_Q (row_at untouched i).right) q) (record { x = negsuc 5; y = negsuc 2 })
unfolding minus
seen_in_the_old_table zero = refl
seen_in_the_old_table (suc zero) = refl
seen_in_the_old_table (suc (suc zero)) = refl
seen_in_the_old_table (suc (suc (suc zero))) = refl
seen_in_the_old_table (suc (suc (suc (suc i)))) =
    ap (λ (c : ℕ). minus (corner_at corners_of_Q c) q) (get_or-eq_default untouched 0 {n = 4 * suc (suc (suc (suc i))) + 1} (omega arith))

not_right_of_d : pos 0 <ℤ cross (record { x = negsuc 5; y = negsuc 2 }) d → ⊥
unfolding cross
not_right_of_d h = h.lt

pub nothing_written_breaks_demand_2 : (n k : ℕ) → Demand2 triangles corners_of_Q cells_of_Q doors_of_Q (query 0) untouched (Ok (record { rows = n; crossings = k })) untouched → ⊥
nothing_written_breaks_demand_2 n k demand =
    let one = (held_d view_open walk_while_open demand).one in
    let holds = subst (HoldsDirection corners_of_Q (cells_of triangles cells_of_Q) doors_of_Q 0 0 q (Inside 0) d) (sym one.stands) one.has in
    not_right_of_d (subst (λ (v : Vector). pos 0 <ℤ cross v d) (seen_in_the_old_table one.place) holds.right)

-- the same rows always: with the door of Q open and shut
pub the_same_rows_always_break_demand_2 : (n k : ℕ) (before before' after : List ℕ) → Demand2 triangles corners_of_Q cells_of_Q doors_of_Q (query 0) before (Ok (record { rows = n; crossings = k })) after → Demand2 triangles corners_of_Q cells_of_Q doors_of_Q (query 1) before' (Ok (record { rows = n; crossings = k })) after → ⊥
the_same_rows_always_break_demand_2 n k before before' after as_open as_shut =
    let one = held_d view_open walk_while_open as_open in
    let two = held_d view_shut walk_once_shut as_shut in
    let here : two.one.place ≡ one.one.place = one.one.no_other two.one.place two.one.within (subst (HoldsDirection corners_of_Q (cells_of triangles cells_of_Q) doors_of_Q 0 0 q (Inside 0) d) (sym two.one.stands) two.one.has) in
    let same : two.row ≡ one.row = sym two.one.stands ∙ ap (row_at after) here ∙ one.one.stands in
    let four = face_of_d view_open walk_while_open as_open in
    let the_door = face_of_d view_shut walk_once_shut as_shut in
    let z : ◌≡◌ {A = ℕ} 2 4 = sym the_door ∙ ap (λ (r : Row). r.face) same ∙ four in
    omega arith

-- all sides of the stand's cell but side 0 as walls: the direction (−3, 5) is on the row of face 2, while its walk ends at face 4
walls_listed : other_sides_as_walls triangles corners_of_Q cells_of_Q doors_of_Q (query 0) untouched ≡ (Ok (record { rows = 3; crossings = 0 }), 0 ∷ 0 ∷ 1 ∷ 0 ∷ 1 ∷ 1 ∷ 2 ∷ 0 ∷ 2 ∷ 2 ∷ 0 ∷ 0 ∷ old ∷ old ∷ old ∷ old ∷ [])
unfolding of_bits side sized least home next start neighbour answers back cell_of cut_triangles cut_polygons cut pairs faces_of firsts_from tables cells_of framed outside wrong_corner some_face wrong_for_side missing_corner wrong_side wrong_cell wrong_neighbour names wrong_door strictly_left separates overlapping in_a_pair checked_cells checked shut wrong_setting bars ends whole whole_point stood not_left_of right_of against is_within strictly_within within_free minus dot located fan follow sides lines_around unentered lines_seen seen_from numbers row_count crossings placed viewed no_room as_walls first_line_alone out_of_reach far wrong_reach
walls_listed = refl

no_row_of_face_4 : (i : ℕ) → i < 3 → (row_at (0 ∷ 0 ∷ 1 ∷ 0 ∷ 1 ∷ 1 ∷ 2 ∷ 0 ∷ 2 ∷ 2 ∷ 0 ∷ 0 ∷ old ∷ old ∷ old ∷ old ∷ []) i).face ≡ 4 → ⊥
no_row_of_face_4 zero h e = omega arith
no_row_of_face_4 (suc zero) h e = omega arith
no_row_of_face_4 (suc (suc zero)) h e = omega arith
no_row_of_face_4 (suc (suc (suc i))) h e = omega arith

pub other_sides_as_walls_break_demand_2 : Demand2 triangles corners_of_Q cells_of_Q doors_of_Q (query 0) untouched (other_sides_as_walls triangles corners_of_Q cells_of_Q doors_of_Q (query 0) untouched).0 (other_sides_as_walls triangles corners_of_Q cells_of_Q doors_of_Q (query 0) untouched).1 → ⊥
other_sides_as_walls_break_demand_2 demand =
    let asked = subst (λ (p : Result Counts Refusal × List ℕ). Demand2 triangles corners_of_Q cells_of_Q doors_of_Q (query 0) untouched p.0 p.1) walls_listed demand in
    let one = (held_d view_open walk_while_open asked).one in
    no_row_of_face_4 one.place one.within (ap (λ (r : Row). r.face) one.stands ∙ face_of_d view_open walk_while_open asked)

-- crossings other than the expansion's, on any plan
pub invented_crossings_break_demand_2 : (kind : ℕ) (cs : List ℤ) (ts ds : List ℕ) (a : Query) (before after : List ℕ) (n k : ℕ) → (demand : Demand2 kind cs ts ds a before (Ok (record { rows = n; crossings = k })) after) → {x y : ℤ} {p : Footing} → stood cs a.stand ≡ Some (x, y) → located cs (cells_of kind ts) ds a.setting (record { x = x; y = y }) ≡ Ok p → (k ≡ listing_crossings cs (cells_of kind ts) ds a.setting (range a.reach) (record { x = x; y = y }) p → ⊥) → ⊥
invented_crossings_break_demand_2 kind cs ts ds a before after n k demand at there other =
    let seen = demand.sighted n k refl in
    other (seen.crossed ∙ ap₂ (λ (v : Vector) (f : Footing). listing_crossings cs (cells_of kind ts) ds a.setting (range a.reach) v f) (same_point seen at there) (same_place seen at there))

-- ---- demand 3, in the hall: its door is shut, from the true list

listed_while_open : listed triangles corners_of_hall cells_of_hall doors_of_hall query_in_hall hall_table ≡ (Ok (record { rows = 6; crossings = 6 }), open_hall)
unfolding of_bits side sized least home next start neighbour answers back cell_of cut_triangles cut_polygons cut pairs faces_of firsts_from tables cells_of framed outside wrong_corner some_face wrong_for_side missing_corner wrong_side wrong_cell wrong_neighbour names wrong_door strictly_left separates overlapping in_a_pair checked_cells checked shut wrong_setting bars ends whole whole_point stood not_left_of right_of against is_within strictly_within within_free minus dot located fan follow sides lines_around unentered lines_seen seen_from numbers row_count crossings placed viewed no_room listing_numbers listing_row_count listing_crossings listed out_of_reach far wrong_reach
listed_while_open = refl

listed_once_shut : listed triangles corners_of_hall cells_of_hall doors_of_hall (wished_for true query_in_hall 0) hall_table ≡ (Ok (record { rows = 5; crossings = 4 }), sets hall_table 0 shut_hall)
unfolding of_bits side sized least home next start neighbour answers back cell_of cut_triangles cut_polygons cut pairs faces_of firsts_from tables cells_of framed outside wrong_corner some_face wrong_for_side missing_corner wrong_side wrong_cell wrong_neighbour names wrong_door strictly_left separates overlapping in_a_pair checked_cells checked shut with_shut wrong_setting bars ends whole whole_point stood not_left_of right_of against is_within strictly_within within_free minus dot located fan follow sides lines_around unentered lines_seen seen_from numbers row_count crossings placed viewed no_room listing_numbers listing_row_count listing_crossings listed out_of_reach far wrong_reach
listed_once_shut = refl

not_underfoot : door_underfoot corners_of_hall (cells_of triangles cells_of_hall) doors_of_hall 0 0 (stood corners_of_hall stand_in_hall) ≡ false
unfolding of_bits side sized least home next start neighbour answers back cell_of cut_triangles cut_polygons cut pairs faces_of firsts_from tables cells_of framed outside wrong_corner some_face wrong_for_side missing_corner wrong_side wrong_cell wrong_neighbour names wrong_door strictly_left separates overlapping in_a_pair checked_cells checked wrong_setting whole whole_point stood not_left_of right_of against is_within strictly_within within_free minus dot located
not_underfoot = refl

may_shut : no_change doors_of_hall 0 0 true ≡ false
unfolding no_change shut
may_shut = refl

-- demand 3 of an answer and a table leaves one answer and one table
abbrev Demanded : Result Counts Refusal → List ℕ → Type 0
Demanded answer after = Demand3 triangles corners_of_hall cells_of_hall doors_of_hall query_in_hall open_hall 0 true hall_table answer after

shut_from_the_true_list : {answer : Result Counts Refusal} {after : List ℕ} → Demanded answer after → ◌≡◌ {A = Result Counts Refusal × List ℕ} (answer, after) (Ok (record { rows = 5; crossings = 4 }), sets hall_table 0 shut_hall)
shut_from_the_true_list demand = demand.from_the_true_list 6 6 open_hall listed_while_open not_underfoot may_shut refl ∙ listed_once_shut

-- at some place another number
other_table : (place : ℕ) {answer : Result Counts Refusal} {after : List ℕ} → Demanded answer after → (get_or after place 0 ≡ get_or (sets hall_table 0 shut_hall) place 0 → ⊥) → ⊥
other_table place demand other = other (ap (λ (p : Result Counts Refusal × List ℕ). get_or p.1 place 0) (shut_from_the_true_list demand))

-- the old list copied
pub a_copied_list_breaks_demand_3 : (answer : Result Counts Refusal) → Demanded answer (sets hall_table 0 open_hall) → ⊥
a_copied_list_breaks_demand_3 answer demand = other_table 8 demand (λ e. omega arith)

-- only the first run treated
first_run_numbers : row_numbers (only_the_first_run 10 12 (routed (sight_from corners_of_hall (cells_of triangles cells_of_hall) doors_of_hall 0 0 (record { x = pos 0; y = pos 5 }) (Inside 0)))) ≡ 0 ∷ 0 ∷ 1 ∷ 0 ∷ 3 ∷ 1 ∷ 3 ∷ 0 ∷ 10 ∷ 3 ∷ 2 ∷ 0 ∷ 14 ∷ 2 ∷ 4 ∷ 0 ∷ 8 ∷ 4 ∷ 0 ∷ 0 ∷ []
unfolding routed row_numbers written fan follow sides lines_around unentered lines_seen seen_from ends bars names shut least back answers neighbour start next home cell_of cut_triangles cut pairs faces_of firsts_from tables cells_of placed side is_door crosses side_seen before same_to_door last joined pieces is_run door_row rows_of first_run_alone out_of_reach far
first_run_numbers = refl

pub only_the_first_run_breaks_demand_3 : (answer : Result Counts Refusal) → Demanded answer (sets hall_table 0 (row_numbers (only_the_first_run 10 12 (routed (sight_from corners_of_hall (cells_of triangles cells_of_hall) doors_of_hall 0 0 (record { x = pos 0; y = pos 5 }) (Inside 0)))))) → ⊥
only_the_first_run_breaks_demand_3 answer demand = other_table 12 demand (λ e. let f = ap (λ (l : List ℕ). get_or (sets hall_table 0 l) 12 0) first_run_numbers in omega arith)

-- adjacent runs joined
joined_numbers : row_numbers (adjacent_runs_joined 10 12 (routed (sight_from corners_of_hall (cells_of triangles cells_of_hall) doors_of_hall 0 0 (record { x = pos 0; y = pos 5 }) (Inside 0)))) ≡ 0 ∷ 0 ∷ 1 ∷ 0 ∷ 3 ∷ 1 ∷ 3 ∷ 0 ∷ 10 ∷ 3 ∷ 4 ∷ 0 ∷ 8 ∷ 4 ∷ 0 ∷ 0 ∷ []
unfolding routed row_numbers written fan follow sides lines_around unentered lines_seen seen_from ends bars names shut least back answers neighbour start next home cell_of cut_triangles cut pairs faces_of firsts_from tables cells_of placed side is_door crosses side_seen before same_to_door on_door last joined pieces is_run door_row shut_piece shut_rows in_front_of joined_on_the_door out_of_reach far
joined_numbers = refl

pub joined_runs_break_demand_3 : (answer : Result Counts Refusal) → Demanded answer (sets hall_table 0 (row_numbers (adjacent_runs_joined 10 12 (routed (sight_from corners_of_hall (cells_of triangles cells_of_hall) doors_of_hall 0 0 (record { x = pos 0; y = pos 5 }) (Inside 0)))))) → ⊥
joined_runs_break_demand_3 answer demand = other_table 10 demand (λ e. let f = ap (λ (l : List ℕ). get_or (sets hall_table 0 l) 10 0) joined_numbers in omega arith)

-- invented crossings
pub invented_crossings_break_demand_3 : (n k : ℕ) (after : List ℕ) → (k ≡ 4 → ⊥) → Demanded (Ok (record { rows = n; crossings = k })) after → ⊥
invented_crossings_break_demand_3 n k after other demand =
    let e : ◌≡◌ {A = Result Counts Refusal} (Ok (record { rows = n; crossings = k })) (Ok (record { rows = 5; crossings = 4 })) = ap (λ (p : Result Counts Refusal × List ℕ). p.0) (shut_from_the_true_list demand) in
    let same : k ≡ 4 = ap (λ (m : Counts). m.crossings) (ok_same e) in
    other same
