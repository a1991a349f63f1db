-- The three demands, of the public calls' definitions and from the input alone.
use mathlib.Core.Bool.{Bool, true, false, not, ◌&&◌, false≢true}
use mathlib.Core.Logic.{◌⊎◌, inl, inr}
use mathlib.Core.List.{List, [], map}
use mathlib.Core.Path.{◌≡◌, refl, ap, sym, ◌∙◌, subst, subst₂}
use native.Mathlib.Omega.{arith}
use Prim.Native.Nat.{ℕ, ◌*◌, ◌<◌}
use borrow.Author.Tests.{ltb-true, ltb-false, not-false}
use lib.Dec.{ltb}
use lib.ListN.{length, get_or, take, drop}
use lib.IntN.{ℤ}
use Rattle.exact.proofs.Lent.{rest_is_kept}
use Rattle.exact.proofs.Truth.{one_true, neither_true}
use Rattle.plane.specs.Side.{Point}
use Rattle.cells.specs.Lists.{Cells, back}
use Rattle.cells.specs.Cut.{cells_of}
use Rattle.cells.proofs.Tables.{numbered}
use Rattle.limits.specs.declared.Refusal.{Refusal}
use Rattle.limits.specs.declared.Refusal.TheVariants.{Room}
use Rattle.setting.specs.Setting.{shut, with_shut, with_open, ends}
use Rattle.setting.proofs.Settings.{opening_opens_the_door, shutting_undoes_opening}
use Rattle.stand.specs.Spot.{stood}
use Rattle.stand.specs.Find.{strictly_within, first_inside, first_within, side_at, by_places, located}
use Rattle.stand.specs.declared.locate.Footing.{Footing}
use Rattle.stand.proofs.Located.{Stands, found_place_holds_the_stand}
use Rattle.fan.specs.Sight.{Row}
use Rattle.reach.specs.Reach.{range}
use Rattle.reach.proofs.Reaching.{reaches, does_not_reach, reached_is_in_reach, not_reached_is_out_of_reach, in_reach_is_0, out_of_reach_is_1}
use Rattle.fan.specs.Once.{At}
use Rattle.sight.specs.Listing.{unreached, plan_floor, sight_from, viewed, refuse, no_room, rows_from, listing_rows, listing_numbers, listing_row_count, listing_crossings, listed_from, listed}
use Rattle.fan.specs.Written.{written, row_at, OneRow}
use Rattle.sight.specs.declared.view.Query.{Query}
use Rattle.sight.specs.Ceiling.{listed_up_to}
use Rattle.sight.proofs.UpTo.{as_without}
use Rattle.sight.proofs.Sightings as Sightings
use Rattle.fan.proofs.Tables.{length_of_rows, row_stands_there, one_row_of_the_table}
use Rattle.sight.proofs.Views.{Viewed, view_says, has_room, rows_are_no_refusal, Seen, rows_are_seen}
use Rattle.sight.proofs.Written.{list_writes_the_rows, the_table_holds_the_rows, the_count_is_the_rows}
use Rattle.runs.specs.Route.{Routed, routed, row_numbers}
use Rattle.runs.specs.Door.{on_door, untouched, those}
use Rattle.runs.specs.Shutting.{runs, door_row}
use Rattle.doors.specs.Change.{same_list, in_state, no_change, wished, wished_for, underfoot, changed}
use Rattle.doors.proofs.Changed.{a_door_underfoot_is_refused, a_short_table_is_refused, a_door_that_is_not_there_is_refused, a_door_already_so_is_refused, a_list_that_is_not_true_is_refused, same_view, the_change_is_a_fresh_listing}
use Rattle.doors.proofs.Changes.{true_is_same, is_the_same, listed_anew, change_refused}
use Rattle.doors.proofs.Fresh.{numbers_are_routed}
use Rattle.doors.proofs.PlanDemand3.{untouched_rows_stand_in_both, rows_on_the_shut_door_are_the_runs, out_of_reach_nothing_changes, out_of_reach_no_runs}
use Rattle.manopluea.specs.Conditions.{inside_some, within_some, on_some_border, door_underfoot}
use Rattle.manopluea.specs.Demands.{Demand1, HoldsDirection, InReachOfStand, Says, Sighted, Demand2, while_open, once_shut, RunByRun, Demand3}
use Rattle.manopluea.specs.Demands.Says.{wall_in_reach, out_of_reach}
use Rattle.manopluea.proofs.Replies.{check_answers, read_answers, write_answers, find_answers, list_answers, draw_answers, change_answers, list_stands_answers, numbers_tell_refusals_apart}
use Rattle.sight.specs.declared.list.Counts.{Counts}
use Rattle.sight.specs.declared.view.View.{View}
use Rattle.std.specs.Prelude.{Err, Ok, Option, Result}
use Rattle.limits.proofs.Handed.{ok_same}

-- Every plan file, however damaged, every stand and every door setting gets an ending and one fixed reply. Each refusal has its own number and exact
-- condition and writes nothing into lent memory.
pub demand_1 : Demand1
demand_1 =
    record {
      check = check_answers;
      read = read_answers;
      write = write_answers;
      find = find_answers;
      list = list_answers;
      draw = draw_answers;
      change = change_answers;
      list_stands = list_stands_answers;
      apart = numbers_tell_refusals_apart;
    }

-- ---- a listing that replies rows

module _ (kind : ℕ) (cs : List ℤ) (ts ds : List ℕ) (a : Query) (table : List ℕ) where
  module _ {x y : ℤ} {p : Footing} (view : viewed kind cs ts ds a ≡ Ok (record { x = x; y = y; footing = p })) (room : no_room cs table ≡ false) where
    abbrev q : Point
    q = record { x = x; y = y }

    says : Viewed kind cs ts ds a x y p
    says = view_says kind cs ts ds a view

    pub stands_there : Stands cs (cells_of kind ts) ds a.setting q p
    stands_there = found_place_holds_the_stand cs (numbered kind ts) ds a.setting q says.spotted.stand_place

    -- count, crossings and the first numbers of the table are the expansion's
    module _ {n k : ℕ} {t : List ℕ} (e : listed kind cs ts ds a table ≡ (Ok (record { rows = n; crossings = k }), t)) where
      from_the_view : (Ok (record { rows = n; crossings = k }), t) ≡ rows_from cs (cells_of kind ts) ds a.setting (range a.reach) table q p
      unfolding listed
      from_the_view =
          sym e
          ∙ ap (listed_from cs (cells_of kind ts) ds a.setting (range a.reach) table) view
          ∙ ap (λ (r : Bool). refuse r Room table (rows_from cs (cells_of kind ts) ds a.setting (range a.reach) table q p)) room

      answer_is : ◌≡◌ {A = Result Counts Refusal} (Ok (record { rows = n; crossings = k })) (Ok (record { rows = listing_row_count cs (cells_of kind ts) ds a.setting (range a.reach) q p; crossings = listing_crossings cs (cells_of kind ts) ds a.setting (range a.reach) q p }))
      answer_is = ap (λ (p : Result Counts Refusal × List ℕ). p.0) from_the_view

      pub row_count_is : n ≡ listing_row_count cs (cells_of kind ts) ds a.setting (range a.reach) q p
      row_count_is = ap (λ (m : Counts). m.rows) (ok_same answer_is)

      pub crossings_are : k ≡ listing_crossings cs (cells_of kind ts) ds a.setting (range a.reach) q p
      crossings_are = ap (λ (m : Counts). m.crossings) (ok_same answer_is)

      pub first_numbers_are : take (4 * n) t ≡ listing_numbers cs (cells_of kind ts) ds a.setting (range a.reach) q p
      first_numbers_are = listed_anew says.sound a.setting (range a.reach) q p says.spotted.stand_place table row_count_is (has_room cs table room) (ap (λ (p : Result Counts Refusal × List ℕ). p.1) from_the_view)

-- ---- demand 2

-- a row's fourth number: its face ends the sight there, and the number is the floor's
module _ (cs : List ℤ) (T : Cells) (ds : List ℕ) (w R : ℕ) (q : Point) where
  number_is_right : (f far : ℕ) → (plan_floor cs T ds w R q).ends f ≡ true → far ≡ (plan_floor cs T ds w R q).far f → Says cs T ds w R q f far
  number_is_right f far ends_there is_the_floors = subst (Says cs T ds w R q f) (sym is_the_floors) (by_reach (unreached cs T R q f) refl)
    where
      as_a_wall : unreached cs T R q f ≡ false → (ends T ds w f ≡ true) ⊎ (unreached cs T R q f ≡ true) → ends T ds w f ≡ true
      as_a_wall h (inl e) = e
      as_a_wall h (inr e) = absurd (false≢true (sym h ∙ e))

      by_reach : (t : Bool) → unreached cs T R q f ≡ t → Says cs T ds w R q f ((plan_floor cs T ds w R q).far f)
      by_reach true h = subst (Says cs T ds w R q f) (sym (out_of_reach_is_1 R _ _ h)) (out_of_reach (does_not_reach R _ _ h))
      by_reach false h = subst (Says cs T ds w R q f) (sym (in_reach_is_0 R _ _ h)) (wall_in_reach (as_a_wall h (one_true _ _ ends_there)) (reaches R _ _ h))

module _ (kind : ℕ) (cs : List ℤ) (ts ds : List ℕ) (a : Query) (table : List ℕ) {n k : ℕ} (e : (listed kind cs ts ds a table).0 ≡ Ok (record { rows = n; crossings = k })) where
  pub whole : listed kind cs ts ds a table ≡ (Ok (record { rows = n; crossings = k }), (listed kind cs ts ds a table).1)
  whole = λ j. (e j, (listed kind cs ts ds a table).1)

  from_there : Seen kind cs ts ds a table
  from_there = rows_are_seen kind cs ts ds a table e

  module _ {x y : ℤ} {p : Footing} (view : viewed kind cs ts ds a ≡ Ok (record { x = x; y = y; footing = p })) (room : no_room cs table ≡ false) where
    abbrev point : Point
    point = record { x = x; y = y }

    abbrev rows : List Row
    rows = listing_rows cs (cells_of kind ts) ds a.setting (range a.reach) point p

    count_is : n ≡ length rows
    count_is = row_count_is kind cs ts ds a table view room whole ∙ the_count_is_the_rows cs (cells_of kind ts) ds a.setting (range a.reach) point p

    sighted_from : Sighted kind cs ts ds a n k (listed kind cs ts ds a table).1
    sighted_from =
        let says = view_says kind cs ts ds a view in
        record {
          x = x;
          y = y;
          the_stand = says.spotted.stand_is;
          place = p;
          its_place = says.spotted.stand_place;
          expanded = first_numbers_are kind cs ts ds a table view room whole;
          counted = row_count_is kind cs ts ds a table view room whole;
          crossed = crossings_are kind cs ts ds a table view room whole;
          held = λ d nonzero clear.
              let one = Sightings.demand_2 says.sound a.setting (range a.reach) point p (stands_there kind cs ts ds a table view room) d nonzero clear in
              record {
                row = one.0;
                one = subst₂ (λ (t : List ℕ) (m : ℕ). OneRow (HoldsDirection cs (cells_of kind ts) ds a.setting (range a.reach) point p d) t m one.0) (sym (the_table_holds_the_rows kind cs ts ds a table view room)) (sym count_is) (one_row_of_the_table rows (drop (4 * length rows) table) one.1);
                met = one.2;
              };
          said = λ i h.
              let at = subst (λ (t : List ℕ). At (row_at t i) rows i) (sym (the_table_holds_the_rows kind cs ts ds a table view room)) (row_stands_there rows (drop (4 * length rows) table) i (subst (λ (m : ℕ). i < m) count_is h)) in
              let seen = Sightings.row_is_seen says.sound a.setting (range a.reach) point p (stands_there kind cs ts ds a table view room) at in
              number_is_right cs (cells_of kind ts) ds a.setting (range a.reach) point _ _ seen.ends seen.reached;
        }

    kept_beyond : drop (4 * n) (listed kind cs ts ds a table).1 ≡ drop (4 * n) table
    kept_beyond =
        let says = view_says kind cs ts ds a view in
        let few = Sightings.rows_never_outnumber_corners says.sound a.setting (range a.reach) point p (stands_there kind cs ts ds a table view room) in
        let count = row_count_is kind cs ts ds a table view room whole in
        let long = length_of_rows rows in
        ap (λ (p : Result Counts Refusal × List ℕ). drop (4 * n) p.1) (list_writes_the_rows kind cs ts ds a table view room)
        ∙ rest_is_kept table (written rows) (4 * n) (omega (arith, count_is)) (omega (arith, has_room cs table room))

-- On an accepted plan rows, order and crossings are those of the published triangular expansion, and every direction whose ray meets no corner is held
-- by exactly one row, whose wall is the first met walking cell by cell; whichever ceiling they keep to.
pub demand_2 : (kind : ℕ) (cs : List ℤ) (ts ds : List ℕ) (a : Query) (c : Option ℕ) (table : List ℕ) → Demand2 kind cs ts ds a table (listed_up_to kind cs ts ds a c table).0 (listed_up_to kind cs ts ds a c table).1
demand_2 kind cs ts ds a c table =
    record {
      sighted = λ n k e.
          let same = as_without kind cs ts ds a c table (rows_are_no_refusal e) in
          let alone = sym (ap answer same) ∙ e in
          let v = from_there kind cs ts ds a table alone in
          subst (λ (l : Result Counts Refusal × List ℕ). Sighted kind cs ts ds a n k l.1) (sym same) (sighted_from kind cs ts ds a table alone v.view v.room);
      beyond = λ n k e.
          let same = as_without kind cs ts ds a c table (rows_are_no_refusal e) in
          let alone = sym (ap answer same) ∙ e in
          let v = from_there kind cs ts ds a table alone in
          ap (λ (l : Result Counts Refusal × List ℕ). drop (4 * n) l.1) same ∙ kept_beyond kind cs ts ds a table alone v.view v.room;
    }
  where
    answer : Result Counts Refusal × List ℕ → Result Counts Refusal
    answer l = l.0

-- ---- demand 3

module _ (kind : ℕ) (cs : List ℤ) (ts ds : List ℕ) (a : Query) (given : List ℕ) (i : ℕ) (b : Bool) (table : List ℕ) where
  -- a change that replies rows passed each test: a view from no line of the door, room, a door that is not yet so, and the true list
  record Passed : Type 0 where
    x : ℤ
    y : ℤ
    p : Footing
    view : viewed kind cs ts ds a ≡ Ok (record { x = x; y = y; footing = p })
    clear : underfoot cs (cells_of kind ts) ds i (record { x = x; y = y }) p ≡ false
    room : no_room cs table ≡ false
    exists : i < length ds
    otherwise : in_state b a.setting i ≡ false
    is_true : given ≡ listing_numbers cs (cells_of kind ts) ds a.setting (range a.reach) (record { x = x; y = y }) p

  no_rows : {r : Refusal} {n k : ℕ} → (changed kind cs ts ds a given i b table).0 ≡ Ok (record { rows = n; crossings = k }) → changed kind cs ts ds a given i b table ≡ (Err r, table) → ⊥
  no_rows e f = rows_are_no_refusal e (ap (λ (p : Result Counts Refusal × List ℕ). p.0) f)

  module _ {n k : ℕ} (e : (changed kind cs ts ds a given i b table).0 ≡ Ok (record { rows = n; crossings = k })) {x y : ℤ} {p : Footing} (view : viewed kind cs ts ds a ≡ Ok (record { x = x; y = y; footing = p })) where
    abbrev here : Point
    here = record { x = x; y = y }

    by_list : underfoot cs (cells_of kind ts) ds i here p ≡ false → no_room cs table ≡ false → i < length ds → in_state b a.setting i ≡ false → (t : Bool) → same_list given (listing_numbers cs (cells_of kind ts) ds a.setting (range a.reach) here p) ≡ t → Passed
    by_list u r exists o true t = record { x = x; y = y; p = p; view = view; clear = u; room = r; exists = exists; otherwise = o; is_true = true_is_same _ _ t }
    by_list u r exists o false t = absurd (no_rows e (a_list_that_is_not_true_is_refused kind cs ts ds a given i b table view u r exists o (λ same. no_test t (is_the_same same))))
      where
        no_test : {u : Bool} → u ≡ false → true ≡ u → ⊥
        no_test f g = let z : ◌≡◌ {A = ℕ} 0 1 = cc in omega arith

    by_state : underfoot cs (cells_of kind ts) ds i here p ≡ false → no_room cs table ≡ false → i < length ds → (t : Bool) → in_state b a.setting i ≡ t → Passed
    by_state u r exists true t = absurd (no_rows e (a_door_already_so_is_refused kind cs ts ds a given i b table view u r exists t))
    by_state u r exists false t = by_list u r exists t (same_list given (listing_numbers cs (cells_of kind ts) ds a.setting (range a.reach) here p)) refl

    by_door : underfoot cs (cells_of kind ts) ds i here p ≡ false → no_room cs table ≡ false → (t : Bool) → ltb i (length ds) ≡ t → Passed
    by_door u r true t = by_state u r (ltb-true _ _ t) (in_state b a.setting i) refl
    by_door u r false t = absurd (no_rows e (a_door_that_is_not_there_is_refused kind cs ts ds a given i b table view u r (ltb-false _ _ t)))

    by_room : underfoot cs (cells_of kind ts) ds i here p ≡ false → (t : Bool) → no_room cs table ≡ t → Passed
    by_room u true t = absurd (no_rows e (a_short_table_is_refused kind cs ts ds a given i b table view u t))
    by_room u false t = by_door u t (ltb i (length ds)) refl

    by_line : (t : Bool) → underfoot cs (cells_of kind ts) ds i here p ≡ t → Passed
    by_line true t = absurd (no_rows e (a_door_underfoot_is_refused kind cs ts ds a given i b table view t))
    by_line false t = by_room t (no_room cs table) refl

  passed : {n k : ℕ} → (changed kind cs ts ds a given i b table).0 ≡ Ok (record { rows = n; crossings = k }) → Passed
  passed e = by_view (viewed kind cs ts ds a) refl
    where
      by_view : (v : Result View Refusal) → viewed kind cs ts ds a ≡ v → Passed
      by_view (Ok v) h = by_line e h (underfoot cs (cells_of kind ts) ds i (record { x = v.x; y = v.y }) v.footing) refl
      by_view (Err r) h = absurd (no_rows e (sym (change_refused kind cs ts ds a given i b table h)))

  module _ {x y : ℤ} {p : Footing} (view : viewed kind cs ts ds a ≡ Ok (record { x = x; y = y; footing = p })) (clear : underfoot cs (cells_of kind ts) ds i (record { x = x; y = y }) p ≡ false) (room : no_room cs table ≡ false) (exists : i < length ds) (otherwise : in_state b a.setting i ≡ false) where
    abbrev q₀ : Point
    q₀ = record { x = x; y = y }

    holds : Viewed kind cs ts ds a x y p
    holds = view_says kind cs ts ds a view

    new_view : viewed kind cs ts ds (wished_for b a i) ≡ Ok (record { x = x; y = y; footing = p })
    new_view = same_view kind cs ts ds a given i b table view clear room exists otherwise

    -- it stands so under both settings
    stands : Stands cs (cells_of kind ts) ds a.setting q₀ p
    stands = stands_there kind cs ts ds a table view room

    stands_anew : Stands cs (cells_of kind ts) ds (wished b a.setting i) q₀ p
    stands_anew = stands_there kind cs ts ds (wished_for b a i) table new_view room

    routed_are : (v : ℕ) → listing_numbers cs (cells_of kind ts) ds v (range a.reach) q₀ p ≡ row_numbers (routed (sight_from cs (cells_of kind ts) ds v (range a.reach) q₀ p))
    routed_are v = numbers_are_routed cs (cells_of kind ts) ds v (range a.reach) q₀ p

    -- the rows with their routes under a setting, and the door's two faces
    abbrev seen : ℕ → List Routed
    seen v = routed (sight_from cs (cells_of kind ts) ds v (range a.reach) q₀ p)

    abbrev f₀ : ℕ
    f₀ = get_or ds i 0

    abbrev g₀ : ℕ
    g₀ = back (cells_of kind ts) (get_or ds i 0)

    abbrev Reached : Type 0
    Reached = InReachOfStand cs (cells_of kind ts) (range a.reach) q₀ f₀

    -- what demand 3 asks of two lists, with the door as it is wished in the second
    abbrev RowByRow : Bool → List Routed → List Routed → Type 0
    RowByRow b old new =
        (those (untouched f₀ g₀) new ≡ those (untouched f₀ g₀) old)
        × ((Reached → those (on_door f₀ g₀) (once_shut b old new) ≡ map (door_row f₀ g₀) (runs f₀ g₀ (while_open b old new)))
        × ((Reached → ⊥) → (runs f₀ g₀ (while_open b old new) ≡ []) × (new ≡ old)))

    -- an open door, and the same door shut
    shut_and_open : (v : ℕ) → Stands cs (cells_of kind ts) ds v q₀ p → shut v i ≡ false → RowByRow true (seen v) (seen (with_shut v i))
    shut_and_open v there o = (
      untouched_rows_stand_in_both holds.sound R q₀ p i exists v there o,
      (
        λ near. rows_on_the_shut_door_are_the_runs holds.sound R q₀ p i exists v there o (reached_is_in_reach R _ _ near),
        λ away.
            let beyond = not_reached_is_out_of_reach R _ _ away in (
              out_of_reach_no_runs holds.sound R q₀ p i exists v there o beyond,
              ap routed (out_of_reach_nothing_changes holds.sound R q₀ p i exists v there o beyond),
            ),
      ),
    )
      where
        R : ℕ
        R = range a.reach

    module _ (is_true : given ≡ listing_numbers cs (cells_of kind ts) ds a.setting (range a.reach) q₀ p) where
      fresh_from : changed kind cs ts ds a given i b table ≡ listed kind cs ts ds (wished_for b a i) table
      fresh_from = the_change_is_a_fresh_listing kind cs ts ds a given i b table view clear room exists otherwise is_true

      run_by_run_from : {n k : ℕ} → (changed kind cs ts ds a given i b table).0 ≡ Ok (record { rows = n; crossings = k }) → RunByRun kind cs ts ds a given i b n (changed kind cs ts ds a given i b table).1
      run_by_run_from {n} {k} e =
          record {
            old = seen a.setting;
            new = seen (wished b a.setting i);
            old_given = is_true ∙ routed_are a.setting;
            new_listed = first_numbers_are kind cs ts ds (wished_for b a i) table new_view room (sym fresh_from ∙ (λ j. (e j, (changed kind cs ts ds a given i b table).1))) ∙ routed_are (wished b a.setting i);
            untouched_in_both = (both b otherwise stands_anew).0;
            runs_are_rows = (both b otherwise stands_anew).1.0;
            kept_out_of_reach = (both b otherwise stands_anew).1.1;
            x = x;
            y = y;
            the_stand = holds.spotted.stand_is;
            place = p;
            its_place = holds.spotted.stand_place;
            old_seen = refl;
            new_seen = refl;
          }
        where
          both : (b : Bool) → in_state b a.setting i ≡ false → Stands cs (cells_of kind ts) ds (wished b a.setting i) q₀ p → RowByRow b (seen a.setting) (seen (wished b a.setting i))
          both true o anew = shut_and_open a.setting stands o
          both false o anew =
              let back_again = shutting_undoes_opening a.setting i (not-false _ o) in
              let (untouched_stand, (runs_are, kept)) = shut_and_open (with_open a.setting i) anew (opening_opens_the_door a.setting i) in
              subst (λ (v : ℕ). RowByRow false (seen v) (seen (with_open a.setting i))) back_again (sym untouched_stand, (runs_are, λ away. let (none, same) = kept away in (none, sym same)))

  -- the door of the line stood on, by where the stand is and by where it was found
  found_clear : {x y : ℤ} {p : Footing} → viewed kind cs ts ds a ≡ Ok (record { x = x; y = y; footing = p }) → door_underfoot cs (cells_of kind ts) ds a.setting i (stood cs a.stand) ≡ false → underfoot cs (cells_of kind ts) ds i (record { x = x; y = y }) p ≡ false
  unfolding underfoot located
  found_clear {x} {y} {p} view e =
      let says = (view_says kind cs ts ds a view).spotted in
      by_place (inside_some cs (cells_of kind ts) q) (within_some cs (cells_of kind ts) ds a.setting q) (on_some_border cs (cells_of kind ts) q) p says.stand_place
      (subst (λ (spot : Option (ℤ × ℤ)). door_underfoot cs (cells_of kind ts) ds a.setting i spot ≡ false) says.stand_is e)
    where
      q : Point
      q = record { x = x; y = y }

      at_p : {a c : Footing} → ◌≡◌ {A = Result Footing Refusal} (Ok a) (Ok c) → a ≡ c
      at_p e = cc

      none : {r : Refusal} {f : Footing} → ◌≡◌ {A = Result Footing Refusal} (Err r) (Ok f) → ⊥
      none e = let z : ◌≡◌ {A = ℕ} 0 1 = cc in omega arith

      by_place : (inside within border : Bool) (f : Footing) → by_places inside within border (first_inside cs (cells_of kind ts) (record { x = x; y = y })) (side_at (cells_of kind ts) (first_within cs (cells_of kind ts) ds a.setting (record { x = x; y = y }))) ≡ Ok f → (not inside && within && ltb i (length ds) && strictly_within cs (cells_of kind ts) (record { x = x; y = y }) (get_or ds i 0)) ≡ false → underfoot cs (cells_of kind ts) ds i (record { x = x; y = y }) f ≡ false
      by_place true within border f at u = subst (λ (f : Footing). underfoot cs (cells_of kind ts) ds i (record { x = x; y = y }) f ≡ false) (at_p at) refl
      by_place false true border f at u = subst (λ (f : Footing). underfoot cs (cells_of kind ts) ds i (record { x = x; y = y }) f ≡ false) (at_p at) u
      by_place false false true f at u = absurd (none at)
      by_place false false false f at u = absurd (none at)

  -- a door that is there and not yet so
  may_change : no_change ds a.setting i b ≡ false → (i < length ds) × (in_state b a.setting i ≡ false)
  unfolding no_change
  may_change e = let both = neither_true (not (ltb i (length ds))) (in_state b a.setting i) e in (ltb-true _ _ (not-false _ both.0), both.1)

-- From a true list, shutting or opening one door yields what a fresh listing gives; untouched rows stand in both, each run through the open door is one
-- row on the shut door; a list that is not true is refused.
pub demand_3 : (kind : ℕ) (cs : List ℤ) (ts ds : List ℕ) (a : Query) (given : List ℕ) (i : ℕ) (b : Bool) (table : List ℕ) → Demand3 kind cs ts ds a given i b table (changed kind cs ts ds a given i b table).0 (changed kind cs ts ds a given i b table).1
demand_3 kind cs ts ds a given i b table =
    record {
      fresh = λ n k e. let p = passed kind cs ts ds a given i b table e in fresh_from kind cs ts ds a given i b table p.view p.clear p.room p.exists p.otherwise p.is_true;
      run_by_run = λ n k e. let p = passed kind cs ts ds a given i b table e in run_by_run_from kind cs ts ds a given i b table p.view p.clear p.room p.exists p.otherwise p.is_true e;
      from_the_true_list = λ n k t e u o same.
          let v = rows_are_seen kind cs ts ds a table (ap (λ (p : Result Counts Refusal × List ℕ). p.0) e) in
          let (exists, otherwise) = may_change kind cs ts ds a given i b table o in
          fresh_from kind cs ts ds a given i b table v.view (found_clear kind cs ts ds a given i b table v.view u) v.room exists otherwise
          (same ∙ first_numbers_are kind cs ts ds a table v.view v.room e);
      from_another_list = λ n k t e u o apart.
          let v = rows_are_seen kind cs ts ds a table (ap (λ (p : Result Counts Refusal × List ℕ). p.0) e) in
          let (exists, otherwise) = may_change kind cs ts ds a given i b table o in
          a_list_that_is_not_true_is_refused kind cs ts ds a given i b table v.view (found_clear kind cs ts ds a given i b table v.view u) v.room exists otherwise
          (λ same. apart (same ∙ sym (first_numbers_are kind cs ts ds a table v.view v.room e)));
    }
