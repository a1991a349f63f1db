-- Each call's reply has the number and place of the lowest condition that applies, and a refusal keeps all lent memory.
use mathlib.Core.Bool.{Bool, true, false, not, ◌&&◌, ◌||◌}
use mathlib.Core.List.{List, [], ◌∷◌, ◌++◌}
use mathlib.Core.Path.{◌≡◌, refl, sym, ap, ap₂, ◌∙◌, subst}
use Prim.Native.Nat.{ℕ, ◌*◌}
use lib.Dec.{ltb, leb}
use lib.ListN.{length, get_or, take, drop}
use lib.Seq.{sets}
use lib.IntN.{ℤ}
use lib.Ieee.{Float}
use Rattle.plane.specs.Side.{Point}
use Rattle.limits.specs.Limits.{most_stands, sized}
use Rattle.cells.specs.Lists.{Cells, corner_count, cell_count, face_count}
use Rattle.cells.specs.Cut.{cells_of}
use Rattle.cells.specs.Check.{framed, first_wrong_corner, first_wrong_cell, first_wrong_face, first_wrong_door, first_overlapping, refuse_if, checked_cells, checked}
use Rattle.limits.specs.Reply.{Reply, number, place, checked_reply}
use Rattle.limits.specs.declared.Plan.{Plan}
use Rattle.limits.specs.declared.Refusal.{Refusal}
use Rattle.limits.specs.declared.Refusal.TheVariants.{Frame, Size, Corner, Cell, Neighbour, Door, Overlap, Setting, Stand as NoStand, Line, Outside, Room, Change, Rows, Far, Reach as NoReach, Ceiling as NoCeiling}
use Rattle.setting.specs.Setting.{wrong_setting}
use Rattle.records.specs.Record.{framed as framed_records}
use Rattle.planfile.specs.File.{file_of, kind_in, corners_in, cells_in, doors_in}
use Rattle.planfile.specs.Calls.{given_room, left_by, has_room, written_reply, file_checked, told as read_told, lists_left}
use Rattle.planfile.specs.Reply.{read_numbers}
use Rattle.stand.specs.Spot.{stood}
use Rattle.stand.specs.Find.{strictly_within, first_inside, first_within, side_at, by_places, located, with_spot, with_setting, with_plan, found}
use Rattle.stand.specs.Reply.{found_reply}
use Rattle.stand.specs.declared.spot.Stand.{Stand}
use Rattle.stand.specs.declared.locate.Footing.{Footing}
use Rattle.reach.specs.Reach.{range, wrong_reach}
use Rattle.sight.specs.Listing.{unless, view_of_place, view_of_spot, view_of_plan, viewed, refuse, no_room, listing_rows, listing_numbers, listing_row_count, listing_crossings, listed_from, listed}
use Rattle.sight.specs.Ceiling.{exceeds, up_to, listed_up_to}
use Rattle.sight.specs.Reply.{listed_reply}
use Rattle.sight.specs.declared.view.Query.{Query}
use Rattle.tablet.specs.Drawing.{any_far, offsets_of, drawn_from, drawn}
use Rattle.doors.specs.Change.{same_list, no_change, wished, underfoot, changed_from, changed}
use Rattle.grant.specs.Asked.{too_many, no_room as no_room_for_all, then_asked, asked}
use Rattle.morning.specs.declared.Morning.{Morning}
use Rattle.morning.specs.Morning.{single, stands_from, listed_stands}
use Rattle.manopluea.specs.Conditions.{Condition, when, lowest, CheckAnswers, ReadAnswers, WriteAnswers, FindAnswers, ListAnswers, DrawAnswers, ChangeAnswers, ListStandsAnswers, plan_conditions, plan_conditions_with, read_conditions, inside_some, within_some, on_some_border, place_conditions, stand_conditions, query_conditions_with, query_conditions, ceiling_conditions, door_underfoot, place_of, place_at, true_numbers, true_far}
use Rattle.sight.specs.declared.list.Counts.{Counts}
use Rattle.sight.specs.declared.view.View.{View}
use Rattle.std.specs.Prelude.{Err, None, Ok, Option, Result, Some}

-- what an answer tells in numbers
abbrev pub told : Reply → ℕ × ℕ
told r = (r.number, r.place)

-- ---- different refusals have different numbers

-- the refusal with this number and place
refusal_of : ℕ → ℕ → Refusal
refusal_of n p =
    get_or (Frame ∷ Frame ∷ Size ∷ Corner p ∷ Cell p ∷ Neighbour p ∷ Door p ∷ Setting ∷ NoStand ∷ Line ∷ Outside ∷ Room ∷ Change ∷ Rows ∷ Far ∷ NoReach ∷ Frame ∷ Overlap p ∷ Frame ∷ NoCeiling ∷ []) n Frame

number_tells : (r : Refusal) → refusal_of (number r) (place r) ≡ r
unfolding refusal_of
number_tells Frame = refl
number_tells Size = refl
number_tells (Corner i) = refl
number_tells (Cell c) = refl
number_tells (Neighbour f) = refl
number_tells (Door i) = refl
number_tells (Overlap c) = refl
number_tells Setting = refl
number_tells NoStand = refl
number_tells Line = refl
number_tells Outside = refl
number_tells Room = refl
number_tells Change = refl
number_tells Rows = refl
number_tells Far = refl
number_tells NoReach = refl
number_tells NoCeiling = refl

-- what has the same number and place is the same refusal
pub numbers_tell_refusals_apart : (r s : Refusal) → number r ≡ number s → place r ≡ place s → r ≡ s
numbers_tell_refusals_apart r s e f = sym (number_tells r) ∙ ap₂ refusal_of e f ∙ number_tells s

-- a condition that does not apply does not show
pub one_does_not_apply : (conditions : List Condition) (n p : ℕ) (more : List Condition) → lowest (conditions ++ (when n false p ∷ more)) ≡ lowest (conditions ++ more)
unfolding lowest
one_does_not_apply [] n p more = refl
one_does_not_apply (c ∷ conditions) n p more =
    ap (λ (rest : ℕ × ℕ). elim c.applies [ true ↦ (c.number, c.place) | false ↦ rest ]) (one_does_not_apply conditions n p more)

-- ---- the plan

-- an answer made of the check's, of which a refusal tells its number and place
module _ (f : Result Plan Refusal → ℕ × ℕ) (as_refused : (r : Refusal) → f (Err r) ≡ (number r, place r)) where
  -- one test, and what follows it
  refused_or : (t : Bool) (r : Refusal) (rest : Result Plan Refusal) (more : List Condition) → f rest ≡ lowest more → f (refuse_if t r rest) ≡ lowest (when (number r) t (place r) ∷ more)
  unfolding lowest
  refused_or true r rest more e = as_refused r
  refused_or false r rest more e = e

  pub by_plan : (kind : ℕ) (cs : List ℤ) (ts ds : List ℕ) (more : List Condition) → f (Ok (record { corners = corner_count cs; cells = cell_count (cells_of kind ts); doors = length ds })) ≡ lowest more → f (checked kind cs ts ds) ≡ lowest (plan_conditions kind cs ts ds ++ more)
  unfolding checked checked_cells
  by_plan kind cs ts ds more e =
      refused_or (not (framed kind cs ts)) Frame _ _
      (refused_or (not (sized (corner_count cs) (cell_count (cells_of kind ts)) (length ds))) Size _ _
      (refused_or (ltb (first_wrong_corner cs) (corner_count cs)) (Corner (first_wrong_corner cs)) _ _
      (refused_or (ltb (first_wrong_cell cs (cells_of kind ts)) (cell_count (cells_of kind ts))) (Cell (first_wrong_cell cs (cells_of kind ts))) _ _
      (refused_or (ltb (first_wrong_face (cells_of kind ts)) (face_count (cells_of kind ts))) (Neighbour (first_wrong_face (cells_of kind ts))) _ _
      (refused_or (ltb (first_wrong_door (cells_of kind ts) ds) (length ds)) (Door (first_wrong_door (cells_of kind ts) ds)) _ _
      (refused_or (ltb (first_overlapping cs (cells_of kind ts)) (cell_count (cells_of kind ts))) (Overlap (first_overlapping cs (cells_of kind ts))) _ _ e))))))

pub check_answers : (kind : ℕ) (cs : List ℤ) (ts ds : List ℕ) → CheckAnswers kind cs ts ds
unfolding lowest
check_answers kind cs ts ds =
    record {
      of_the_paper = refl;
      exact = by_plan (λ k. told (checked_reply k)) (λ r. refl) kind cs ts ds [] refl;
      kept = λ h. refl;
    }

-- ---- the plan file

-- after the plan, room
roomed : (b : Bool) (r : Refusal) → told (checked_reply (given_room b (Err r))) ≡ (number r, place r)
roomed true r = refl
roomed false r = refl

room_or : (b : Bool) (p : Plan) → told (checked_reply (given_room b (Ok p))) ≡ lowest (when 11 (not b) 0 ∷ [])
unfolding lowest
room_or true p = refl
room_or false p = refl

by_room : (kind : ℕ) (cs : List ℤ) (ts ds : List ℕ) (b : Bool) → told (checked_reply (given_room b (checked kind cs ts ds))) ≡ lowest (plan_conditions kind cs ts ds ++ (when 11 (not b) 0 ∷ []))
by_room kind cs ts ds b = by_plan (λ k. told (checked_reply (given_room b k))) (roomed b) kind cs ts ds _ (room_or b _)

pub read_answers : (file : List ℕ) (corners : List ℤ) (cells doors : List ℕ) → ReadAnswers file corners cells doors
unfolding file_checked
read_answers file corners cells doors =
    record {
      of_the_paper = refl;
      exact = same_told (file_checked file (length corners) (length cells) (length doors)) ∙ by_records;
      kept = all_kept (file_checked file (length corners) (length cells) (length doors));
    }
  where
    -- a reply tells the same number and place with the kind and without it
    same_told : (reply : Result Plan Refusal) → told (read_numbers (read_told (kind_in file) (length (cells_in file)) reply)) ≡ told (checked_reply reply)
    same_told (Ok p) = refl
    same_told (Err r) = refl

    by_records : told (checked_reply (file_checked file (length corners) (length cells) (length doors))) ≡ lowest (read_conditions file (length corners) (length cells) (length doors))
    by_records =
        refused_or (λ k. told (checked_reply k)) (λ r. refl) (not (framed_records file)) Frame _ _
        (by_room (kind_in file) (corners_in file) (cells_in file) (doors_in file) (has_room (corners_in file) (cells_in file) (doors_in file) (length corners) (length cells) (length doors)))

    all_kept : (reply : Result Plan Refusal) → ((read_numbers (read_told (kind_in file) (length (cells_in file)) reply)).number ≡ 0 → ⊥) → lists_left reply (corners_in file) (cells_in file) (doors_in file) corners cells doors ≡ (corners, (cells, doors))
    all_kept (Ok p) h = absurd (h refl)
    all_kept (Err r) h = refl

pub write_answers : (kind : ℕ) (cs : List ℤ) (ts ds file : List ℕ) → WriteAnswers kind cs ts ds file
unfolding written_reply
write_answers kind cs ts ds file =
    record {
      of_the_paper = refl;
      exact = by_room kind cs ts ds (leb (length (file_of kind cs ts ds)) (length file));
      kept = all_kept (written_reply kind cs ts ds (length file));
    }
  where
    all_kept : (reply : Result Plan Refusal) → ((checked_reply reply).number ≡ 0 → ⊥) → left_by reply file (file_of kind cs ts ds) ≡ file
    all_kept (Ok p) h = absurd (h refl)
    all_kept (Err r) h = refl

-- ---- the stand

-- an answer made of where the stand lies
module _ (f : Result Footing Refusal → ℕ × ℕ) (as_refused : (r : Refusal) → f (Err r) ≡ (number r, place r)) where
  by_place : (inside within border : Bool) (c : ℕ) (p : Footing) (more : List Condition) → f (Ok (place_of inside c p)) ≡ lowest more → f (by_places inside within border c p) ≡ lowest (when 9 ((not inside && not within) && border) 0 ∷ when 10 ((not inside && not within) && not border) 0 ∷ more)
  unfolding lowest
  by_place true within border c p more e = e
  by_place false true border c p more e = e
  by_place false false true c p more e = as_refused Line
  by_place false false false c p more e = as_refused Outside

  -- with another reason for LINE where it is strictly within a side
  by_place_with : (inside within border t u : Bool) (c : ℕ) (p : Footing) (more : List Condition) → (inside ≡ true → f (Ok (place_of inside c p)) ≡ lowest more) → (inside ≡ false → f (Ok (place_of inside c p)) ≡ lowest (when 9 (t && u) 0 ∷ more)) → f (by_places inside within border c p) ≡ lowest (when 9 ((not inside && within && t && u) || ((not inside && not within) && border)) 0 ∷ when 10 ((not inside && not within) && not border) 0 ∷ more)
  unfolding lowest
  by_place_with true within border t u c p more e g = e refl
  by_place_with false true border true true c p more e g = g refl
  by_place_with false true border true false c p more e g = g refl
  by_place_with false true border false u c p more e g = g refl
  by_place_with false false true t u c p more e g = as_refused Line
  by_place_with false false false t u c p more e g = as_refused Outside

pub find_answers : (kind : ℕ) (cs : List ℤ) (ts ds : List ℕ) (w : ℕ) (s : Stand) → FindAnswers kind cs ts ds w s
unfolding found located lowest
find_answers kind cs ts ds w s =
    record {
      of_the_paper = refl;
      exact = by_plan (λ k. told (found_reply (with_plan cs (cells_of kind ts) ds w s k))) (λ r. refl) kind cs ts ds (when 7 (wrong_setting w (length ds)) 0 ∷ stand_conditions cs (cells_of kind ts) ds w (stood cs s)) (by_setting (wrong_setting w (length ds)));
      kept = λ h. refl;
    }
  where
    by_spot : (spot : Option (ℤ × ℤ)) → told (found_reply (with_spot cs (cells_of kind ts) ds w spot)) ≡ lowest (stand_conditions cs (cells_of kind ts) ds w spot)
    by_spot (Some (x, y)) =
        let q : Point = record { x = x; y = y } in
        by_place (λ g. told (found_reply g)) (λ r. refl) (inside_some cs (cells_of kind ts) q) (within_some cs (cells_of kind ts) ds w q) (on_some_border cs (cells_of kind ts) q) (first_inside cs (cells_of kind ts) q) (side_at (cells_of kind ts) (first_within cs (cells_of kind ts) ds w q)) [] refl
    by_spot None = refl

    by_setting : (t : Bool) → told (found_reply (with_setting t (with_spot cs (cells_of kind ts) ds w (stood cs s)))) ≡ lowest (when 7 t 0 ∷ stand_conditions cs (cells_of kind ts) ds w (stood cs s))
    by_setting true = refl
    by_setting false = by_spot (stood cs s)

-- ---- listing and door change: an answer made of a view

module _ (f : Result View Refusal → ℕ × ℕ) (as_refused : (r : Refusal) → f (Err r) ≡ (number r, place r)) where
  refused_unless : (t : Bool) (r : Refusal) (v : Result View Refusal) (more : List Condition) → f v ≡ lowest more → f (unless t r v) ≡ lowest (when (number r) t (place r) ∷ more)
  unfolding lowest
  refused_unless true r v more e = as_refused r
  refused_unless false r v more e = e

  by_view : (kind : ℕ) (cs : List ℤ) (ts ds : List ℕ) (a : Query) (more : List Condition) → f (view_of_spot cs (cells_of kind ts) ds a.setting a.reach (stood cs a.stand)) ≡ lowest more → f (viewed kind cs ts ds a) ≡ lowest (plan_conditions kind cs ts ds ++ (when 7 (wrong_setting a.setting (length ds)) 0 ∷ more))
  unfolding viewed
  by_view kind cs ts ds a more e =
      by_plan (λ k. f (view_of_plan cs (cells_of kind ts) ds a k)) as_refused kind cs ts ds _
      (refused_unless (wrong_setting a.setting (length ds)) Setting (view_of_spot cs (cells_of kind ts) ds a.setting a.reach (stood cs a.stand)) more e)

-- a lent list that is too short, then one more test; a refusal keeps the list
abbrev short_or : {A : Type 0} → List A → Refusal → ℕ → ℕ → List A → Bool → Bool → Result Counts Refusal × List A
short_or lent s n k new r t = refuse r Room lent (refuse t s lent (Ok (record { rows = n; crossings = k }), new))

module _ {A : Type 0} (lent : List A) (s : Refusal) (n k : ℕ) (new : List A) where
  told_by_two : (r t : Bool) → told (listed_reply (short_or lent s n k new r t).0) ≡ lowest (when 11 r 0 ∷ when (number s) t (place s) ∷ [])
  unfolding lowest
  told_by_two true t = refl
  told_by_two false true = refl
  told_by_two false false = refl

  kept_by_two : (r t : Bool) → ((listed_reply (short_or lent s n k new r t).0).number ≡ 0 → ⊥) → (short_or lent s n k new r t).1 ≡ lent
  kept_by_two true t h = refl
  kept_by_two false true h = refl
  kept_by_two false false h = absurd (h refl)

-- a table that is too short, or a ceiling that the crossings exceed
abbrev ceilinged : List ℕ → Option ℕ → ℕ → ℕ → List ℕ → Bool → Result Counts Refusal × List ℕ
ceilinged table c n k new r = up_to c table (refuse r Room table (Ok (record { rows = n; crossings = k }), new))

told_by_ceiling : (table : List ℕ) (c : Option ℕ) (n k : ℕ) (new : List ℕ) (r : Bool) → told (listed_reply (ceilinged table c n k new r).0) ≡ lowest (when 11 r 0 ∷ when 19 (exceeds k c) 0 ∷ [])
unfolding lowest
told_by_ceiling table c n k new true = refl
told_by_ceiling table c n k new false = told_by_two table NoCeiling n k new false (exceeds k c)

kept_by_ceiling : (table : List ℕ) (c : Option ℕ) (n k : ℕ) (new : List ℕ) (r : Bool) → ((listed_reply (ceilinged table c n k new r).0).number ≡ 0 → ⊥) → (ceilinged table c n k new r).1 ≡ table
kept_by_ceiling table c n k new true h = refl
kept_by_ceiling table c n k new false h = kept_by_two table NoCeiling n k new false (exceeds k c) h

-- the listing of a stand on an accepted plan, under a right setting
pub list_by_stand : (cs : List ℤ) (T : Cells) (ds : List ℕ) (w : ℕ) (reach : Option ℕ) (c : Option ℕ) (table : List ℕ) (spot : Option (ℤ × ℤ)) → told (listed_reply (up_to c table (listed_from cs T ds w (range reach) table (view_of_spot cs T ds w reach spot))).0) ≡ lowest (query_conditions cs T ds w reach spot ++ (when 11 (ltb (length table) (4 * corner_count cs)) 0 ∷ ceiling_conditions cs T ds w reach spot c))
unfolding lowest located no_room
list_by_stand cs T ds w reach c table (Some (x, y)) =
    refused_unless (λ v. told (listed_reply (up_to c table (listed_from cs T ds w R table v)).0)) (λ r. refl) (wrong_reach reach) NoReach (view_of_place x y (located cs T ds w q)) (place_conditions false cs T ds w (Some (x, y)) ++ last)
    (by_place (λ g. told (listed_reply (up_to c table (listed_from cs T ds w R table (view_of_place x y g))).0)) (λ r. refl) (inside_some cs T q) (within_some cs T ds w q) (on_some_border cs T q) (first_inside cs T q) (side_at T (first_within cs T ds w q)) last
    (told_by_ceiling table c (listing_row_count cs T ds w R q p) (listing_crossings cs T ds w R q p) (sets table 0 (listing_numbers cs T ds w R q p)) (ltb (length table) (4 * corner_count cs))))
  where
    q : Point
    q = record { x = x; y = y }

    R : ℕ
    R = range reach

    p : Footing
    p = place_at cs T ds w q

    last : List Condition
    last = when 11 (ltb (length table) (4 * corner_count cs)) 0 ∷ ceiling_conditions cs T ds w reach (Some (x, y)) c
list_by_stand cs T ds w reach c table None = refl

pub list_answers : (kind : ℕ) (cs : List ℤ) (ts ds : List ℕ) (a : Query) (c : Option ℕ) (table : List ℕ) → ListAnswers kind cs ts ds a c table
unfolding listed listed_up_to lowest
list_answers kind cs ts ds a c table =
    record {
      of_the_paper = refl;
      exact = by_view (λ v. told (listed_reply (from_view v).0)) (λ r. refl) kind cs ts ds a (query_conditions cs (cells_of kind ts) ds a.setting a.reach (stood cs a.stand) ++ (when 11 (ltb (length table) (4 * corner_count cs)) 0 ∷ ceiling_conditions cs (cells_of kind ts) ds a.setting a.reach (stood cs a.stand) c)) (list_by_stand cs (cells_of kind ts) ds a.setting a.reach c table (stood cs a.stand));
      kept = alone (viewed kind cs ts ds a);
    }
  where
    from_view : Result View Refusal → Result Counts Refusal × List ℕ
    from_view v = up_to c table (listed_from cs (cells_of kind ts) ds a.setting (range a.reach) table v)

    alone : (v : Result View Refusal) → ((listed_reply (from_view v).0).number ≡ 0 → ⊥) → (from_view v).1 ≡ table
    alone (Ok v) = let q : Point = record { x = v.x; y = v.y } in kept_by_ceiling table c (listing_row_count cs (cells_of kind ts) ds a.setting (range a.reach) q v.footing) (listing_crossings cs (cells_of kind ts) ds a.setting (range a.reach) q v.footing) (sets table 0 (listing_numbers cs (cells_of kind ts) ds a.setting (range a.reach) q v.footing)) (no_room cs table)
    alone (Err r) = λ h. refl

-- ---- the drawing

pub draw_answers : (kind : ℕ) (cs : List ℤ) (ts ds : List ℕ) (a : Query) (lent : List Float) → DrawAnswers kind cs ts ds a lent
unfolding drawn lowest located no_room
draw_answers kind cs ts ds a lent =
    record {
      of_the_paper = refl;
      exact = by_view (λ v. told (listed_reply (from_view v).0)) (λ r. refl) kind cs ts ds a (conditions (stood cs a.stand)) (by_stand (stood cs a.stand));
      kept = alone (viewed kind cs ts ds a);
    }
  where
    T : Cells
    T = cells_of kind ts

    w : ℕ
    w = a.setting

    R : ℕ
    R = range a.reach

    from_view : Result View Refusal → Result Counts Refusal × List Float
    from_view v = drawn_from cs T ds w R lent v

    last : Option (ℤ × ℤ) → List Condition
    last spot = when 11 (ltb (length lent) (4 * corner_count cs)) 0 ∷ when 14 (true_far cs T ds w R spot) 0 ∷ []

    conditions : Option (ℤ × ℤ) → List Condition
    conditions spot = query_conditions cs T ds w a.reach spot ++ last spot

    by_stand : (spot : Option (ℤ × ℤ)) → told (listed_reply (from_view (view_of_spot cs T ds w a.reach spot)).0) ≡ lowest (conditions spot)
    by_stand (Some (x, y)) =
        let q : Point = record { x = x; y = y } in
        let p = place_at cs T ds w q in
        refused_unless (λ v. told (listed_reply (from_view v).0)) (λ r. refl) (wrong_reach a.reach) NoReach (view_of_place x y (located cs T ds w q)) (place_conditions false cs T ds w (Some (x, y)) ++ last (Some (x, y)))
        (by_place (λ g. told (listed_reply (from_view (view_of_place x y g)).0)) (λ r. refl) (inside_some cs T q) (within_some cs T ds w q) (on_some_border cs T q) (first_inside cs T q) (side_at T (first_within cs T ds w q)) (last (Some (x, y)))
        (told_by_two lent Far (listing_row_count cs T ds w R q p) (listing_crossings cs T ds w R q p) (sets lent 0 (offsets_of cs q (listing_rows cs T ds w R q p))) (ltb (length lent) (4 * corner_count cs)) (any_far cs q (listing_rows cs T ds w R q p))))
    by_stand None = refl

    alone : (v : Result View Refusal) → ((listed_reply (from_view v).0).number ≡ 0 → ⊥) → (from_view v).1 ≡ lent
    alone (Ok v) =
        let q : Point = record { x = v.x; y = v.y } in
        kept_by_two lent Far (listing_row_count cs T ds w R q v.footing) (listing_crossings cs T ds w R q v.footing) (sets lent 0 (offsets_of cs q (listing_rows cs T ds w R q v.footing))) (no_room cs lent) (any_far cs q (listing_rows cs T ds w R q v.footing))
    alone (Err r) = λ h. refl

-- ---- the door change

-- the four tests of a change from a stand that was found, and its rows
abbrev tested : List ℕ → ℕ → ℕ → List ℕ → Bool → Bool → Bool → Bool → Result Counts Refusal × List ℕ
tested table n k new u r t v = refuse u Line table (refuse r Room table (refuse t Change table (refuse v Rows table (Ok (record { rows = n; crossings = k }), new))))

told_by_tests : (table : List ℕ) (n k : ℕ) (new : List ℕ) (u r t v : Bool) → told (listed_reply (tested table n k new u r t v).0) ≡ lowest (when 9 u 0 ∷ when 11 r 0 ∷ when 12 t 0 ∷ when 13 v 0 ∷ [])
unfolding lowest
told_by_tests table n k new true r t v = refl
told_by_tests table n k new false true t v = refl
told_by_tests table n k new false false true v = refl
told_by_tests table n k new false false false true = refl
told_by_tests table n k new false false false false = refl

kept_by_tests : (table : List ℕ) (n k : ℕ) (new : List ℕ) (u r t v : Bool) → ((listed_reply (tested table n k new u r t v).0).number ≡ 0 → ⊥) → (tested table n k new u r t v).1 ≡ table
kept_by_tests table n k new true r t v h = refl
kept_by_tests table n k new false true t v h = refl
kept_by_tests table n k new false false true v h = refl
kept_by_tests table n k new false false false true h = refl
kept_by_tests table n k new false false false false h = absurd (h refl)

pub change_answers : (kind : ℕ) (cs : List ℤ) (ts ds : List ℕ) (a : Query) (given : List ℕ) (i : ℕ) (b : Bool) (table : List ℕ) → ChangeAnswers kind cs ts ds a given i b table
unfolding changed lowest located no_room underfoot
change_answers kind cs ts ds a given i b table =
    record {
      of_the_paper = refl;
      exact = by_view (λ v. told (listed_reply (changed_from cs (cells_of kind ts) ds w R given i b table v).0)) (λ r. refl) kind cs ts ds a (conditions (stood cs a.stand)) (by_stand (stood cs a.stand));
      kept = alone (viewed kind cs ts ds a);
    }
  where
    w : ℕ
    w = a.setting

    R : ℕ
    R = range a.reach

    conditions : Option (ℤ × ℤ) → List Condition
    conditions spot =
        query_conditions_with (door_underfoot cs (cells_of kind ts) ds w i spot) cs (cells_of kind ts) ds w a.reach spot
        ++ (when 11 (ltb (length table) (4 * corner_count cs)) 0 ∷ when 12 (no_change ds w i b) 0 ∷ when 13 (not (same_list given (true_numbers cs (cells_of kind ts) ds w R spot))) 0 ∷ [])

    by_stand : (spot : Option (ℤ × ℤ)) → told (listed_reply (changed_from cs (cells_of kind ts) ds w R given i b table (view_of_spot cs (cells_of kind ts) ds w a.reach spot)).0) ≡ lowest (conditions spot)
    by_stand (Some (x, y)) =
        refused_unless (λ v. told (listed_reply (changed_from cs (cells_of kind ts) ds w R given i b table v).0)) (λ r. refl) (wrong_reach a.reach) NoReach (view_of_place x y (located cs (cells_of kind ts) ds w q)) (drop 2 (conditions (Some (x, y))))
        (by_place_with (λ g. told (listed_reply (changed_from cs (cells_of kind ts) ds w R given i b table (view_of_place x y g)).0)) (λ r. refl)
        (inside_some cs (cells_of kind ts) q) (within_some cs (cells_of kind ts) ds w q) (on_some_border cs (cells_of kind ts) q) (ltb i (length ds)) (strictly_within cs (cells_of kind ts) q (get_or ds i 0))
        (first_inside cs (cells_of kind ts) q) (side_at (cells_of kind ts) (first_within cs (cells_of kind ts) ds w q)) (after (inside_some cs (cells_of kind ts) q))
        (λ h. subst (λ (t : Bool). said t ≡ lowest (after t)) (sym h) (said_by_tests true false))
        (λ h. subst (λ (t : Bool). said t ≡ lowest (when 9 (ltb i (length ds) && strictly_within cs (cells_of kind ts) q (get_or ds i 0)) 0 ∷ after t)) (sym h) (said_by_tests false (ltb i (length ds) && strictly_within cs (cells_of kind ts) q (get_or ds i 0)))))
      where
        q : Point
        q = record { x = x; y = y }

        there : Bool → Footing
        there t = place_of t (first_inside cs (cells_of kind ts) (record { x = x; y = y })) (side_at (cells_of kind ts) (first_within cs (cells_of kind ts) ds w (record { x = x; y = y })))

        said : Bool → ℕ × ℕ
        said t = told (listed_reply (changed_from cs (cells_of kind ts) ds w R given i b table (Ok (record { x = x; y = y; footing = there t }))).0)

        after : Bool → List Condition
        after t = when 11 (ltb (length table) (4 * corner_count cs)) 0 ∷ when 12 (no_change ds w i b) 0 ∷ when 13 (not (same_list given (listing_numbers cs (cells_of kind ts) ds w R (record { x = x; y = y }) (there t)))) 0 ∷ []

        new : Bool → List ℕ
        new t = sets table 0 (listing_numbers cs (cells_of kind ts) ds (wished b w i) R (record { x = x; y = y }) (there t))

        said_by_tests : (t u : Bool) → told (listed_reply (tested table (listing_row_count cs (cells_of kind ts) ds (wished b w i) R (record { x = x; y = y }) (there t)) (listing_crossings cs (cells_of kind ts) ds (wished b w i) R (record { x = x; y = y }) (there t)) (new t) u (ltb (length table) (4 * corner_count cs)) (no_change ds w i b) (not (same_list given (listing_numbers cs (cells_of kind ts) ds w R (record { x = x; y = y }) (there t))))).0) ≡ lowest (when 9 u 0 ∷ after t)
        said_by_tests t u =
            told_by_tests table (listing_row_count cs (cells_of kind ts) ds (wished b w i) R (record { x = x; y = y }) (there t)) (listing_crossings cs (cells_of kind ts) ds (wished b w i) R (record { x = x; y = y }) (there t)) (new t) u
            (ltb (length table) (4 * corner_count cs)) (no_change ds w i b) (not (same_list given (listing_numbers cs (cells_of kind ts) ds w R (record { x = x; y = y }) (there t))))
    by_stand None = refl

    alone : (v : Result View Refusal) → ((listed_reply (changed_from cs (cells_of kind ts) ds w R given i b table v).0).number ≡ 0 → ⊥) → (changed_from cs (cells_of kind ts) ds w R given i b table v).1 ≡ table
    alone (Ok v) =
        kept_by_tests table (listing_row_count cs (cells_of kind ts) ds (wished b w i) R (record { x = v.x; y = v.y }) v.footing) (listing_crossings cs (cells_of kind ts) ds (wished b w i) R (record { x = v.x; y = v.y }) v.footing)
        (sets table 0 (listing_numbers cs (cells_of kind ts) ds (wished b w i) R (record { x = v.x; y = v.y }) v.footing)) (underfoot cs (cells_of kind ts) ds i (record { x = v.x; y = v.y }) v.footing) (no_room cs table) (no_change ds w i b)
        (not (same_list given (listing_numbers cs (cells_of kind ts) ds w R (record { x = v.x; y = v.y }) v.footing)))
    alone (Err r) = λ h. refl

-- ---- several stands

pub list_stands_answers : (kind : ℕ) (cs : List ℤ) (ts ds : List ℕ) (m : Morning) (stands : List Stand) (table replies : List ℕ) → ListStandsAnswers kind cs ts ds m stands table replies
unfolding asked listed_stands lowest
list_stands_answers kind cs ts ds m stands table replies =
    record {
      of_the_paper = refl;
      exact = by_many (ltb most_stands m.count);
      kept = alone (asked kind cs ts ds m.setting m.count (length table) (length replies));
    }
  where
    said : Result Plan Refusal → ℕ × ℕ
    said k = told (listed_reply (stands_from (single kind cs ts ds m) (take m.count stands) table replies k).0)

    more : List Condition
    more = when 7 (wrong_setting m.setting (length ds)) 0 ∷ when 11 (no_room_for_all (corner_count cs) m.count (length table) (length replies)) 0 ∷ []

    further : Plan → Result Plan Refusal
    further p = refuse_if (wrong_setting m.setting (length ds)) Setting (refuse_if (no_room_for_all (corner_count cs) m.count (length table) (length replies)) Room (Ok p))

    by_frame : (rest : List Condition) (f : Bool) → (number (too_many f), place (too_many f)) ≡ lowest (when 1 (not f) 0 ∷ when 2 true 0 ∷ rest)
    by_frame rest true = refl
    by_frame rest false = refl

    by_many : (b : Bool) → said (refuse_if b (too_many (framed kind cs ts)) (then_asked (checked kind cs ts ds) further)) ≡ lowest (plan_conditions_with b kind cs ts ds ++ more)
    by_many true = by_frame (drop 2 (plan_conditions kind cs ts ds) ++ more) (framed kind cs ts)
    by_many false =
        let counted : Plan = record { corners = corner_count cs; cells = cell_count (cells_of kind ts); doors = length ds } in
        let short = no_room_for_all (corner_count cs) m.count (length table) (length replies) in
        by_plan (λ k. said (then_asked k further)) (λ r. refl) kind cs ts ds more
        (refused_or said (λ r. refl) (wrong_setting m.setting (length ds)) Setting (refuse_if short Room (Ok counted)) (when 11 short 0 ∷ [])
        (refused_or said (λ r. refl) short Room (Ok counted) [] refl))

    alone : (k : Result Plan Refusal) → ((listed_reply (stands_from (single kind cs ts ds m) (take m.count stands) table replies k).0).number ≡ 0 → ⊥) → (stands_from (single kind cs ts ds m) (take m.count stands) table replies k).1 ≡ (table, replies)
    alone (Ok p) h = absurd (h refl)
    alone (Err r) h = refl
