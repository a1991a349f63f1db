-- The table of replies (document 01, "Reply numbers"; document 02), call by call: each number that the paper gives the call, when it applies, and its place. They
-- stand in the order in which they are asked: that of the numbers, where 17 goes after 6 and before 7, and 15 after 8 and before 9. So the first that applies
-- is the reply. `CheckAnswers` and the like are demand 1 of that call.
use Rattle.std.specs.Prelude.{Bool, true, false, not, ◌&&◌, ◌||◌, List, [], ◌∷◌, ◌++◌, map, ◌≡◌, ℕ, ◌*◌, ltb, leb, length, get_or, ℤ, Float, None, Option, Some}
use Rattle.plane.specs.Side.{Point}
use Rattle.limits.specs.Limits.{most_stands, sized}
use Rattle.cells.specs.Lists.{Cells, corner_count, cell_count, face_count}
use Rattle.cells.specs.Cut.{cells_of}
use Rattle.cells.specs.Check.{framed, first_wrong_corner, first_wrong_cell, first_wrong_face, first_wrong_door, first_overlapping}
use Rattle.limits.specs.Reply.{Reply}
use Rattle.setting.specs.Setting.{wrong_setting}
use Rattle.records.specs.Record.{framed as framed_records}
use Rattle.planfile.specs.File.{file_of, kind_in, corners_in, cells_in, doors_in}
use Rattle.planfile.specs.Calls.{has_room}
use Rattle.stand.specs.Spot.{stood}
use Rattle.stand.specs.Find.{strictly_within, first_inside, first_within, first_border, side_at}
use Rattle.stand.specs.declared.locate.Footing.{Footing}
use Rattle.stand.specs.declared.locate.Footing.TheVariants.{Inside}
use Rattle.stand.specs.declared.spot.Stand.{Stand}
use Rattle.reach.specs.Reach.{range, wrong_reach}
use Rattle.sight.specs.declared.view.Query.{Query}
use Rattle.sight.specs.Ceiling.{exceeds}
use Rattle.sight.specs.Listing.{listing_rows, listing_numbers, listing_crossings}
use Rattle.tablet.specs.Drawing.{any_far}
use Rattle.doors.specs.Change.{same_list, no_change}
use Rattle.grant.specs.Asked.{no_room}
use Rattle.morning.specs.declared.Morning.{Morning}
use Rattle.manopluea.specs.Calls.{check_replies, read_replies, write_replies, find_replies, list_replies, draw_replies, change_replies, list_stands_replies}

pub record Condition : Type 0 where
  pub number : ℕ
  pub applies : Bool
  pub place : ℕ

abbrev pub when : ℕ → Bool → ℕ → Condition
when n b p = record { number = n; applies = b; place = p }

-- the first number that applies, and its place; 0 and 0 where none does
unfoldable pub lowest : List Condition → ℕ × ℕ
lowest [] = (0, 0)
lowest (c ∷ cs) = elim c.applies [ true ↦ (c.number, c.place) | false ↦ lowest cs ]

-- demand 1 of a reply and of lent memory: the paper's numbers for the call, the reply's number and place by the exact conditions, and on a refusal all lent
-- memory at exit is that at entry
pub record Answers {M : Type 0} (numbers : List ℕ) (conditions : List Condition) (reply : Reply) (entry exit : M) : Type 0 where
  pub of_the_paper : map (λ (c : Condition). c.number) conditions ≡ numbers
  pub exact : (reply.number, reply.place) ≡ lowest conditions
  pub kept : (reply.number ≡ 0 → ⊥) → exit ≡ entry

-- ---- the plan: check

-- with whatever else is SIZE for the call
abbrev pub plan_conditions_with : Bool → ℕ → List ℤ → List ℕ → List ℕ → List Condition
plan_conditions_with too_many kind cs ts ds =
    when 1 (not (framed kind cs ts)) 0
    ∷ when 2 (too_many || not (sized (corner_count cs) (cell_count (cells_of kind ts)) (length ds))) 0
    ∷ when 3 (ltb (first_wrong_corner cs) (corner_count cs)) (first_wrong_corner cs)
    ∷ when 4 (ltb (first_wrong_cell cs (cells_of kind ts)) (cell_count (cells_of kind ts))) (first_wrong_cell cs (cells_of kind ts))
    ∷ when 5 (ltb (first_wrong_face (cells_of kind ts)) (face_count (cells_of kind ts))) (first_wrong_face (cells_of kind ts))
    ∷ when 6 (ltb (first_wrong_door (cells_of kind ts) ds) (length ds)) (first_wrong_door (cells_of kind ts) ds)
    ∷ when 17 (ltb (first_overlapping cs (cells_of kind ts)) (cell_count (cells_of kind ts))) (first_overlapping cs (cells_of kind ts))
    ∷ []

abbrev pub plan_conditions : ℕ → List ℤ → List ℕ → List ℕ → List Condition
plan_conditions = plan_conditions_with false

abbrev pub CheckAnswers : ℕ → List ℤ → List ℕ → List ℕ → Type 0
CheckAnswers kind cs ts ds = Answers {M = Unit {0}} (1 ∷ 2 ∷ 3 ∷ 4 ∷ 5 ∷ 6 ∷ 17 ∷ []) (plan_conditions kind cs ts ds) (check_replies kind cs ts ds) tt tt

-- ---- the plan file: reader and writer

-- the file is not the three records; then the plan in it; then any list shorter than its numbers
abbrev pub read_conditions : List ℕ → ℕ → ℕ → ℕ → List Condition
read_conditions s n m k =
    when 1 (not (framed_records s)) 0
    ∷ plan_conditions (kind_in s) (corners_in s) (cells_in s) (doors_in s)
    ++ (when 11 (not (has_room (corners_in s) (cells_in s) (doors_in s) n m k)) 0 ∷ [])

abbrev pub ReadAnswers : List ℕ → List ℤ → List ℕ → List ℕ → Type 0
ReadAnswers file corners cells doors =
    Answers (1 ∷ 1 ∷ 2 ∷ 3 ∷ 4 ∷ 5 ∷ 6 ∷ 17 ∷ 11 ∷ []) (read_conditions file (length corners) (length cells) (length doors)) (read_replies file corners cells doors).0 (corners, (cells, doors)) (read_replies file corners cells doors).1

-- the plan; then bytes shorter than the file
abbrev pub write_conditions : ℕ → List ℤ → List ℕ → List ℕ → ℕ → List Condition
write_conditions kind cs ts ds room = plan_conditions kind cs ts ds ++ (when 11 (not (leb (length (file_of kind cs ts ds)) room)) 0 ∷ [])

abbrev pub WriteAnswers : ℕ → List ℤ → List ℕ → List ℕ → List ℕ → Type 0
WriteAnswers kind cs ts ds file =
    Answers (1 ∷ 2 ∷ 3 ∷ 4 ∷ 5 ∷ 6 ∷ 17 ∷ 11 ∷ []) (write_conditions kind cs ts ds (length file)) (write_replies kind cs ts ds file).0 file (write_replies kind cs ts ds file).1

-- ---- the stand: finding

-- 8: a number or corner not accepted
abbrev pub not_accepted : Option (ℤ × ℤ) → Bool
not_accepted (Some (x, y)) = false
not_accepted None = true

-- strictly inside some cell; strictly within some free side; on some cell's border
abbrev pub inside_some : List ℤ → Cells → Point → Bool
inside_some cs T q = ltb (first_inside cs T q) (cell_count T)

abbrev pub within_some : List ℤ → Cells → List ℕ → ℕ → Point → Bool
within_some cs T ds w q = ltb (first_within cs T ds w q) (face_count T)

abbrev pub on_some_border : List ℤ → Cells → Point → Bool
on_some_border cs T q = ltb (first_border cs T q) (cell_count T)

-- neither strictly inside a cell nor strictly within a free side
abbrev pub nowhere : List ℤ → Cells → List ℕ → ℕ → Point → Bool
nowhere cs T ds w q = not (inside_some cs T q) && not (within_some cs T ds w q)

-- 9: nowhere so, but on some cell's border
abbrev pub on_a_line : List ℤ → Cells → List ℕ → ℕ → Option (ℤ × ℤ) → Bool
on_a_line cs T ds w (Some (x, y)) = nowhere cs T ds w (record { x = x; y = y }) && on_some_border cs T (record { x = x; y = y })
on_a_line cs T ds w None = false

-- 10: inside or on no cell
abbrev pub off_every_cell : List ℤ → Cells → List ℕ → ℕ → Option (ℤ × ℤ) → Bool
off_every_cell cs T ds w (Some (x, y)) = nowhere cs T ds w (record { x = x; y = y }) && not (on_some_border cs T (record { x = x; y = y }))
off_every_cell cs T ds w None = false

-- with whatever else is LINE for the call
abbrev pub place_conditions : Bool → List ℤ → Cells → List ℕ → ℕ → Option (ℤ × ℤ) → List Condition
place_conditions on_its_door cs T ds w spot = when 9 (on_its_door || on_a_line cs T ds w spot) 0 ∷ when 10 (off_every_cell cs T ds w spot) 0 ∷ []

abbrev pub stand_conditions : List ℤ → Cells → List ℕ → ℕ → Option (ℤ × ℤ) → List Condition
stand_conditions cs T ds w spot = when 8 (not_accepted spot) 0 ∷ place_conditions false cs T ds w spot

-- a bit at or above the door count; the stand
abbrev pub find_conditions : ℕ → List ℤ → List ℕ → List ℕ → ℕ → Stand → List Condition
find_conditions kind cs ts ds w s =
    plan_conditions kind cs ts ds ++ (when 7 (wrong_setting w (length ds)) 0 ∷ stand_conditions cs (cells_of kind ts) ds w (stood cs s))

abbrev pub FindAnswers : ℕ → List ℤ → List ℕ → List ℕ → ℕ → Stand → Type 0
FindAnswers kind cs ts ds w s =
    Answers {M = Unit {0}} (1 ∷ 2 ∷ 3 ∷ 4 ∷ 5 ∷ 6 ∷ 17 ∷ 7 ∷ 8 ∷ 9 ∷ 10 ∷ []) (find_conditions kind cs ts ds w s) (find_replies kind cs ts ds w s) tt tt

-- ---- listing and door change

-- the stand, and a stated number that is no reach (document 02, A5), with whatever else is LINE for the call
abbrev pub query_conditions_with : Bool → List ℤ → Cells → List ℕ → ℕ → Option ℕ → Option (ℤ × ℤ) → List Condition
query_conditions_with on_its_door cs T ds w reach spot =
    when 8 (not_accepted spot) 0 ∷ when 15 (wrong_reach reach) 0 ∷ place_conditions on_its_door cs T ds w spot

abbrev pub query_conditions : List ℤ → Cells → List ℕ → ℕ → Option ℕ → Option (ℤ × ℤ) → List Condition
query_conditions = query_conditions_with false

-- a bit at or above the door count; the stand and the reach; a table, or a list to draw into, shorter than 4·corners numbers
abbrev pub list_conditions_with : Bool → ℕ → List ℤ → List ℕ → List ℕ → Query → ℕ → List Condition
list_conditions_with on_its_door kind cs ts ds a room =
    plan_conditions kind cs ts ds
    ++ (when 7 (wrong_setting a.setting (length ds)) 0 ∷ query_conditions_with on_its_door cs (cells_of kind ts) ds a.setting a.reach (stood cs a.stand))
    ++ (when 11 (ltb room (4 * corner_count cs)) 0 ∷ [])

-- where a stand is that is strictly inside a cell or strictly within a free side
abbrev pub place_of : Bool → ℕ → Footing → Footing
place_of true c p = Inside c
place_of false c p = p

abbrev pub place_at : List ℤ → Cells → List ℕ → ℕ → Point → Footing
place_at cs T ds w q = place_of (inside_some cs T q) (first_inside cs T q) (side_at T (first_within cs T ds w q))

-- the true list under the setting and within the range, from there, and its crossings
abbrev pub true_numbers : List ℤ → Cells → List ℕ → ℕ → ℕ → Option (ℤ × ℤ) → List ℕ
true_numbers cs T ds w R (Some (x, y)) = listing_numbers cs T ds w R (record { x = x; y = y }) (place_at cs T ds w (record { x = x; y = y }))
true_numbers cs T ds w R None = []

abbrev pub true_crossings : List ℤ → Cells → List ℕ → ℕ → ℕ → Option (ℤ × ℤ) → ℕ
true_crossings cs T ds w R (Some (x, y)) = listing_crossings cs T ds w R (record { x = x; y = y }) (place_at cs T ds w (record { x = x; y = y }))
true_crossings cs T ds w R None = 0

-- 19: they exceed the ceiling (document 02, A13)
abbrev pub ceiling_conditions : List ℤ → Cells → List ℕ → ℕ → Option ℕ → Option (ℤ × ℤ) → Option ℕ → List Condition
ceiling_conditions cs T ds w reach spot c = when 19 (exceeds (true_crossings cs T ds w (range reach) spot) c) 0 ∷ []

-- and last the ceiling
abbrev pub list_conditions : ℕ → List ℤ → List ℕ → List ℕ → Query → Option ℕ → ℕ → List Condition
list_conditions kind cs ts ds a c room =
    list_conditions_with false kind cs ts ds a room ++ ceiling_conditions cs (cells_of kind ts) ds a.setting a.reach (stood cs a.stand) c

abbrev pub ListAnswers : ℕ → List ℤ → List ℕ → List ℕ → Query → Option ℕ → List ℕ → Type 0
ListAnswers kind cs ts ds a c table =
    Answers (1 ∷ 2 ∷ 3 ∷ 4 ∷ 5 ∷ 6 ∷ 17 ∷ 7 ∷ 8 ∷ 15 ∷ 9 ∷ 10 ∷ 11 ∷ 19 ∷ []) (list_conditions kind cs ts ds a c (length table)) (list_replies kind cs ts ds a c table).0 table (list_replies kind cs ts ds a c table).1

-- 14: some corner that a row of the true list names is too far (document 02, A2)
abbrev pub true_far : List ℤ → Cells → List ℕ → ℕ → ℕ → Option (ℤ × ℤ) → Bool
true_far cs T ds w R (Some (x, y)) =
    any_far cs (record { x = x; y = y }) (listing_rows cs T ds w R (record { x = x; y = y }) (place_at cs T ds w (record { x = x; y = y })))
true_far cs T ds w R None = false

-- as the listing's, with room in the lent list; and last a corner too far
abbrev pub draw_conditions : ℕ → List ℤ → List ℕ → List ℕ → Query → ℕ → List Condition
draw_conditions kind cs ts ds a room =
    list_conditions_with false kind cs ts ds a room
    ++ (when 14 (true_far cs (cells_of kind ts) ds a.setting (range a.reach) (stood cs a.stand)) 0 ∷ [])

abbrev pub DrawAnswers : ℕ → List ℤ → List ℕ → List ℕ → Query → List Float → Type 0
DrawAnswers kind cs ts ds a lent =
    Answers (1 ∷ 2 ∷ 3 ∷ 4 ∷ 5 ∷ 6 ∷ 17 ∷ 7 ∷ 8 ∷ 15 ∷ 9 ∷ 10 ∷ 11 ∷ 14 ∷ []) (draw_conditions kind cs ts ds a (length lent)) (draw_replies kind cs ts ds a lent).0 lent (draw_replies kind cs ts ds a lent).1

-- the stand is on a side, and the door is there and its line holds the stand strictly within (document 02, A4)
abbrev pub door_underfoot : List ℤ → Cells → List ℕ → ℕ → ℕ → Option (ℤ × ℤ) → Bool
door_underfoot cs T ds w i (Some (x, y)) =
    not (inside_some cs T (record { x = x; y = y })) && within_some cs T ds w (record { x = x; y = y })
    && ltb i (length ds) && strictly_within cs T (record { x = x; y = y }) (get_or ds i 0)
door_underfoot cs T ds w i None = false

-- LINE also for the door underfoot; no such door, or already in that state; the given list differs from the true one
abbrev pub change_conditions : ℕ → List ℤ → List ℕ → List ℕ → Query → List ℕ → ℕ → Bool → ℕ → List Condition
change_conditions kind cs ts ds a given i b room =
    list_conditions_with (door_underfoot cs (cells_of kind ts) ds a.setting i (stood cs a.stand)) kind cs ts ds a room
    ++ (when 12 (no_change ds a.setting i b) 0
    ∷ when 13 (not (same_list given (true_numbers cs (cells_of kind ts) ds a.setting (range a.reach) (stood cs a.stand)))) 0 ∷ [])

abbrev pub ChangeAnswers : ℕ → List ℤ → List ℕ → List ℕ → Query → List ℕ → ℕ → Bool → List ℕ → Type 0
ChangeAnswers kind cs ts ds a given i b table =
    Answers (1 ∷ 2 ∷ 3 ∷ 4 ∷ 5 ∷ 6 ∷ 17 ∷ 7 ∷ 8 ∷ 15 ∷ 9 ∷ 10 ∷ 11 ∷ 12 ∷ 13 ∷ []) (change_conditions kind cs ts ds a given i b (length table)) (change_replies kind cs ts ds a given i b table).0 table (change_replies kind cs ts ds a given i b table).1

-- ---- a morning's stands together (document 02, A1)

-- a stand's own reply: the stand, the reach and the ceiling
abbrev pub single_conditions : List ℤ → Cells → List ℕ → Morning → Stand → List Condition
single_conditions cs T ds m s = query_conditions cs T ds m.setting m.reach (stood cs s) ++ ceiling_conditions cs T ds m.setting m.reach (stood cs s) m.ceiling

-- SIZE also for more than 32 stands; no stand is looked at; a table below 4·corners·stands numbers, or fewer than 3·stands places for the replies
abbrev pub list_stands_conditions : ℕ → List ℤ → List ℕ → List ℕ → Morning → ℕ → ℕ → List Condition
list_stands_conditions kind cs ts ds m room places =
    plan_conditions_with (ltb most_stands m.count) kind cs ts ds
    ++ (when 7 (wrong_setting m.setting (length ds)) 0 ∷ when 11 (no_room (corner_count cs) m.count room places) 0 ∷ [])

abbrev pub ListStandsAnswers : ℕ → List ℤ → List ℕ → List ℕ → Morning → List Stand → List ℕ → List ℕ → Type 0
ListStandsAnswers kind cs ts ds m stands table replies =
    Answers (1 ∷ 2 ∷ 3 ∷ 4 ∷ 5 ∷ 6 ∷ 17 ∷ 7 ∷ 11 ∷ []) (list_stands_conditions kind cs ts ds m (length table) (length replies)) (list_stands_replies kind cs ts ds m stands table replies).0 (table, replies) (list_stands_replies kind cs ts ds m stands table replies).1
