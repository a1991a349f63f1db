-- The three demands, over the input alone. Demands 2 and 3 are of any answer and any table: what they ask of an answer, and of what stands in the table
-- before and after.
use Rattle.std.specs.Prelude.{Bool, true, false, List, [], map, ◌≡◌, ℕ, ◌*◌, ◌<◌, get_or, take, drop, ℤ, Float, Err, Ok, Option, Result, Some}
use Rattle.plane.specs.Side.{Point}
use Rattle.plane.specs.Cone.{Meets, Direction}
use Rattle.cells.specs.Lists.{Cells, corner_count, next, start, back}
use Rattle.cells.specs.Cut.{cells_of}
use Rattle.limits.specs.Reply.{number, place}
use Rattle.limits.specs.declared.Refusal.{Refusal}
use Rattle.limits.specs.declared.Refusal.TheVariants.{Rows as Untrue}
use Rattle.setting.specs.Setting.{ends}
use Rattle.reach.specs.Reach.{Reaches, range}
use Rattle.stand.specs.Spot.{stood}
use Rattle.stand.specs.Find.{located}
use Rattle.stand.specs.declared.spot.Stand.{Stand}
use Rattle.stand.specs.declared.locate.Footing.{Footing}
use Rattle.fan.specs.Sight.{Row}
use Rattle.fan.specs.Walk.{RowHolds, WalkEnds}
use Rattle.fan.specs.Written.{row_at, OneRow}
use Rattle.sight.specs.Listing.{plan_floor, seen, standing, sight_from, listing_numbers, listing_row_count, listing_crossings, listed}
use Rattle.sight.specs.declared.view.Query.{Query}
use Rattle.runs.specs.Route.{Routed, routed, row_numbers}
use Rattle.runs.specs.Door.{on_door, untouched, those}
use Rattle.runs.specs.Shutting.{runs, door_row}
use Rattle.doors.specs.Change.{no_change, wished, wished_for}
use Rattle.morning.specs.declared.Morning.{Morning}
use Rattle.manopluea.specs.Conditions.{door_underfoot, CheckAnswers, ReadAnswers, WriteAnswers, FindAnswers, ListAnswers, DrawAnswers, ChangeAnswers, ListStandsAnswers}
use Rattle.sight.specs.declared.list.Counts.{Counts}

-- ---- demand 1

pub record Demand1 : Type 0 where
  pub check : (kind : ℕ) (cs : List ℤ) (ts ds : List ℕ) → CheckAnswers kind cs ts ds
  pub read : (file : List ℕ) (corners : List ℤ) (cells doors : List ℕ) → ReadAnswers file corners cells doors
  pub write : (kind : ℕ) (cs : List ℤ) (ts ds file : List ℕ) → WriteAnswers kind cs ts ds file
  pub find : (kind : ℕ) (cs : List ℤ) (ts ds : List ℕ) (w : ℕ) (s : Stand) → FindAnswers kind cs ts ds w s
  pub list : (kind : ℕ) (cs : List ℤ) (ts ds : List ℕ) (a : Query) (c : Option ℕ) (table : List ℕ) → ListAnswers kind cs ts ds a c table
  pub draw : (kind : ℕ) (cs : List ℤ) (ts ds : List ℕ) (a : Query) (lent : List Float) → DrawAnswers kind cs ts ds a lent
  pub change : (kind : ℕ) (cs : List ℤ) (ts ds : List ℕ) (a : Query) (given : List ℕ) (i : ℕ) (b : Bool) (table : List ℕ) → ChangeAnswers kind cs ts ds a given i b table
  pub list_stands : (kind : ℕ) (cs : List ℤ) (ts ds : List ℕ) (m : Morning) (stands : List Stand) (table replies : List ℕ) → ListStandsAnswers kind cs ts ds m stands table replies
  -- different refusals have different numbers, or the same number at different places
  pub apart : (r s : Refusal) → number r ≡ number s → place r ≡ place s → r ≡ s

-- ---- demand 2

module _ (cs : List ℤ) (T : Cells) (ds : List ℕ) (w R : ℕ) (q : Point) (p : Footing) where
  -- the whole ray of direction d from q, q itself not counted, meets no corner of the plan
  abbrev pub MeetsNoCorner : Point → Type 0
  MeetsNoCorner d = (k : ℕ) → k < corner_count cs → ¬ Meets d (seen cs q k)

  -- the row holds d strictly between its limits
  abbrev pub HoldsDirection : Point → Row → Type 0
  HoldsDirection d r = RowHolds (plan_floor cs T ds w R q) (seen cs q) d r

  -- the walk for d from q, which is at p, ends at this face: the first line that is wall or out of reach
  abbrev pub WalkEndsAt : Point → ℕ → Type 0
  WalkEndsAt d f = WalkEnds (plan_floor cs T ds w R q) (seen cs q) d (standing T p) f

  -- exactly one of the first n rows of the table holds d, and its face is where the walk ends
  pub record HeldOnce (n : ℕ) (table : List ℕ) (d : Point) : Type 0 where
    pub row : Row
    pub one : OneRow (HoldsDirection d) table n row
    pub met : WalkEndsAt d row.face

-- some point of the whole line of face f is in reach from q
abbrev pub InReachOfStand : List ℤ → Cells → ℕ → Point → ℕ → Type 0
InReachOfStand cs T R q f = Reaches R (seen cs q (start T f)) (seen cs q (start T (next T f)))

-- what a row's fourth number says of its face, seen from q
pub data Says (cs : List ℤ) (T : Cells) (ds : List ℕ) (w R : ℕ) (q : Point) : ℕ → ℕ → Type 0 where
  -- 0: it is a wall, or a shut door, in reach
  wall_in_reach : {f : ℕ} → ends T ds w f ≡ true → InReachOfStand cs T R q f → Says cs T ds w R q f 0
  -- 1: it is out of reach, wall or not
  out_of_reach : {f : ℕ} → (InReachOfStand cs T R q f → ⊥) → Says cs T ds w R q f 1

module _ (kind : ℕ) (cs : List ℤ) (ts ds : List ℕ) (a : Query) where
  -- n rows of a table and k crossings, seen from the very point that the stand is, where it is found
  pub record Sighted (n k : ℕ) (table : List ℕ) : Type 0 where
    pub x : ℤ
    pub y : ℤ
    pub the_stand : stood cs a.stand ≡ Some (x, y)
    pub place : Footing
    pub its_place : located cs (cells_of kind ts) ds a.setting (record { x = x; y = y }) ≡ Ok place
    -- rows, order and crossings are those of the published expansion
    pub expanded : take (4 * n) table ≡ listing_numbers cs (cells_of kind ts) ds a.setting (range a.reach) (record { x = x; y = y }) place
    pub counted : n ≡ listing_row_count cs (cells_of kind ts) ds a.setting (range a.reach) (record { x = x; y = y }) place
    pub crossed : k ≡ listing_crossings cs (cells_of kind ts) ds a.setting (range a.reach) (record { x = x; y = y }) place
    -- every direction whose ray meets no corner is held by exactly one row, whose wall is the first met walking cell by cell
    pub held : (d : Point) → Direction d → MeetsNoCorner cs (cells_of kind ts) ds a.setting (range a.reach) (record { x = x; y = y }) place d → HeldOnce cs (cells_of kind ts) ds a.setting (range a.reach) (record { x = x; y = y }) place n table d
    -- each row's fourth number is right
    pub said : (i : ℕ) → i < n → Says cs (cells_of kind ts) ds a.setting (range a.reach) (record { x = x; y = y }) (row_at table i).face (row_at table i).far

  -- whenever the answer is n rows, they are so, and beyond them the table is as it was
  pub record Demand2 (before : List ℕ) (answer : Result Counts Refusal) (after : List ℕ) : Type 0 where
    pub sighted : (n k : ℕ) → answer ≡ Ok (record { rows = n; crossings = k }) → Sighted n k after
    pub beyond : (n k : ℕ) → answer ≡ Ok (record { rows = n; crossings = k }) → drop (4 * n) after ≡ drop (4 * n) before

-- ---- demand 3

-- of the two lists, the one with the door open and the one with it shut, where the second is wished shut (true) or open
abbrev pub while_open : {A : Type 0} → Bool → A → A → A
while_open true old new = old
while_open false old new = new

abbrev pub once_shut : {A : Type 0} → Bool → A → A → A
once_shut true old new = new
once_shut false old new = old

module _ (kind : ℕ) (cs : List ℤ) (ts ds : List ℕ) (a : Query) (given : List ℕ) (i : ℕ) (b : Bool) where
  -- the door's two faces
  abbrev pub face : ℕ
  face = get_or ds i 0

  abbrev pub other_face : ℕ
  other_face = back (cells_of kind ts) (get_or ds i 0)

  -- the given list and the first n rows of a table, as rows with their routes: rows that the door does not touch stand in both, in order, and each run
  -- through the open door is one row on the shut door
  pub record RunByRun (n : ℕ) (table : List ℕ) : Type 0 where
    pub old : List Routed
    pub new : List Routed
    pub old_given : given ≡ row_numbers old
    pub new_listed : take (4 * n) table ≡ row_numbers new
    pub untouched_in_both : those (untouched face other_face) new ≡ those (untouched face other_face) old
    -- the rows and routes are those of the two listings
    pub x : ℤ
    pub y : ℤ
    pub the_stand : stood cs a.stand ≡ Some (x, y)
    pub place : Footing
    pub its_place : located cs (cells_of kind ts) ds a.setting (record { x = x; y = y }) ≡ Ok place
    pub old_seen : old ≡ routed (sight_from cs (cells_of kind ts) ds a.setting (range a.reach) (record { x = x; y = y }) place)
    pub new_seen : new ≡ routed (sight_from cs (cells_of kind ts) ds (wished b a.setting i) (range a.reach) (record { x = x; y = y }) place)
    -- of a door in reach, each run through the open door is one row on the shut one
    pub runs_are_rows : InReachOfStand cs (cells_of kind ts) (range a.reach) (record { x = x; y = y }) face → those (on_door face other_face) (once_shut b old new) ≡ map (door_row face other_face) (runs face other_face (while_open b old new))
    -- one out of reach has no run behind it, and its rows are the same shut and open
    pub kept_out_of_reach : (InReachOfStand cs (cells_of kind ts) (range a.reach) (record { x = x; y = y }) face → ⊥) → (runs face other_face (while_open b old new) ≡ []) × (new ≡ old)

  pub record Demand3 (before : List ℕ) (answer : Result Counts Refusal) (after : List ℕ) : Type 0 where
    -- whenever the answer is rows, answer and table are those of a fresh listing under the new setting
    pub fresh : (n k : ℕ) → answer ≡ Ok (record { rows = n; crossings = k }) → (answer, after) ≡ listed kind cs ts ds (wished_for b a i) before
    pub run_by_run : (n k : ℕ) → answer ≡ Ok (record { rows = n; crossings = k }) → RunByRun n after
    -- and so it is from every true list of a door that is not yet so, unless the stand is on its line
    pub from_the_true_list : (n k : ℕ) (t : List ℕ) → listed kind cs ts ds a before ≡ (Ok (record { rows = n; crossings = k }), t) → door_underfoot cs (cells_of kind ts) ds a.setting i (stood cs a.stand) ≡ false → no_change ds a.setting i b ≡ false → given ≡ take (4 * n) t → (answer, after) ≡ listed kind cs ts ds (wished_for b a i) before
    -- while a given list that is not the true one is 13, and the table is as it was
    pub from_another_list : (n k : ℕ) (t : List ℕ) → listed kind cs ts ds a before ≡ (Ok (record { rows = n; crossings = k }), t) → door_underfoot cs (cells_of kind ts) ds a.setting i (stood cs a.stand) ≡ false → no_change ds a.setting i b ≡ false → (given ≡ take (4 * n) t → ⊥) → ◌≡◌ {A = Result Counts Refusal × List ℕ} (answer, after) (Err Untrue, before)
