-- The listing (document 01, "Expansion" and "Reply numbers"; document 02, A4, A5 and A14). R is how far is seen, in millimetres, and 0 where that is unlimited.
use Rattle.std.specs.Prelude.{Bool, true, false, ◌||◌, List, ℕ, ◌+◌, ◌*◌, ◌-◌, ltb, length, ℤ, pos, Err, None, Ok, Option, Result, Some}
use Rattle.std.proofs.lemmas.List.Edits.{sets}
use Rattle.std.specs.Int.Signed.{le_z}
use Rattle.plane.specs.Side.{Point, side}
use Rattle.plane.specs.Cone.{minus}
use Rattle.cells.specs.Lists.{Cells, corner_count, corner_at, cell_count, first, side_count, home, next, start, back}
use Rattle.cells.specs.Cut.{cells_of}
use Rattle.cells.specs.Check.{checked}
use Rattle.setting.specs.Setting.{ends, wrong_setting}
use Rattle.reach.specs.Reach.{out_of_reach, far, range, wrong_reach}
use Rattle.limits.specs.declared.Refusal.{Refusal}
use Rattle.limits.specs.declared.Refusal.TheVariants as No
use Rattle.stand.specs.Spot.{stood}
use Rattle.stand.specs.Find.{located}
use Rattle.stand.specs.declared.locate.Footing.{Footing}
use Rattle.stand.specs.declared.locate.Footing.TheVariants.{Inside, Side}
use Rattle.fan.specs.Sight.{Floor, Place, Sight, Row, Standing, seen_from, numbers, rows, row_count, crossings}
use Rattle.fan.specs.Sight.Standing.{inside, within}
use Rattle.fan.specs.Sight.Place.{between, right_of_r, left_of_l}
use Rattle.sight.specs.declared.view.Query.{Query}
use Rattle.sight.specs.declared.list.Counts.{Counts}
use Rattle.limits.specs.declared.Plan.{Plan}
use Rattle.sight.specs.declared.view.View.{View}

-- v on or right of the ray from q to r, on or left of the ray to l, or strictly between; on an accepted plan exactly one applies
unfoldable pub placed : List ℤ → Point → ℕ → ℕ → ℕ → Place
placed cs q v r l =
    elim (le_z (side q (corner_at cs r) (corner_at cs v)) (pos 0)) [
      | true ↦ right_of_r
      | false ↦ elim (le_z (side q (corner_at cs v) (corner_at cs l)) (pos 0)) [ true ↦ left_of_l | false ↦ between ]
    ]

-- a corner seen from q
abbrev pub seen : List ℤ → Point → ℕ → Point
seen cs q c = minus (corner_at cs c) q

-- the whole line of face f is out of reach from q
abbrev pub unreached : List ℤ → Cells → ℕ → Point → ℕ → Bool
unreached cs T R q f = out_of_reach R (seen cs q (start T f)) (seen cs q (start T (next T f)))

-- the floor of a plan under a setting, seen from q: sight ends at a line that is wall or out of reach
abbrev pub plan_floor : List ℤ → Cells → List ℕ → ℕ → ℕ → Point → Floor
plan_floor cs T ds w R q =
    record {
      ends = λ f. ends T ds w f || unreached cs T R q f;
      far = λ f. far R (seen cs q (start T f)) (seen cs q (start T (next T f)));
      back = back T;
      next = next T;
      more = λ f. side_count T (home T f) - 2;
      right_end = start T;
      left_end = λ f. start T (next T f);
      place = placed cs q;
    }

-- where the stand was found, on the floor: strictly inside a cell, which its first side names, or strictly within a side
abbrev pub standing : Cells → Footing → Standing
standing T (Inside c) = inside (first T c)
standing T (Side c k) = within (first T c + k)

-- what is seen from q, found at p: the lines around it in their order, each with its two ends as limits; the cells that it does not touch are not yet entered
abbrev pub sight_from : List ℤ → Cells → List ℕ → ℕ → ℕ → Point → Footing → Sight
sight_from cs T ds w R q p = seen_from (plan_floor cs T ds w R q) (cell_count T) (standing T p)

unfoldable pub listing_rows : List ℤ → Cells → List ℕ → ℕ → ℕ → Point → Footing → List Row
listing_rows cs T ds w R q p = rows (sight_from cs T ds w R q p)

unfoldable pub listing_numbers : List ℤ → Cells → List ℕ → ℕ → ℕ → Point → Footing → List ℕ
listing_numbers cs T ds w R q p = numbers (sight_from cs T ds w R q p)

unfoldable pub listing_row_count : List ℤ → Cells → List ℕ → ℕ → ℕ → Point → Footing → ℕ
listing_row_count cs T ds w R q p = row_count (sight_from cs T ds w R q p)

unfoldable pub listing_crossings : List ℤ → Cells → List ℕ → ℕ → ℕ → Point → Footing → ℕ
listing_crossings cs T ds w R q p = crossings (sight_from cs T ds w R q p)

-- refused where the test holds
abbrev pub unless : Bool → Refusal → Result View Refusal → Result View Refusal
unless true r v = Err r
unless false r v = v

abbrev pub view_of_place : ℤ → ℤ → Result Footing Refusal → Result View Refusal
view_of_place x y (Ok p) = Ok (record { x = x; y = y; footing = p })
view_of_place x y (Err r) = Err r

-- 15 goes after 8 and before 9
abbrev pub view_of_spot : List ℤ → Cells → List ℕ → ℕ → Option ℕ → Option (ℤ × ℤ) → Result View Refusal
view_of_spot cs T ds w reach (Some (x, y)) = unless (wrong_reach reach) No.Reach (view_of_place x y (located cs T ds w (record { x = x; y = y })))
view_of_spot cs T ds w reach None = Err No.Stand

abbrev pub view_of_plan : List ℤ → Cells → List ℕ → Query → Result Plan Refusal → Result View Refusal
view_of_plan cs T ds a (Ok p) =
    unless (wrong_setting a.setting (length ds)) No.Setting (view_of_spot cs T ds a.setting a.reach (stood cs a.stand))
view_of_plan cs T ds a (Err r) = Err r

-- replies 1 to 6, 17, 7, 8, 15, 9 and 10 in order, or the stand and where it was found; the cells are in a list of kind k
unfoldable pub viewed : ℕ → List ℤ → List ℕ → List ℕ → Query → Result View Refusal
viewed k cs ts ds a = view_of_plan cs (cells_of k ts) ds a (checked k cs ts ds)

-- refused where the test holds, and the lent list, a table or offsets (document 02, A2), keeps its contents
abbrev pub refuse : {A : Type 0} → Bool → Refusal → List A → Result Counts Refusal × List A → Result Counts Refusal × List A
refuse true r lent rest = (Err r, lent)
refuse false r lent rest = rest

-- the lent list must have 4·corners numbers
unfoldable pub no_room : {A : Type 0} → List ℤ → List A → Bool
no_room cs lent = ltb (length lent) (4 * corner_count cs)

-- the rows go to the beginning of the table; beyond them it keeps its values
abbrev pub rows_from : List ℤ → Cells → List ℕ → ℕ → ℕ → List ℕ → Point → Footing → Result Counts Refusal × List ℕ
rows_from cs T ds w R table q p = (Ok (record { rows = listing_row_count cs T ds w R q p; crossings = listing_crossings cs T ds w R q p }), sets table 0 (listing_numbers cs T ds w R q p))

-- the reply and the table at exit: on a refusal it keeps its contents
abbrev pub listed_from : List ℤ → Cells → List ℕ → ℕ → ℕ → List ℕ → Result View Refusal → Result Counts Refusal × List ℕ
listed_from cs T ds w R table (Ok v) = refuse (no_room cs table) No.Room table (rows_from cs T ds w R table (record { x = v.x; y = v.y }) v.footing)
listed_from cs T ds w R table (Err r) = (Err r, table)

-- the listing: plan, query and table
unfoldable pub listed : ℕ → List ℤ → List ℕ → List ℕ → Query → List ℕ → Result Counts Refusal × List ℕ
listed k cs ts ds a table = listed_from cs (cells_of k ts) ds a.setting (range a.reach) table (viewed k cs ts ds a)
