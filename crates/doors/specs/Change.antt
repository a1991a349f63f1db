-- The door change (document 01, "Changing a door" and "Reply numbers"; document 02, A4 and A5): plan, query under the old setting, the list true for it, a door and
-- the wished state.
use Rattle.std.specs.Prelude.{Bool, true, false, not, ◌&&◌, ◌||◌, List, [], ◌∷◌, ℕ, eqb, ltb, length, get_or, ℤ, Err, Ok, Result}
use Rattle.plane.specs.Side.{Point}
use Rattle.cells.specs.Lists.{Cells}
use Rattle.cells.specs.Cut.{cells_of}
use Rattle.setting.specs.Setting.{shut, with_shut, with_open}
use Rattle.limits.specs.declared.Refusal.TheVariants.{Line, Room, Change, Rows}
use Rattle.stand.specs.Find.{strictly_within}
use Rattle.stand.specs.declared.locate.Footing.{Footing}
use Rattle.stand.specs.declared.locate.Footing.TheVariants.{Inside, Side}
use Rattle.sight.specs.Listing.{listing_numbers, viewed, refuse, no_room, rows_from}
use Rattle.reach.specs.Reach.{range}
use Rattle.sight.specs.declared.view.Query.{Query}
use Rattle.sight.specs.declared.list.Counts.{Counts}
use Rattle.limits.specs.declared.Refusal.{Refusal}
use Rattle.sight.specs.declared.view.View.{View}

-- two lists of the same length and the same numbers
unfoldable pub same_list : List ℕ → List ℕ → Bool
same_list [] [] = true
same_list [] (y ∷ ys) = false
same_list (x ∷ xs) [] = false
same_list (x ∷ xs) (y ∷ ys) = eqb x y && same_list xs ys

-- door i is in the wished state, true for shut
abbrev pub in_state : Bool → ℕ → ℕ → Bool
in_state true w i = shut w i
in_state false w i = not (shut w i)

-- the setting with door i in the wished state
abbrev pub wished : Bool → ℕ → ℕ → ℕ
wished true w i = with_shut w i
wished false w i = with_open w i

-- the same query, asked with door i in the wished state
abbrev pub wished_for : Bool → Query → ℕ → Query
wished_for b a i = record { setting = wished b a.setting i; stand = a.stand; reach = a.reach }

-- no such door, or already in that state
unfoldable pub no_change : List ℕ → ℕ → ℕ → Bool → Bool
no_change ds w i b = not (ltb i (length ds)) || in_state b w i

-- the stand is on a side, and the door is there and its line holds the stand strictly within
unfoldable pub underfoot : List ℤ → Cells → List ℕ → ℕ → Point → Footing → Bool
underfoot cs T ds i q (Inside c) = false
underfoot cs T ds i q (Side c k) = ltb i (length ds) && strictly_within cs T q (get_or ds i 0)

-- replies 12 and 13, or the list and crossings under the new setting
abbrev pub changed_at : List ℤ → Cells → List ℕ → ℕ → ℕ → List ℕ → ℕ → Bool → List ℕ → Point → Footing → Result Counts Refusal × List ℕ
changed_at cs T ds w R given i b table q p =
    refuse (no_change ds w i b) Change table
    (refuse (not (same_list given (listing_numbers cs T ds w R q p))) Rows table
    (rows_from cs T ds (wished b w i) R table q p))

-- from a stand that was found: 9 for a door underfoot, which goes before 11
abbrev pub changed_from : List ℤ → Cells → List ℕ → ℕ → ℕ → List ℕ → ℕ → Bool → List ℕ → Result View Refusal → Result Counts Refusal × List ℕ
changed_from cs T ds w R given i b table (Err r) = (Err r, table)
changed_from cs T ds w R given i b table (Ok v) =
    refuse (underfoot cs T ds i (record { x = v.x; y = v.y }) v.footing) Line table
    (refuse (no_room cs table) Room table
    (changed_at cs T ds w R given i b table (record { x = v.x; y = v.y }) v.footing))

-- the door change; the cells are in a list of kind k
unfoldable pub changed : ℕ → List ℤ → List ℕ → List ℕ → Query → List ℕ → ℕ → Bool → List ℕ → Result Counts Refusal × List ℕ
changed k cs ts ds a given i b table =
    changed_from cs (cells_of k ts) ds a.setting (range a.reach) given i b table (viewed k cs ts ds a)
