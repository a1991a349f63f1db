-- Drawing on the tablet (document 02, A2): the listing's counts, and its corners as pairs of single-precision offsets from the stand.
use Rattle.std.specs.Prelude.{Bool, false, ◌||◌, List, [], ◌∷◌, ◌++◌, ℕ, zero, suc, ◌+◌, ◌<◌, ltb, ℤ, nat_abs, Float, Err, Ok, Result}
use Rattle.std.proofs.lemmas.List.Edits.{sets}
use Rattle.std.specs.Float.{binary32}
use Rattle.std.specs.Float.Ieee.{of_int}
use Rattle.plane.specs.Side.{Point}
use Rattle.limits.specs.Limits.{most_offset}
use Rattle.limits.specs.declared.Refusal.TheVariants as No
use Rattle.cells.specs.Lists.{Cells, corner_count}
use Rattle.cells.specs.Cut.{cells_of}
use Rattle.reach.specs.Reach.{range}
use Rattle.stand.specs.declared.locate.Footing.{Footing}
use Rattle.fan.specs.Sight.{Row}
use Rattle.fan.specs.Written.{row_at}
use Rattle.sight.specs.Listing.{seen, viewed, refuse, no_room, listing_rows, listing_row_count, listing_crossings}
use Rattle.sight.specs.declared.view.Query.{Query}
use Rattle.tablet.specs.declared.offset.Offset.{Offset}
use Rattle.sight.specs.declared.list.Counts.{Counts}
use Rattle.limits.specs.declared.Refusal.{Refusal}
use Rattle.sight.specs.declared.view.View.{View}

-- a corner's offset from the stand: the float of each whole-millimetre difference
abbrev pub offset : Point → Offset
offset d = record { x = of_int binary32 d.x; y = of_int binary32 d.y }

-- more than 16,777,216 mm in either axis
unfoldable pub far : Point → Bool
far d = ltb most_offset (nat_abs d.x) || ltb most_offset (nat_abs d.y)

-- a row names two corners: its right limit, then its left
abbrev pub row_far : List ℤ → Point → Row → Bool
row_far cs q r = far (seen cs q r.right) || far (seen cs q r.left)

unfoldable pub any_far : List ℤ → Point → List Row → Bool
any_far cs q [] = false
any_far cs q (r ∷ rs) = row_far cs q r || any_far cs q rs

-- four numbers a row: x and y of the right limit's offset, then of the left limit's
abbrev pub pair : Offset → List Float
pair o = o.x ∷ o.y ∷ []

abbrev pub row_offsets : List ℤ → Point → Row → List Float
row_offsets cs q r = pair (offset (seen cs q r.right)) ++ pair (offset (seen cs q r.left))

unfoldable pub offsets_of : List ℤ → Point → List Row → List Float
offsets_of cs q [] = []
offsets_of cs q (r ∷ rs) = row_offsets cs q r ++ offsets_of cs q rs

-- the listing's counts, and the offsets of its rows from the beginning of the lent list on; beyond them it keeps its values
abbrev pub offsets_from : List ℤ → Cells → List ℕ → ℕ → ℕ → List Float → Point → Footing → Result Counts Refusal × List Float
offsets_from cs T ds w R lent q p =
    (Ok (record { rows = listing_row_count cs T ds w R q p; crossings = listing_crossings cs T ds w R q p }), sets lent 0 (offsets_of cs q (listing_rows cs T ds w R q p)))

-- 11 goes before 14
abbrev pub drawn_at : List ℤ → Cells → List ℕ → ℕ → ℕ → List Float → Point → Footing → Result Counts Refusal × List Float
drawn_at cs T ds w R lent q p =
    refuse (no_room cs lent) No.Room lent (refuse (any_far cs q (listing_rows cs T ds w R q p)) No.Far lent (offsets_from cs T ds w R lent q p))

abbrev pub drawn_from : List ℤ → Cells → List ℕ → ℕ → ℕ → List Float → Result View Refusal → Result Counts Refusal × List Float
drawn_from cs T ds w R lent (Ok v) = drawn_at cs T ds w R lent (record { x = v.x; y = v.y }) v.footing
drawn_from cs T ds w R lent (Err r) = (Err r, lent)

-- the drawing: plan, query and lent list
unfoldable pub drawn : ℕ → List ℤ → List ℕ → List ℕ → Query → List Float → Result Counts Refusal × List Float
drawn k cs ts ds a lent = drawn_from cs (cells_of k ts) ds a.setting (range a.reach) lent (viewed k cs ts ds a)

-- ---- what the code is given: a table of rows

-- n rows of a table from row i on
unfoldable pub rows_in : List ℕ → ℕ → ℕ → List Row
rows_in table i zero = []
rows_in table i (suc n) = row_at table i ∷ rows_in table (i + 1) n

-- the first n rows of a table name corners of the plan
abbrev pub NameCorners : List ℤ → List ℕ → ℕ → Type 0
NameCorners cs table n = (i : ℕ) → i < n → ((row_at table i).right < corner_count cs) × ((row_at table i).left < corner_count cs)
