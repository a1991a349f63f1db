-- What `list` writes: the listing's rows, one after another, and their count (document 01, "Expansion" and "Reply numbers").
use mathlib.Core.Bool.{Bool, false}
use mathlib.Core.List.{List, ◌++◌}
use mathlib.Core.Path.{◌≡◌, ap, ap₂, sym, ◌∙◌}
use native.Mathlib.Omega.{arith}
use Prim.Native.Nat.{ℕ, ◌*◌, ◌<◌}
use lib.Seq.{sets}
use lib.ListN.{length, drop}
use lib.IntN.{ℤ}
use Rattle.exact.proofs.Lent.{written_from_the_beginning}
use Rattle.plane.specs.Side.{Point}
use Rattle.plane.specs.Cone.{Meets, Direction}
use Rattle.limits.specs.declared.Refusal.TheVariants as No
use Rattle.cells.specs.Lists.{Cells, corner_count}
use Rattle.cells.specs.Cut.{cells_of}
use Rattle.cells.specs.Sound.{Sound}
use Rattle.cells.proofs.Plans.{corner_exists}
use Rattle.reach.specs.Reach.{range}
use Rattle.stand.specs.declared.locate.Footing.{Footing}
use Rattle.stand.proofs.Located.{Stands, found_place_holds_the_stand}
use Rattle.fan.specs.Sight.{Row}
use Rattle.fan.specs.Once.{At}
use Rattle.fan.specs.Walk.{WalkEnds}
use Rattle.fan.specs.Written.{written}
use Rattle.fan.proofs.Limits as Limits
use Rattle.fan.proofs.RowCounts.{row_count_counts_the_rows, whole_has_a_row}
use Rattle.fan.proofs.Tables.{length_of_rows}
use Rattle.fan.proofs.Written.{numbers_are_the_rows}
use Rattle.sight.specs.Listing.{plan_floor, seen, standing, sight_from, viewed, listing_rows, listing_numbers, listing_row_count, listing_crossings, refuse, no_room, rows_from, listed_from, listed}
use Rattle.sight.specs.Ceiling.{listed_up_to}
use Rattle.sight.specs.declared.view.Query.{Query}
use Rattle.sight.proofs.PlanFloor.{plan_geometry, stands_on_the_floor}
use Rattle.sight.proofs.Sightings.{listing_is_whole, rows_never_outnumber_corners, demand_2, walk_is_unique}
use Rattle.sight.proofs.Views.{view_says, has_room}
use Rattle.sight.specs.declared.list.Counts.{Counts}
use Rattle.limits.specs.declared.Refusal.{Refusal}
use Rattle.std.specs.Prelude.{Ok, Option, Result}

module _ (cs : List ℤ) (T : Cells) (ds : List ℕ) (w R : ℕ) (q : Point) (p : Footing) where
  pub the_numbers_are_the_rows : listing_numbers cs T ds w R q p ≡ written (listing_rows cs T ds w R q p)
  unfolding listing_numbers listing_rows
  the_numbers_are_the_rows = numbers_are_the_rows (sight_from cs T ds w R q p)

  pub the_count_is_the_rows : listing_row_count cs T ds w R q p ≡ length (listing_rows cs T ds w R q p)
  unfolding listing_row_count listing_rows
  the_count_is_the_rows = row_count_counts_the_rows (sight_from cs T ds w R q p)

  pub the_numbers_are_four_a_row : length (listing_numbers cs T ds w R q p) ≡ 4 * listing_row_count cs T ds w R q p
  the_numbers_are_four_a_row =
      ap length the_numbers_are_the_rows
      ∙ length_of_rows (listing_rows cs T ds w R q p)
      ∙ ap (λ (n : ℕ). 4 * n) (sym the_count_is_the_rows)

module _ (k : ℕ) (cs : List ℤ) (ts ds : List ℕ) (a : Query) (table : List ℕ) {x y : ℤ} {p : Footing} (view : viewed k cs ts ds a ≡ Ok (record { x = x; y = y; footing = p })) (room : no_room cs table ≡ false) where
  abbrev q : Point
  q = record { x = x; y = y }

  abbrev T : Cells
  T = cells_of k ts

  abbrev w : ℕ
  w = a.setting

  abbrev R : ℕ
  R = range a.reach

  -- from a stand that is not refused, with room, `list` replies the rows' count and the crossings, writes the rows and keeps what stands beyond them
  pub list_writes_the_rows : listed k cs ts ds a table ≡ (Ok (record { rows = length (listing_rows cs T ds w R q p); crossings = listing_crossings cs T ds w R q p }), sets table 0 (written (listing_rows cs T ds w R q p)))
  unfolding listed
  list_writes_the_rows =
      ap (listed_from cs T ds w R table) view
      ∙ ap (λ (b : Bool). refuse b No.Room table (rows_from cs T ds w R table q p)) room
      ∙ ap₂ (λ (n : ℕ) (l : List ℕ). (Ok (record { rows = n; crossings = listing_crossings cs T ds w R q p }), sets table 0 l)) (the_count_is_the_rows cs T ds w R q p) (the_numbers_are_the_rows cs T ds w R q p)

  -- the table at exit: the rows, and beyond them what stood there
  pub the_table_holds_the_rows : (listed k cs ts ds a table).1 ≡ written (listing_rows cs T ds w R q p) ++ drop (4 * length (listing_rows cs T ds w R q p)) table
  the_table_holds_the_rows =
      let says = view_says k cs ts ds a view in
      let few = rows_never_outnumber_corners says.sound w R q p (found_place_holds_the_stand cs says.sound.numbered ds w q says.spotted.stand_place) in
      let count = the_count_is_the_rows cs T ds w R q p in
      let long = has_room cs table room in
      ap (λ (p : Result Counts Refusal × List ℕ). p.1) list_writes_the_rows
      ∙ written_from_the_beginning table (written (listing_rows cs T ds w R q p)) (4 * length (listing_rows cs T ds w R q p)) (length_of_rows (listing_rows cs T ds w R q p)) (omega arith)

module _ {cs : List ℤ} {T : Cells} {ds : List ℕ} (sound : Sound cs T ds) (w R : ℕ) (q : Point) (p : Footing) (stands : Stands cs T ds w q p) where
  -- no listing is empty
  pub a_listing_has_a_row : 0 < length (listing_rows cs T ds w R q p)
  unfolding listing_row_count
  a_listing_has_a_row =
      let some = whole_has_a_row (listing_is_whole sound w R q p stands) in
      let count = the_count_is_the_rows cs T ds w R q p in
      omega arith

  -- a wall met first in a direction whose ray meets no corner has a row
  pub a_wall_met_first_has_a_row : (d : Point) → Direction d → ((k : ℕ) → k < corner_count cs → ¬ Meets d (seen cs q k)) → {f : ℕ} → WalkEnds (plan_floor cs T ds w R q) (seen cs q) d (standing T p) f → (r : Row) × (i : ℕ) × At r (listing_rows cs T ds w R q p) i × (r.face ≡ f)
  a_wall_met_first_has_a_row d n clear met =
      let held = demand_2 sound w R q p stands d n clear in
      (held.0, held.1.place, held.1.stands, walk_is_unique sound w R q p stands d held.2 met)

  -- each row's limits are corners of the plan
  pub row_limits_are_corners : {r : Row} {i : ℕ} → At r (listing_rows cs T ds w R q p) i → (r.right < corner_count cs) × (r.left < corner_count cs)
  unfolding listing_rows
  row_limits_are_corners a =
      Limits.row_limits_are_corners (plan_geometry sound w R q) (corner_count cs) (corner_exists sound.numbered sound.cells) (stands_on_the_floor sound w R q stands) a

-- the promise of the listing leaves one reply and one table
pub list_has_one_reply : (k : ℕ) (cs : List ℤ) (ts ds : List ℕ) (a : Query) (c : Option ℕ) (table : List ℕ) {r s : Result Counts Refusal × List ℕ} → r ≡ listed_up_to k cs ts ds a c table → s ≡ listed_up_to k cs ts ds a c table → r ≡ s
list_has_one_reply k cs ts ds a c table h i = h ∙ sym i
