-- The listing of an accepted plan under any setting and within any range, from a stand of either kind (document 01, "Expansion" and "Walk"; document 02, A4
-- and A5).
use mathlib.Core.List.{List, ◌∷◌}
use mathlib.Core.Logic.{◌⊎◌}
use mathlib.Core.Path.{◌≡◌}
use Prim.Native.Nat.{ℕ, ◌+◌, ◌*◌, ◌-◌, ◌<◌, ◌≤◌}
use native.Mathlib.Nat.{mul-le-mul, le_refl, le_trans}
use native.Mathlib.Omega.{arith}
use lib.IntN.{ℤ}
use Rattle.plane.specs.Side.{Point}
use Rattle.plane.specs.Cone.{Meets, Direction}
use Rattle.limits.specs.Limits.{most_corners, most_cells}
use Rattle.cells.specs.Lists.{Cells, corner_count, cell_count, face_count, first, home, back}
use Rattle.cells.specs.Sound.{Sound}
use Rattle.cells.proofs.Plans.{counts, corner_exists}
use Rattle.stand.specs.declared.locate.Footing.{Footing}
use Rattle.stand.specs.declared.locate.Footing.TheVariants.{Inside, Side}
use Rattle.stand.proofs.Located.{Stands}
use Rattle.fan.specs.Sight.{Whole, Row, unentered}
use Rattle.fan.specs.Walk.{RowHolds, WalkEnds}
use Rattle.fan.specs.Once.{At, NeverTwice, Only}
use Rattle.fan.proofs.Geometry.{Geometry}
use Rattle.fan.proofs.Around as Around
use Rattle.fan.proofs.Tree.{RowSeen}
use Rattle.fan.proofs.Rows as Rows
use Rattle.fan.proofs.Twice.{WayDown, AllDifferent}
use Rattle.fan.proofs.Listing as Listing
use Rattle.sight.specs.Listing.{plan_floor, seen, standing, sight_from, listing_rows, listing_row_count, listing_crossings}
use Rattle.sight.proofs.PlanFloor.{plan_geometry, stands_on_the_floor}

module _ {cs : List ℤ} {T : Cells} {ds : List ℕ} (sound : Sound cs T ds) (w R : ℕ) (q : Point) (p : Footing) (stands : Stands cs T ds w q p) where
  abbrev G : Geometry (plan_floor cs T ds w R q) (face_count T) (cell_count T) (seen cs q) (home T)
  G = plan_geometry sound w R q

  abbrev S : Around.Stands (plan_floor cs T ds w R q) (face_count T) (seen cs q) (standing T p)
  S = stands_on_the_floor sound w R q stands

  abbrev starts : (f : ℕ) → f < face_count T → (plan_floor cs T ds w R q).right_end f < corner_count cs
  starts = corner_exists sound.numbered sound.cells

  -- a crossing for each cell not yet entered is enough: nothing is cut
  pub listing_is_whole : Whole (sight_from cs T ds w R q p)
  listing_is_whole = Listing.listing_is_whole G S

  -- no line of sight enters a cell twice
  pub no_line_of_sight_enters_a_cell_twice : (e : ℕ) (es : List ℕ) → WayDown (sight_from cs T ds w R q p) e es → AllDifferent (home T) (e ∷ es)
  no_line_of_sight_enters_a_cell_twice = Listing.no_line_of_sight_from_the_stand_enters_a_cell_twice G S

  -- rows never outnumber corners
  pub rows_never_outnumber_corners : listing_row_count cs T ds w R q p ≤ corner_count cs
  unfolding listing_row_count
  rows_never_outnumber_corners = Rows.rows_never_outnumber_corners G (corner_count cs) starts S

  -- crossings never exceed rows times the cells not yet entered: all but the stand's own, or all but its side's two
  pub crossings_never_exceed_rows_times_unentered : listing_crossings cs T ds w R q p ≤ listing_row_count cs T ds w R q p * unentered (cell_count T) (standing T p)
  unfolding listing_row_count listing_crossings
  crossings_never_exceed_rows_times_unentered = Listing.crossings_at_most_rows_times_unentered G S

  few_unentered : unentered (cell_count T) (standing T p) ≤ cell_count T - 1
  unfolding unentered
  few_unentered = by_kind p
    where
      by_kind : (p : Footing) → unentered (cell_count T) (standing T p) ≤ cell_count T - 1
      by_kind (Inside c) = omega arith
      by_kind (Side c k) = omega arith

  -- and so never rows times (cells − 1)
  pub crossings_never_exceed_rows_times_other_cells : listing_crossings cs T ds w R q p ≤ listing_row_count cs T ds w R q p * (cell_count T - 1)
  crossings_never_exceed_rows_times_other_cells = le_trans crossings_never_exceed_rows_times_unentered (mul-le-mul (le_refl _) few_unentered)

  -- so a word holds them
  pub few_crossings : listing_crossings cs T ds w R q p ≤ most_corners * most_cells
  few_crossings =
      let k = counts _ _ _ sound.in_size in
      let rows : listing_row_count cs T ds w R q p ≤ most_corners = le_trans rows_never_outnumber_corners k.corners_at_most in
      let cells : cell_count T - 1 ≤ most_cells = omega (arith, k.cells_at_most) in
      le_trans crossings_never_exceed_rows_times_other_cells (mul-le-mul rows cells)

  -- each row's face ends the sight there, is seen from its inner side, and its right limit lies strictly before its left limit
  pub row_is_seen : {r : Row} {i : ℕ} → At r (listing_rows cs T ds w R q p) i → RowSeen (plan_geometry sound w R q) r
  unfolding listing_rows
  row_is_seen a = Listing.listed_row_is_seen G S a

  -- no two rows hold the same direction
  pub rows_share_no_direction : (d : Point) → NeverTwice (RowHolds (plan_floor cs T ds w R q) (seen cs q) d) (listing_rows cs T ds w R q p)
  unfolding listing_rows
  rows_share_no_direction d = Listing.listed_share_no_direction G S d

  -- every direction strictly between a row's limits, corner-free or not, walks to that row's face
  pub row_is_walked_to : (d : Point) {r : Row} {i : ℕ} → At r (listing_rows cs T ds w R q p) i → RowHolds (plan_floor cs T ds w R q) (seen cs q) d r → WalkEnds (plan_floor cs T ds w R q) (seen cs q) d (standing T p) r.face
  unfolding listing_rows
  row_is_walked_to d a h = Listing.listed_row_is_walked_to G S d a h

  -- the walk ends at one face only
  pub walk_is_unique : (d : Point) {e f : ℕ} → WalkEnds (plan_floor cs T ds w R q) (seen cs q) d (standing T p) e → WalkEnds (plan_floor cs T ds w R q) (seen cs q) d (standing T p) f → e ≡ f
  walk_is_unique d = Listing.walk_ends_once G S d

  -- demand 2: of a direction whose ray meets no corner of the plan exactly one row holds it, and the walk ends at that row's face
  pub demand_2 : (d : Point) → Direction d → ((k : ℕ) → k < corner_count cs → ¬ Meets d (seen cs q k)) → (r : Row) × Only (RowHolds (plan_floor cs T ds w R q) (seen cs q) d) (listing_rows cs T ds w R q p) r × WalkEnds (plan_floor cs T ds w R q) (seen cs q) d (standing T p) r.face
  unfolding listing_rows
  demand_2 d n clear = Listing.demand_2 G S d (corner_count cs) starts n clear

-- a stand on a side: no line of sight enters the one of its two cells that it does not begin in
module _ {cs : List ℤ} {T : Cells} {ds : List ℕ} (sound : Sound cs T ds) (w R : ℕ) (q : Point) {c k : ℕ} (stands : Stands cs T ds w q (Side c k)) where
  pub no_line_of_sight_enters_the_cell_beyond :
      (e : ℕ) (es : List ℕ) → WayDown (sight_from cs T ds w R q (Side c k)) e es →
      (AllDifferent (home T) (back T (first T c + k) ∷ e ∷ es)) ⊎ (AllDifferent (home T) ((first T c + k) ∷ e ∷ es))
  no_line_of_sight_enters_the_cell_beyond =
      Listing.no_line_of_sight_from_a_side_enters_the_cell_beyond (plan_geometry sound w R q) (stands_on_the_floor sound w R q stands)
