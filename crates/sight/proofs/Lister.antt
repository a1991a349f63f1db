-- The code's tables give the listing that the plan's own floor gives, and an accepted plan meets what following lines asks.
use mathlib.Core.List.{List, ◌++◌}
use mathlib.Core.Path.{◌≡◌, sym, ◌∙◌, ap, ap₂, subst}
use Prim.Native.Nat.{ℕ, zero, suc, ◌+◌, ◌*◌, ◌-◌, ◌<◌, ◌≤◌}
use native.Mathlib.Omega.{arith}
use lib.IntN.{ℤ}
use lib.ListN.{length, get_or}
use lib.Seq.{sets}
use Rattle.plane.specs.Side.{Point, Near}
use Rattle.limits.specs.Limits.{most_corners, most_reach, wall}
use Rattle.cells.specs.Lists.{Cells, corner_count, cell_count, face_count, first, side_count, home, next, start, back}
use Rattle.cells.specs.Sound.{Numbered, Sound}
use Rattle.cells.proofs.Faces.{SideOf, side_exists, home_is, next_below}
use Rattle.cells.proofs.Plans.{counts, corner_exists}
use Rattle.stand.specs.declared.locate.Footing.{Footing}
use Rattle.stand.specs.declared.locate.Footing.TheVariants.{Inside, Side}
use Rattle.stand.proofs.Located.{Stands}
use Rattle.stand.proofs.Located.Stands.{in_a_cell, on_a_side}
use Rattle.fan.specs.Sight.{Floor, Sight, follow, sides, all_sides, other_sides, lines_around, unentered, lines_seen, seen_from, numbers, row_count, crossings, Whole}
use Rattle.fan.specs.Sight.Sight.{both}
use Rattle.fan.proofs.Around as Around
use Rattle.fan.proofs.Around.Stands.{stands_within}
use Rattle.fan.proofs.Start.{some_side}
use Rattle.fan.proofs.TwoParts.{ListsAs, lists_as_itself, in_front_of_sides, two_parts}
use Rattle.fan.proofs.WithinSide.{WithinSide, two_cells}
use Rattle.expand.specs.Floor.{floor_of, Lines, Starts}
use Rattle.lines.specs.Lined.{Lined}
use Rattle.sight.specs.CellTree.{side_tree, cell_tree, others_tree, inside_tree, within_tree, stand_tree, StandsIn}
use Rattle.sight.specs.Seen.{SeenFrom}
use Rattle.sight.specs.Ceiling.{enough}
use Rattle.sight.specs.Listing as Listing
use Rattle.sight.specs.Listing.{plan_floor, standing, sight_from, listing_numbers, listing_row_count, listing_crossings, rows_from}
use Rattle.sight.proofs.Lined.{few_faces, across_where_passed, lined_floor_agrees, lined_is_lines, starts_stand}
use Rattle.sight.proofs.PlanFloor.{passed_is_free, plan_geometry, stands_on_the_floor}
use Rattle.sight.proofs.Sightings.{listing_is_whole, rows_never_outnumber_corners, few_crossings}
use Rattle.std.specs.Prelude.{Ok}

module _ {cs : List ℤ} {T : Cells} {ds : List ℕ} (sound : Sound cs T ds) (w R : ℕ) (q : Point) (near : Near q)
    {ls : List ℕ} (lined : Lined T ds w ls) {zs : List ℤ} (seen : SeenFrom cs q zs) where
  abbrev P : Floor
  P = plan_floor cs T ds w R q

  -- one side is followed as on the plan's floor
  side_is : (n f : ℕ) → f < face_count T → side_tree zs ls T.faces R n f ≡ follow P n f (start T f) (start T (next T f))
  unfolding start
  side_is n f h =
      let starts = corner_exists sound.numbered sound.cells in
      ap (λ (l : ℕ). follow (floor_of zs ls T.faces R) n f (start T f) l) (lined.end_stands f h)
      ∙ lined_floor_agrees w R sound near lined seen n f (start T f) (start T (next T f)) h (starts f h) (starts (next T f) (next_below sound.numbered f h))

  -- so are the sides one after another
  tree_is : (n m f : ℕ) → f < face_count T → cell_tree zs ls T.faces R n m f ≡ lines_seen P n (sides (next T) m f)
  unfolding cell_tree sides lines_seen
  tree_is n zero f h = side_is n f h
  tree_is n (suc m) f h =
      ap₂ both (side_is n f h) (ap (cell_tree zs ls T.faces R n m) (lined.next_stands f h) ∙ tree_is n m (next T f) (next_below sound.numbered f h))
      ∙ sym (in_front_of_sides P n m (next T f) f)

  -- and the other sides of a cell
  others_are : (n g : ℕ) → g < face_count T → others_tree zs ls T.faces R n g ≡ lines_seen P n (other_sides P g)
  others_are n g h =
      ap₂ (λ (m e : ℕ). cell_tree zs ls T.faces R n m e) (lined.more_stands g h) (lined.next_stands g h)
      ∙ tree_is n (side_count T (home T g) - 2) (next T g) (next_below sound.numbered g h)

  inside_is : (c : ℕ) → c < cell_count T → inside_tree zs ls T R c ≡ lines_seen P (cell_count T - 1) (all_sides P (first T c))
  inside_is c h =
      let wide = sound.numbered.at_least c h in
      let s : SideOf T c (first T c) = record { not_before = omega arith; not_after = omega (arith, wide) } in
      let count : side_count T (home T (first T c)) ≡ side_count T c = ap (side_count T) (home_is sound.numbered h s) in
      let all : side_count T c - 1 ≡ suc (side_count T (home T (first T c)) - 2) = omega (arith, wide, count) in
      ap (λ (m : ℕ). cell_tree zs ls T.faces R (cell_count T - 1) m (first T c)) all
      ∙ tree_is (cell_count T - 1) (suc (side_count T (home T (first T c)) - 2)) (first T c) (side_exists sound.numbered h s)

  -- across the side stood on is the neighbour's
  module _ {s : ℕ} (W : WithinSide P (face_count T) (Listing.seen cs q) s) where
    across : get_or ls (4 * s + 1) 0 ≡ back T s
    across = across_where_passed w R sound near lined seen s W.is_a_face (passed_is_free cs T ds w R q s W.free)

    beyond : back T s < face_count T
    beyond = (plan_geometry sound w R q).back_is_a_face s W.is_a_face W.free

    not_wall : get_or ls (4 * s + 1) 0 ≡ wall → ⊥
    not_wall e = let k = few_faces w R sound near lined seen in omega (arith, across, beyond, k, e)

    within_is : ListsAs (within_tree zs ls T.faces R (cell_count T) s) (lines_seen P (cell_count T - 2) (other_sides P s ++ other_sides P (back T s)))
    within_is =
        let own = others_are (cell_count T - 2) s W.is_a_face in
        let theirs = ap (others_tree zs ls T.faces R (cell_count T - 2)) across ∙ others_are (cell_count T - 2) (back T s) beyond in
        subst (λ (t : Sight). ListsAs t (lines_seen P (cell_count T - 2) (other_sides P s ++ other_sides P (back T s)))) (sym (ap₂ both own theirs))
        (two_parts P (cell_count T - 2) (other_sides P s) (other_sides P (back T s)) (some_side P _ _) (some_side P _ _))

  -- ---- the stand

  module _ (p : Footing) (stands : Stands cs T ds w q p) where
    -- the code's lines around the stand list as the plan's do
    stand_tree_is : ListsAs (stand_tree zs ls T R p) (sight_from cs T ds w R q p)
    unfolding seen_from lines_around unentered
    stand_tree_is = by_kind (stands_on_the_floor sound w R q stands) stands
      where
        by_kind : {p : Footing} → Around.Stands P (face_count T) (Listing.seen cs q) (standing T p) → Stands cs T ds w q p → ListsAs (stand_tree zs ls T R p) (sight_from cs T ds w R q p)
        by_kind {p = Inside c} k (in_a_cell i) = lists_as_itself (inside_is c i.cell_exists)
        by_kind {p = Side c k} (stands_within W) (on_a_side i) = within_is W

    stands_in_the_tables : StandsIn ls T p
    stands_in_the_tables = by_kind (stands_on_the_floor sound w R q stands) stands
      where
        by_kind : {p : Footing} → Around.Stands P (face_count T) (Listing.seen cs q) (standing T p) → Stands cs T ds w q p → StandsIn ls T p
        by_kind {p = Inside c} k (in_a_cell i) = i.cell_exists
        by_kind {p = Side c k} (stands_within W) (on_a_side i) = (i.cell_exists, omega (arith, W.is_a_face, lined.whole), not_wall W, two_cells (plan_geometry sound w R q) W)

    rows_are : row_count (stand_tree zs ls T R p) ≡ listing_row_count cs T ds w R q p
    unfolding listing_row_count
    rows_are = stand_tree_is.same_count

    crossings_are : crossings (stand_tree zs ls T R p) ≡ listing_crossings cs T ds w R q p
    unfolding listing_crossings
    crossings_are = stand_tree_is.same_crossings

    numbers_are : numbers (stand_tree zs ls T R p) ≡ listing_numbers cs T ds w R q p
    unfolding listing_numbers
    numbers_are = stand_tree_is.same_numbers

    -- what following the lines around the stand asks of the tables and of n numbers of a table for the rows
    pub tables_serve : R ≤ most_reach → (n : ℕ) → 4 * corner_count cs ≤ n → (Lines zs ls × Starts zs ls T.faces × (R ≤ most_reach) × Numbered T) × ((StandsIn ls T p × (length ls ≡ 4 * face_count T)) × (Whole (stand_tree zs ls T R p) × ((4 * row_count (stand_tree zs ls T R p) ≤ n) × ((row_count (stand_tree zs ls T R p) ≤ most_corners) × (crossings (stand_tree zs ls T R p) < enough)))))
    tables_serve short n h =
        let rows : row_count (stand_tree zs ls T R p) ≤ corner_count cs = omega (arith, rows_are, rows_never_outnumber_corners sound w R q p stands) in (
          (lined_is_lines w R sound near lined seen, starts_stand w R sound near lined seen, short, sound.numbered),
          (
            (stands_in_the_tables, lined.whole),
            (stand_tree_is.whole_too (listing_is_whole sound w R q p stands), (omega (arith, rows), (omega (arith, rows, (counts _ _ _ sound.in_size).corners_at_most), omega (arith, crossings_are, few_crossings sound w R q p stands)))),
          ),
        )

    pub listing_written : (old : List ℕ) {new : List ℕ} {i j : ℕ} → (i ≡ row_count (stand_tree zs ls T R p)) × ((j ≡ crossings (stand_tree zs ls T R p)) × (new ≡ sets old 0 (numbers (stand_tree zs ls T R p)))) → (i ≡ listing_row_count cs T ds w R q p) × ((j ≡ listing_crossings cs T ds w R q p) × (new ≡ sets old 0 (listing_numbers cs T ds w R q p)))
    listing_written old h = (h.0 ∙ rows_are, (h.1.0 ∙ crossings_are, h.1.1 ∙ ap (sets old 0) numbers_are))

    -- so what the tree lists is the listing
    pub tree_listed : (old : List ℕ) → (Ok (record { rows = row_count (stand_tree zs ls T R p); crossings = crossings (stand_tree zs ls T R p) }), sets old 0 (numbers (stand_tree zs ls T R p))) ≡ rows_from cs T ds w R old q p
    tree_listed old = λ i. (Ok (record { rows = rows_are i; crossings = crossings_are i }), sets old 0 (numbers_are i))
