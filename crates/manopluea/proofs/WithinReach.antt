-- What a reach changes in a listing (document 02, A5): a longer one only refines, and where none is stated the rows are document 01's with 0 after each.
use mathlib.Core.Bool.{Bool, not, ◌||◌, or-true, or-false}
use mathlib.Core.List.{List, [], ◌∷◌}
use mathlib.Core.Path.{◌≡◌, refl, sym, ap, ap₂, ◌∙◌, subst, subst₂, fun_ext}
use Prim.Native.Nat.{ℕ, zero, suc, ◌*◌, ◌≤◌}
use lib.ListN.{take}
use lib.Dec.{eqb}
use lib.IntN.{ℤ}
use Rattle.plane.specs.Side.{Point}
use Rattle.cells.specs.Lists.{Cells, cell_count, face_count}
use Rattle.cells.specs.Cut.{cells_of}
use Rattle.cells.specs.Sound.{Sound}
use Rattle.setting.specs.Setting.{ends}
use Rattle.stand.specs.declared.spot.Stand.{Stand}
use Rattle.stand.specs.declared.locate.Footing.{Footing}
use Rattle.stand.proofs.Located.{Stands}
use Rattle.stand.proofs.Unique.{a_stand_is_one_point, a_stand_has_one_place}
use Rattle.reach.specs.Reach.{out_of_reach, far, range, Longer}
use Rattle.reach.proofs.Reaching.{in_reach_is_0, in_reach_by_its_number, still_in_reach}
use Rattle.fan.specs.Sight.{Floor, Sight, Row, seen_from, rows, row_count, crossings, unentered}
use Rattle.fan.specs.Once.{At}
use Rattle.fan.specs.Once.At.{first, later}
use Rattle.fan.specs.Written.{written}
use Rattle.runs.specs.Floors.{ending, Stops}
use Rattle.runs.specs.Route.{Routed, routed}
use Rattle.runs.specs.Door.{those}
use Rattle.runs.specs.Kept.{StandIn}
use Rattle.runs.specs.Opening.{open_rows}
use Rattle.runs.proofs.Lists.{mapped_at, those_alike}
use Rattle.runs.proofs.Routes.{routed_rows_are_the_rows}
use Rattle.runs.proofs.Further.{Stopped, passed, further_opens_the_stopped, further_keeps_the_others, further_has_no_fewer}
use Rattle.runs.proofs.InThePlane.{stopped_in_the_plane}
use Rattle.sight.specs.Listing.{unreached, plan_floor, standing, sight_from, listing_rows, listing_numbers, listing_row_count, listing_crossings, viewed, listed}
use Rattle.sight.specs.declared.view.Query.{Query}
use Rattle.sight.proofs.Views.{view_says, Seen, rows_are_seen}
use Rattle.sight.proofs.PlanFloor.{plan_geometry, stands_on_the_floor}
use Rattle.sight.proofs.Sightings.{row_is_seen}
use Rattle.sight.proofs.Written.{the_numbers_are_the_rows}
use Rattle.doors.proofs.Fresh.{numbers_are_routed}
use Rattle.manopluea.specs.Longer.{in_reach, Refined}
use Rattle.manopluea.specs.Unlimited.{walls_alone, with_0_after_each, AsBefore}
use Rattle.manopluea.proofs.Demands.{stands_there, whole, row_count_is, crossings_are, first_numbers_are}
use Rattle.std.specs.Prelude.{None, Ok, Option}

-- ---- on an accepted plan, from a place where the stand was found

module _ {cs : List ℤ} {T : Cells} {ds : List ℕ} (sound : Sound cs T ds) (w : ℕ) (q : Point) (p : Footing) (stands : Stands cs T ds w q p) where
  abbrev seen_within : ℕ → List Routed
  seen_within R = routed (sight_from cs T ds w R q p)

  -- the row's fourth number is 0 where its line is in reach
  told_by_its_number : (R : ℕ) (x : Routed) (i : ℕ) → At x (seen_within R) i → in_reach x ≡ not (unreached cs T R q x.row.face)
  unfolding listing_rows
  told_by_its_number R x i at =
      let row_at = subst (λ (rs : List Row). At x.row rs i) (routed_rows_are_the_rows (sight_from cs T ds w R q p)) (mapped_at (λ (x : Routed). x.row) at) in
      ap (λ (k : ℕ). eqb k 0) (row_is_seen sound w R q p stands row_at).reached ∙ in_reach_by_its_number R _ _

  -- within the shorter range sight stops at the lines that are out of reach, and nothing else differs
  module _ {R R' : ℕ} (longer : Longer R R') where
    stops_short : Stops (face_count T) (plan_floor cs T ds w R' q) (unreached cs T R q) (plan_floor cs T ds w R q).ends (plan_floor cs T ds w R q).far
    stops_short =
        record {
          stopped = λ f e. ap (λ (b : Bool). ends T ds w f || b) e ∙ or-true (ends T ds w f);
          ends_elsewhere = λ f h e. ap (λ (b : Bool). ends T ds w f || b) (e ∙ sym (still_in_reach _ _ longer e));
          far_elsewhere = λ f h e. in_reach_is_0 R _ _ e ∙ sym (in_reach_is_0 R' _ _ (still_in_reach _ _ longer e));
        }

    stopped_short : Stopped (face_count T) (plan_floor cs T ds w R' q) (unreached cs T R q) (plan_floor cs T ds w R q).ends (plan_floor cs T ds w R q).far (cell_count T) (standing T p)
    stopped_short = stopped_in_the_plane (plan_geometry sound w R' q) (stands_on_the_floor sound w R' q stands) stops_short

    rows_in_reach_stand : StandIn (those in_reach (seen_within R)) (seen_within R')
    rows_in_reach_stand =
        subst (λ (xs : List Routed). StandIn xs (seen_within R'))
        (sym (those_alike in_reach (passed (plan_floor cs T ds w R' q) (unreached cs T R q)) (seen_within R) (told_by_its_number R)))
        (further_keeps_the_others stopped_short)

    the_others_are_opened : seen_within R' ≡ open_rows (plan_floor cs T ds w R' q) (unreached cs T R q) (unentered (cell_count T) (standing T p)) (seen_within R)
    the_others_are_opened = further_opens_the_stopped stopped_short

    no_fewer : (listing_row_count cs T ds w R q p ≤ listing_row_count cs T ds w R' q p) × (listing_crossings cs T ds w R q p ≤ listing_crossings cs T ds w R' q p)
    unfolding listing_row_count listing_crossings
    no_fewer = further_has_no_fewer stopped_short

  -- in an unlimited range all is in reach
  ends_in_0 : (r : Row) (i : ℕ) → At r (listing_rows cs T ds w 0 q p) i → r.far ≡ 0
  unfolding out_of_reach
  ends_in_0 r i at = (row_is_seen sound w 0 q p stands at).reached ∙ in_reach_is_0 0 _ _ refl

-- so sight ends at walls alone
unlimited_floor : (cs : List ℤ) (T : Cells) (ds : List ℕ) (w : ℕ) (q : Point) → plan_floor cs T ds w 0 q ≡ walls_alone cs T ds w q
unfolding out_of_reach far
unlimited_floor cs T ds w q = ap (λ (stops : ℕ → Bool). ending (plan_floor cs T ds w 0 q) stops (λ f. 0)) (fun_ext (λ f. or-false (ends T ds w f)))

-- rows that all end in 0
written_with_0 : (rs : List Row) → ((r : Row) (i : ℕ) → At r rs i → r.far ≡ 0) → written rs ≡ with_0_after_each rs
unfolding written with_0_after_each
written_with_0 [] zeros = refl
written_with_0 (r ∷ rs) zeros =
    ap₂ (λ (k : ℕ) (l : List ℕ). r.face ∷ r.right ∷ r.left ∷ k ∷ l) (zeros r zero first) (written_with_0 rs (λ s i at. zeros s (suc i) (later at)))

-- ---- from the input alone

module _ (kind : ℕ) (cs : List ℤ) (ts ds : List ℕ) (w : ℕ) (s : Stand) where
  abbrev within : Option ℕ → Query
  within reach = record { setting = w; stand = s; reach = reach }

  -- the stand is the same point at the same place, however far is seen
  same_view : (reach other : Option ℕ) {x y x' y' : ℤ} {p p' : Footing} → viewed kind cs ts ds (within reach) ≡ Ok (record { x = x; y = y; footing = p }) → viewed kind cs ts ds (within other) ≡ Ok (record { x = x'; y = y'; footing = p' }) → viewed kind cs ts ds (within other) ≡ Ok (record { x = x; y = y; footing = p })
  same_view reach other near further =
      let here = (view_says kind cs ts ds (within reach) near).spotted in
      let there = (view_says kind cs ts ds (within other) further).spotted in
      further
      ∙ ap₂ (λ (q : Point) (p : Footing). Ok (record { x = q.x; y = q.y; footing = p }))
      (a_stand_is_one_point cs s there.stand_is here.stand_is)
      (a_stand_has_one_place cs s there.stand_is here.stand_is (cells_of kind ts) ds w there.stand_place here.stand_place)

  -- a listing that replies rows: from where it is seen, and its numbers and counts
  module _ (reach : Option ℕ) (table : List ℕ) {n k : ℕ} (e : (listed kind cs ts ds (within reach) table).0 ≡ Ok (record { rows = n; crossings = k })) where
    from : Seen kind cs ts ds (within reach) table
    from = rows_are_seen kind cs ts ds (within reach) table e

    module _ {x y : ℤ} {p : Footing} (view : viewed kind cs ts ds (within reach) ≡ Ok (record { x = x; y = y; footing = p })) where
      numbers_listed : take (4 * n) (listed kind cs ts ds (within reach) table).1 ≡ listing_numbers cs (cells_of kind ts) ds w (range reach) (record { x = x; y = y }) p
      numbers_listed = first_numbers_are kind cs ts ds (within reach) table view from.room (whole kind cs ts ds (within reach) table e)

      rows_counted : n ≡ listing_row_count cs (cells_of kind ts) ds w (range reach) (record { x = x; y = y }) p
      rows_counted = row_count_is kind cs ts ds (within reach) table view from.room (whole kind cs ts ds (within reach) table e)

      crossings_counted : k ≡ listing_crossings cs (cells_of kind ts) ds w (range reach) (record { x = x; y = y }) p
      crossings_counted = crossings_are kind cs ts ds (within reach) table view from.room (whole kind cs ts ds (within reach) table e)

  -- a longer reach only refines: what is listed as a wall in reach is listed so within every longer one
  pub a_longer_reach_refines : (reach longer : Option ℕ) → Longer (range reach) (range longer) → (table table' : List ℕ) {n k n' k' : ℕ} → (listed kind cs ts ds (within reach) table).0 ≡ Ok (record { rows = n; crossings = k }) → (listed kind cs ts ds (within longer) table').0 ≡ Ok (record { rows = n'; crossings = k' }) → Refined kind cs ts ds w s reach longer n k (listed kind cs ts ds (within reach) table).1 n' k' (listed kind cs ts ds (within longer) table').1
  a_longer_reach_refines reach longer is_longer table table' e e' =
      let near = from reach table e in
      let says = view_says kind cs ts ds (within reach) near.view in
      let stands = stands_there kind cs ts ds (within reach) table near.view near.room in
      let further = same_view reach longer near.view (from longer table' e').view in
      let q : Point = record { x = near.x; y = near.y } in
      let few = no_fewer says.sound w q near.p stands is_longer in
      record {
        near = routed (sight_from cs (cells_of kind ts) ds w (range reach) q near.p);
        further = routed (sight_from cs (cells_of kind ts) ds w (range longer) q near.p);
        near_listed = numbers_listed reach table e near.view ∙ numbers_are_routed cs (cells_of kind ts) ds w (range reach) q near.p;
        further_listed = numbers_listed longer table' e' further ∙ numbers_are_routed cs (cells_of kind ts) ds w (range longer) q near.p;
        x = near.x;
        y = near.y;
        the_stand = says.spotted.stand_is;
        place = near.p;
        its_place = says.spotted.stand_place;
        near_seen = refl;
        further_seen = refl;
        in_reach_stand = rows_in_reach_stand says.sound w q near.p stands is_longer;
        others_opened = the_others_are_opened says.sound w q near.p stands is_longer;
        no_fewer_rows = subst₂ (λ (a b : ℕ). a ≤ b) (sym (rows_counted reach table e near.view)) (sym (rows_counted longer table' e' further)) few.0;
        no_fewer_crossings = subst₂ (λ (a b : ℕ). a ≤ b) (sym (crossings_counted reach table e near.view)) (sym (crossings_counted longer table' e' further)) few.1;
      }

  -- where no reach is stated the rows are document 01's, with 0 after each
  pub no_reach_is_as_before : (table : List ℕ) {n k : ℕ} → (listed kind cs ts ds (within None) table).0 ≡ Ok (record { rows = n; crossings = k }) → AsBefore kind cs ts ds w s n k (listed kind cs ts ds (within None) table).1
  unfolding listing_rows listing_row_count listing_crossings
  no_reach_is_as_before table e =
      let seen = from None table e in
      let says = view_says kind cs ts ds (within None) seen.view in
      let stands = stands_there kind cs ts ds (within None) table seen.view seen.room in
      let q : Point = record { x = seen.x; y = seen.y } in
      let on : Floor → Sight = λ F. seen_from F (cell_count (cells_of kind ts)) (standing (cells_of kind ts) seen.p) in
      let floor = unlimited_floor cs (cells_of kind ts) ds w q in
      record {
        x = seen.x;
        y = seen.y;
        the_stand = says.spotted.stand_is;
        place = seen.p;
        its_place = says.spotted.stand_place;
        the_rows =
            numbers_listed None table e seen.view
            ∙ the_numbers_are_the_rows cs (cells_of kind ts) ds w 0 q seen.p
            ∙ written_with_0 (listing_rows cs (cells_of kind ts) ds w 0 q seen.p) (ends_in_0 says.sound w q seen.p stands)
            ∙ ap (λ (F : Floor). with_0_after_each (rows (on F))) floor;
        the_row_count = rows_counted None table e seen.view ∙ ap (λ (F : Floor). row_count (on F)) floor;
        the_crossings = crossings_counted None table e seen.view ∙ ap (λ (F : Floor). crossings (on F)) floor;
      }
