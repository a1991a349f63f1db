-- How much a listing prints: it has no more rows than the largest plan has corners, and they stand within the table.
use mathlib.Core.Bool.{Bool, true, false}
use mathlib.Core.List.{List}
use mathlib.Core.Path.{◌≡◌, refl, sym, ap, ◌∙◌}
use Prim.Native.Nat.{ℕ, ◌*◌, ◌≤◌}
use native.Mathlib.Omega.{arith}
use lib.ListN.{length}
use lib.IntN.{ℤ}
use Rattle.limits.specs.Limits.{most_corners}
use Rattle.plane.specs.Side.{Point}
use Rattle.limits.specs.declared.Refusal.{Refusal}
use Rattle.limits.specs.declared.Refusal.TheVariants as R
use Rattle.cells.specs.Cut.{cells_of}
use Rattle.cells.proofs.Plans.{counts}
use Rattle.records.specs.Record.{framed}
use Rattle.planfile.specs.File.{kind_in, corners_in, cells_in, doors_in}
use Rattle.stand.specs.declared.spot.Stand.{Stand}
use Rattle.stand.specs.declared.locate.Footing.{Footing}
use Rattle.stand.proofs.Located.{found_place_holds_the_stand}
use Rattle.sight.specs.Listing.{viewed, refuse, no_room, rows_from, listing_row_count, listed_from, listed}
use Rattle.reach.specs.Reach.{range}
use Rattle.sight.specs.declared.view.Query.{Query}
use Rattle.sight.proofs.Sightings.{rows_never_outnumber_corners}
use Rattle.sight.proofs.Views.{view_says, has_room}
use Rattle.printing.specs.Print.{asks, file_listed}
use Rattle.printing.proofs.Files.{framed_is_listed, unframed_is_refused}
use Rattle.sight.specs.declared.list.Counts.{Counts}
use Rattle.sight.specs.declared.view.View.{View}
use Rattle.std.specs.Prelude.{Err, Ok, Result}
use Rattle.limits.proofs.Handed.{ok_same}

pub few_rows : (kind : ℕ) (cs : List ℤ) (ts ds : List ℕ) (a : Query) (table : List ℕ) {n k : ℕ} → (listed kind cs ts ds a table).0 ≡ Ok (record { rows = n; crossings = k }) → (n ≤ most_corners) × (4 * n ≤ length table)
unfolding listed
few_rows kind cs ts ds a table {n} {k} e = by_view (viewed kind cs ts ds a) refl e
  where
    no_rows : {r : Refusal} → ◌≡◌ {A = Result Counts Refusal} (Err r) (Ok (record { rows = n; crossings = k })) → ⊥
    no_rows e = let z : ◌≡◌ {A = ℕ} 0 1 = cc in omega arith

    by_room : (x y : ℤ) (p : Footing) → viewed kind cs ts ds a ≡ Ok (record { x = x; y = y; footing = p }) → (b : Bool) → no_room cs table ≡ b → (refuse b R.Room table (rows_from cs (cells_of kind ts) ds a.setting (range a.reach) table (record { x = x; y = y }) p)).0 ≡ Ok (record { rows = n; crossings = k }) → (n ≤ most_corners) × (4 * n ≤ length table)
    by_room x y p h true r e = absurd (no_rows e)
    by_room x y p h false r e =
        let says = view_says kind cs ts ds a h in
        let q : Point = record { x = x; y = y } in
        let most = rows_never_outnumber_corners says.sound a.setting (range a.reach) q p (found_place_holds_the_stand cs says.sound.numbered ds a.setting q says.spotted.stand_place) in
        let size = counts _ _ _ says.sound.in_size in
        let same : listing_row_count cs (cells_of kind ts) ds a.setting (range a.reach) q p ≡ n = ap (λ (m : Counts). m.rows) (ok_same e) in
        (omega (arith, size.corners_at_most), omega (arith, has_room cs table r))

    by_view : (v : Result View Refusal) → viewed kind cs ts ds a ≡ v → (listed_from cs (cells_of kind ts) ds a.setting (range a.reach) table v).0 ≡ Ok (record { rows = n; crossings = k }) → (n ≤ most_corners) × (4 * n ≤ length table)
    by_view (Ok v) h e = by_room v.x v.y v.footing h (no_room cs table) refl e
    by_view (Err r) h e = absurd (no_rows e)

-- and so it is for a plan file
pub few_rows_of_a_file : (file : List ℕ) (w : ℕ) (s : Stand) (table : List ℕ) {reply : Result Counts Refusal} {left : List ℕ} → (reply, left) ≡ file_listed file w s table → {n k : ℕ} → reply ≡ Ok (record { rows = n; crossings = k }) → (n ≤ most_corners) × (4 * n ≤ length table)
few_rows_of_a_file file w s table {reply} done {n} {k} e = by_frame (framed file) refl
  where
    said : {q : Result Counts Refusal × List ℕ} → file_listed file w s table ≡ q → reply ≡ q.0
    said h = ap (λ (q : Result Counts Refusal × List ℕ). q.0) (done ∙ h)

    by_frame : (b : Bool) → framed file ≡ b → (n ≤ most_corners) × (4 * n ≤ length table)
    by_frame true fr = few_rows (kind_in file) (corners_in file) (cells_in file) (doors_in file) (asks w s) table (sym (said (framed_is_listed file w s table fr)) ∙ e)
    by_frame false fr =
        let none : ◌≡◌ {A = Result Counts Refusal} (Err R.Frame) (Ok (record { rows = n; crossings = k })) = sym (said (unframed_is_refused file w s table fr)) ∙ e in
        let z : ◌≡◌ {A = ℕ} 0 1 = cc in
        absurd (omega arith)
