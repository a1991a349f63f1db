-- A listing in whatever table has room is the single listing.
use mathlib.Core.Bool.{Bool, true, false}
use mathlib.Core.List.{List}
use mathlib.Core.Path.{◌≡◌, refl, sym, ap, ◌∙◌, subst₂}
use Prim.Native.Nat.{ℕ, ◌*◌, ◌≤◌}
use native.Mathlib.Omega.{arith}
use lib.ListN.{length, replicate, length-replicate}
use lib.Seq.{sets}
use lib.IntN.{ℤ}
use Rattle.exact.proofs.Lent.{first_is_new}
use Rattle.plane.specs.Side.{Point}
use Rattle.limits.specs.Limits.{most_corners, most_cells}
use Rattle.limits.specs.declared.Plan.{Plan}
use Rattle.limits.specs.declared.Refusal.{Refusal}
use Rattle.limits.specs.declared.Refusal.TheVariants.{Room, Ceiling}
use Rattle.cells.specs.Lists.{Cells, corner_count}
use Rattle.cells.specs.Cut.{cells_of}
use Rattle.cells.specs.Check.{checked}
use Rattle.cells.specs.Sound.{Sound}
use Rattle.cells.proofs.Accepted.{accepted_is_sound, accepted_doors}
use Rattle.setting.specs.Setting.{wrong_setting}
use Rattle.reach.specs.Reach.{range}
use Rattle.stand.specs.Spot.{stood}
use Rattle.stand.specs.declared.spot.Stand.{Stand}
use Rattle.stand.proofs.Located.{found_place_holds_the_stand}
use Rattle.sight.specs.Listing.{view_of_spot, listing_numbers, listing_row_count, refuse, rows_from, listed_from, listed}
use Rattle.sight.specs.Ceiling.{exceeds, up_to, listed_up_to}
use Rattle.sight.proofs.Sightings.{rows_never_outnumber_corners, few_crossings}
use Rattle.sight.proofs.Views.{setting_accepted, spot_says, is_long}
use Rattle.sight.proofs.Written.{the_numbers_are_four_a_row}
use Rattle.morning.specs.declared.Morning.{Morning}
use Rattle.morning.specs.Morning.{rows_of, crossings_of, rows_in, query_of, single}
use Rattle.morning.specs.OverLines.{listed_on, single_on}
use Rattle.sight.specs.declared.list.Counts.{Counts}
use Rattle.sight.specs.declared.view.View.{View}
use Rattle.std.specs.Prelude.{Err, Ok, Option, Result}

-- a listing of few rows and crossings, that has four numbers a row
pub record Small (cs : List ℤ) (one : Result Counts Refusal × List ℕ) : Type 0 where
  pub few_rows : rows_of one.0 ≤ corner_count cs
  pub few_crossings : crossings_of one.0 ≤ most_corners * most_cells
  pub four_a_row : length (rows_in one) ≡ 4 * rows_of one.0

-- the listing `one` is small, and `other`, written to t, has its answer and its rows
pub record AsSingle (cs : List ℤ) (t : List ℕ) (one other : Result Counts Refusal × List ℕ) : Type 0 where
  pub small : Small cs one
  pub same_answer : other.0 ≡ one.0
  pub same_rows : other.1 ≡ sets t 0 (rows_in one)

-- ---- on a plan that is accepted

module _ {cs : List ℤ} {T : Cells} {ds : List ℕ} (sound : Sound cs T ds) (w : ℕ) (r : Option ℕ) (c : Option ℕ) (s : Stand) where
  module _ (t : List ℕ) (room : 4 * corner_count cs ≤ length t) where
    abbrev R : ℕ
    R = range r

    abbrev blank : List ℕ
    blank = replicate (4 * corner_count cs) 0

    blank_is_long : length blank ≡ 4 * corner_count cs
    blank_is_long = length-replicate (4 * corner_count cs) 0

    none_written : (x : Refusal) → AsSingle cs t (Err x, blank) (Err x, t)
    none_written x = record { small = record { few_rows = omega arith; few_crossings = omega arith; four_a_row = refl }; same_answer = refl; same_rows = refl }

    -- the same answer and rows stay so, whether the crossings exceed the ceiling or not
    both_up_to : (n k : ℕ) (rows rows' : List ℕ) → AsSingle cs t (Ok (record { rows = n; crossings = k }), rows) (Ok (record { rows = n; crossings = k }), rows') → AsSingle cs t (up_to c blank (Ok (record { rows = n; crossings = k }), rows)) (up_to c t (Ok (record { rows = n; crossings = k }), rows'))
    both_up_to n k rows rows' same = by_ceiling (exceeds k c)
      where
        by_ceiling : (b : Bool) → AsSingle cs t (refuse b Ceiling blank (Ok (record { rows = n; crossings = k }), rows)) (refuse b Ceiling t (Ok (record { rows = n; crossings = k }), rows'))
        by_ceiling true = none_written Ceiling
        by_ceiling false = same

    by_view : (v : Result View Refusal) → view_of_spot cs T ds w r (stood cs s) ≡ v → AsSingle cs t (up_to c blank (listed_from cs T ds w R blank v)) (up_to c t (listed_from cs T ds w R t v))
    by_view (Ok v) e =
        let q : Point = record { x = v.x; y = v.y } in
        let stands = found_place_holds_the_stand cs sound.numbered ds w q (spot_says cs T ds w r s e).stand_place in
        let few = rows_never_outnumber_corners sound w R q v.footing stands in
        let four = the_numbers_are_four_a_row cs T ds w R q v.footing in
        let new = first_is_new blank (listing_numbers cs T ds w R q v.footing) (4 * listing_row_count cs T ds w R q v.footing) four (omega (arith, few, blank_is_long)) in
        subst₂ (λ (a b : Bool). AsSingle cs t (up_to c blank (refuse a Room blank (rows_from cs T ds w R blank q v.footing))) (up_to c t (refuse b Room t (rows_from cs T ds w R t q v.footing)))) (sym (is_long cs blank (omega (arith, blank_is_long)))) (sym (is_long cs t room))
        (both_up_to _ _ _ _
        (record {
          small = record { few_rows = few; few_crossings = few_crossings sound w R q v.footing stands; four_a_row = ap length new ∙ four };
          same_answer = refl;
          same_rows = ap (sets t 0) (sym new);
        }))
    by_view (Err x) e = none_written x

    pub listed_on_as_single : AsSingle cs t (single_on cs T ds w r c s) (listed_on cs T ds w r c s t)
    unfolding single_on listed_on
    listed_on_as_single = by_view (view_of_spot cs T ds w r (stood cs s)) refl

  pub single_on_is_small : Small cs (single_on cs T ds w r c s)
  single_on_is_small = (listed_on_as_single (replicate (4 * corner_count cs) 0) (omega (arith, length-replicate {A = ℕ} (4 * corner_count cs) 0))).small

-- ---- of lists that are accepted

module _ (k : ℕ) (cs : List ℤ) (ts ds : List ℕ) (m : Morning) {p : Plan} (accepted : checked k cs ts ds ≡ Ok p) (right : wrong_setting m.setting (length ds) ≡ false) (s : Stand) where
  -- whatever table has room, the listing is by the view of the stand
  pub listed_by_spot : (t : List ℕ) → listed k cs ts ds (query_of m s) t ≡ listed_from cs (cells_of k ts) ds m.setting (range m.reach) t (view_of_spot cs (cells_of k ts) ds m.setting m.reach (stood cs s))
  unfolding listed
  listed_by_spot t =
      ap (listed_from cs (cells_of k ts) ds m.setting (range m.reach) t)
      (sym (setting_accepted k cs ts ds (query_of m s) accepted (ap (wrong_setting m.setting) (sym (accepted_doors k cs ts ds accepted))) right refl))

  pub single_by_spot : single k cs ts ds m s ≡ single_on cs (cells_of k ts) ds m.setting m.reach m.ceiling s
  unfolding single single_on listed_on listed_up_to
  single_by_spot = ap (up_to m.ceiling (replicate (4 * corner_count cs) 0)) (listed_by_spot (replicate (4 * corner_count cs) 0))

  -- a listing with any table that has room has the single listing's answer, and writes its rows
  pub listed_as_single : (t : List ℕ) → 4 * corner_count cs ≤ length t → AsSingle cs t (single k cs ts ds m s) (listed_up_to k cs ts ds (query_of m s) m.ceiling t)
  unfolding listed_on listed_up_to
  listed_as_single t room =
      subst₂ (AsSingle cs t) (sym single_by_spot) (sym (ap (up_to m.ceiling t) (listed_by_spot t))) (listed_on_as_single (accepted_is_sound k cs ts ds p accepted).0 m.setting m.reach m.ceiling s t room)
