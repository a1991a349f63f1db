-- What the door change gives (document 01, "Changing a door"): from a true list what a fresh listing gives, and otherwise a refusal.
use mathlib.Core.Bool.{Bool, true, false, not}
use mathlib.Core.List.{List}
use mathlib.Core.Path.{◌≡◌, refl, ap, sym, ◌∙◌}
use Prim.Native.Nat.{ℕ, ◌^◌, ◌<◌, ◌≤◌}
use borrow.Author.Tests.{lt-ltb, ltb-true, not-false}
use lib.ListN.{length}
use lib.IntN.{ℤ}
use Rattle.plane.specs.Side.{Point}
use Rattle.setting.specs.Setting.{wrong_setting}
use Rattle.cells.specs.Cut.{cells_of}
use Rattle.cells.specs.Check.{checked}
use Rattle.limits.specs.declared.Refusal.TheVariants as No
use Rattle.setting.proofs.Settings.{shutting_keeps_within, opening_keeps_within}
use Rattle.stand.specs.Spot.{stood}
use Rattle.reach.specs.Reach.{range}
use Rattle.stand.specs.Find.{located}
use Rattle.stand.specs.declared.locate.Footing.{Footing}
use Rattle.sight.specs.Listing.{unless, view_of_place, view_of_spot, view_of_plan, viewed, refuse, no_room, rows_from, listing_numbers, listed_from, listed}
use Rattle.sight.specs.declared.view.Query.{Query}
use Rattle.sight.proofs.Views.{Viewed, plan_refused, a_refusal_is_no_view, view_says}
use Rattle.doors.specs.Change.{in_state, wished, wished_for, underfoot, changed_at, changed}
use Rattle.doors.proofs.Changes.{is_the_same, is_another, no_such_door, already_so, not_true, change_made, by_tests}
use Rattle.doors.proofs.SameFooting.{located_under_the_wished}
use Rattle.sight.specs.declared.list.Counts.{Counts}
use Rattle.limits.specs.declared.Plan.{Plan}
use Rattle.limits.specs.declared.Refusal.{Refusal}
use Rattle.std.specs.Prelude.{Err, Ok, Result}

-- a setting without a bit at or above the door count has none after one door's change
pub the_wished_setting_is_not_wrong : (w i k : ℕ) (b : Bool) → i < k → wrong_setting w k ≡ false → wrong_setting (wished b w i) k ≡ false
unfolding wrong_setting
the_wished_setting_is_not_wrong w i k b exists e = ap not (lt-ltb _ _ (by_state b))
  where
    within : w < 2 ^ k
    within = ltb-true _ _ (not-false _ e)

    by_state : (b : Bool) → wished b w i < 2 ^ k
    by_state true = shutting_keeps_within w i k exists within
    by_state false = opening_keeps_within w i k within

module _ (k : ℕ) (cs : List ℤ) (ts ds : List ℕ) (a : Query) (given : List ℕ) (i : ℕ) (b : Bool) (table : List ℕ) {x y : ℤ} {p : Footing} (view : viewed k cs ts ds a ≡ Ok (record { x = x; y = y; footing = p })) where
  abbrev q : Point
  q = record { x = x; y = y }

  abbrev w : ℕ
  w = a.setting

  abbrev R : ℕ
  R = range a.reach

  -- a door underfoot, in whatever state and with whatever table
  pub a_door_underfoot_is_refused : underfoot cs (cells_of k ts) ds i q p ≡ true → changed k cs ts ds a given i b table ≡ (Err No.Line, table)
  a_door_underfoot_is_refused e = sym (by_tests k cs ts ds a given i b table view (sym e) refl)

  module _ (clear : underfoot cs (cells_of k ts) ds i q p ≡ false) where
    -- a table without room
    pub a_short_table_is_refused : no_room cs table ≡ true → changed k cs ts ds a given i b table ≡ (Err No.Room, table)
    a_short_table_is_refused e = sym (by_tests k cs ts ds a given i b table view (sym clear) (sym e))

    module _ (room : no_room cs table ≡ false) where
      of_view : changed_at cs (cells_of k ts) ds w R given i b table q p ≡ changed k cs ts ds a given i b table
      of_view = by_tests k cs ts ds a given i b table view (sym clear) (sym room)

      -- no such door
      pub a_door_that_is_not_there_is_refused : length ds ≤ i → changed k cs ts ds a given i b table ≡ (Err No.Change, table)
      a_door_that_is_not_there_is_refused h = sym (no_such_door cs (cells_of k ts) ds w R given i b table q p h ∙ of_view)

      module _ (exists : i < length ds) where
        -- already in that state
        pub a_door_already_so_is_refused : in_state b w i ≡ true → changed k cs ts ds a given i b table ≡ (Err No.Change, table)
        a_door_already_so_is_refused e = sym (already_so cs (cells_of k ts) ds w R given i b table q p exists (sym e) ∙ of_view)

        module _ (otherwise : in_state b w i ≡ false) where
          -- a list that is not true is refused
          pub a_list_that_is_not_true_is_refused : (given ≡ listing_numbers cs (cells_of k ts) ds w R q p → ⊥) → changed k cs ts ds a given i b table ≡ (Err No.Rows, table)
          a_list_that_is_not_true_is_refused apart = sym (not_true cs (cells_of k ts) ds w R given i b table q p exists (sym otherwise) (is_another apart) refl ∙ of_view)

          -- the view is the same under the new setting
          pub same_view : viewed k cs ts ds (wished_for b a i) ≡ Ok (record { x = x; y = y; footing = p })
          unfolding viewed
          same_view = by_plan (checked k cs ts ds) refl
            where
              says : Viewed k cs ts ds a x y p
              says = view_says k cs ts ds a view

              by_spot : view_of_spot cs (cells_of k ts) ds (wished b w i) a.reach (stood cs a.stand) ≡ Ok (record { x = x; y = y; footing = p })
              by_spot =
                  ap (view_of_spot cs (cells_of k ts) ds (wished b w i) a.reach) says.spotted.stand_is
                  ∙ ap (λ (t : Bool). unless t No.Reach (view_of_place x y (located cs (cells_of k ts) ds (wished b w i) q))) says.spotted.reach_right
                  ∙ ap (view_of_place x y) (located_under_the_wished says.sound q i exists w b says.spotted.stand_place clear)

              by_plan : (v : Result Plan Refusal) → checked k cs ts ds ≡ v → view_of_plan cs (cells_of k ts) ds (wished_for b a i) v ≡ Ok (record { x = x; y = y; footing = p })
              by_plan (Ok m) e =
                  ap (λ (t : Bool). unless t No.Setting (view_of_spot cs (cells_of k ts) ds (wished b w i) a.reach (stood cs a.stand))) (the_wished_setting_is_not_wrong w i (length ds) b exists says.setting_right)
                  ∙ by_spot
              by_plan (Err r) e = absurd (a_refusal_is_no_view (plan_refused k cs ts ds a e ∙ view))

          -- from a true list the change gives what a fresh listing gives: rows, order, crossings and the table
          pub the_change_is_a_fresh_listing : given ≡ listing_numbers cs (cells_of k ts) ds w R q p → changed k cs ts ds a given i b table ≡ listed k cs ts ds (wished_for b a i) table
          unfolding listed
          the_change_is_a_fresh_listing same =
              sym (change_made cs (cells_of k ts) ds w R given i b table q p exists (sym otherwise) (is_the_same same) refl refl (refl, (refl, refl)) ∙ of_view)
              ∙ ap (λ (t : Bool). refuse t No.Room table (rows_from cs (cells_of k ts) ds (wished b w i) R table q p)) (sym room)
              ∙ ap (listed_from cs (cells_of k ts) ds (wished b w i) R table) (sym same_view)

-- the promise of the door change leaves one reply and one table
pub change_has_one_reply : (k : ℕ) (cs : List ℤ) (ts ds : List ℕ) (a : Query) (given : List ℕ) (i : ℕ) (b : Bool) (table : List ℕ) {r s : Result Counts Refusal × List ℕ} → r ≡ changed k cs ts ds a given i b table → s ≡ changed k cs ts ds a given i b table → r ≡ s
change_has_one_reply k cs ts ds a given i b table h j = h ∙ sym j
