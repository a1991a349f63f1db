-- Replies 1 to 8, 15, 9 and 10, or the stand and where it was found; and the whole listing, by the room that its table has.
use mathlib.Core.Bool.{Bool, true, false}
use mathlib.Core.List.{List, [], ◌∷◌}
use mathlib.Core.Path.{◌≡◌, refl, ap, ap₂, sym, ◌∙◌, subst, subst₂}
use native.Mathlib.Omega.{arith}
use Prim.Native.Nat.{ℕ, ◌*◌, ◌<◌, ◌≤◌}
use borrow.Author.Tests.{lt-ltb, le-ltb, ltb-false}
use lib.ListN.{length}
use lib.IntN.{ℤ}
use mir.Syntax.{w64}
use mir.Val.{to_z, of_z}
use Rattle.exact.proofs.Bounds.{coordinate}
use Rattle.plane.specs.Side.{Point, point, Near}
use Rattle.cells.specs.Lists.{Cells, corner_count}
use Rattle.setting.specs.Setting.{wrong_setting}
use Rattle.cells.specs.Cut.{cells_of}
use Rattle.cells.specs.Check.{checked}
use Rattle.cells.specs.Sound.{Sound}
use Rattle.limits.specs.declared.Plan.{Plan}
use Rattle.limits.specs.declared.Refusal.{Refusal}
use Rattle.limits.specs.declared.Refusal.TheVariants as No
use Rattle.cells.proofs.Accepted.{accepted_is_sound, accepted_doors}
use Rattle.setting.proofs.Settings.{wrong_for_the_plan}
use Rattle.stand.specs.Spot.{stood}
use Rattle.stand.specs.Find.{located}
use Rattle.limits.specs.Limits.{most_reach}
use Rattle.reach.specs.Reach.{range, wrong_reach}
use Rattle.reach.proofs.Reaching.{right_reach}
use Rattle.stand.specs.declared.spot.Stand.{Stand}
use Rattle.stand.specs.declared.locate.Footing.{Footing}
use Rattle.stand.proofs.Spots.{stand_is_near}
use Rattle.stand.proofs.Finds.{as_read, near_as_read}
use Rattle.sight.specs.Listing.{view_of_place, view_of_spot, view_of_plan, unless, viewed, refuse, no_room, rows_from, listed_from, listed}
use Rattle.sight.specs.declared.view.Query.{Query}
use Rattle.sight.specs.declared.list.Counts.{Counts}
use Rattle.sight.specs.declared.view.View.{View}
use Rattle.std.specs.Prelude.{Err, None, Ok, Option, Result, Some}

module _ (cs : List ℤ) (T : Cells) (ds : List ℕ) (w : ℕ) (reach : Option ℕ) (s : Stand) where
  pub stand_refused : stood cs s ≡ None → Err No.Stand ≡ view_of_spot cs T ds w reach (stood cs s)
  stand_refused e = ap (view_of_spot cs T ds w reach) (sym e)

  module _ {u v : ℤ} (stands : stood cs s ≡ Some (u, v)) where
    near : Near (record { x = u; y = v })
    near = stand_is_near cs s stands

    pub near_read : Near (point (to_z w64 (of_z w64 u) ∷ to_z w64 (of_z w64 v) ∷ []))
    near_read = near_as_read near

    module _ {b : Bool} (is_b : b ≡ wrong_reach reach) where
      pub reach_refused : b ≡ true → Err No.Reach ≡ view_of_spot cs T ds w reach (stood cs s)
      reach_refused h =
          ap (λ (b : Bool). unless b No.Reach (view_of_place u v (located cs T ds w (record { x = u; y = v })))) (sym (sym is_b ∙ h))
          ∙ ap (view_of_spot cs T ds w reach) (sym stands)

    module _ (right : wrong_reach reach ≡ false) {f : Result Footing Refusal} (is_f : f ≡ located cs T ds w (point (to_z w64 (of_z w64 u) ∷ to_z w64 (of_z w64 v) ∷ []))) where
      by_located : view_of_place u v f ≡ view_of_spot cs T ds w reach (stood cs s)
      by_located =
          ap (view_of_place u v) (is_f ∙ ap (located cs T ds w) (as_read near))
          ∙ ap (λ (b : Bool). unless b No.Reach (view_of_place u v (located cs T ds w (record { x = u; y = v })))) (sym right)
          ∙ ap (view_of_spot cs T ds w reach) (sym stands)

      pub place_refused : {r : Refusal} → f ≡ Err r → Err r ≡ view_of_spot cs T ds w reach (stood cs s)
      place_refused e = ap (view_of_place u v) (sym e) ∙ by_located

      pub stands_at_a_place : {p : Footing} → f ≡ Ok p → Ok (record { x = to_z w64 (of_z w64 u); y = to_z w64 (of_z w64 v); footing = p }) ≡ view_of_spot cs T ds w reach (stood cs s)
      stands_at_a_place {p} e =
          ap₂ (λ x y. Ok (record { x = x; y = y; footing = p })) (coordinate w64 tt near.x_near).is (coordinate w64 tt near.y_near).is
          ∙ ap (view_of_place u v) (sym e)
          ∙ by_located

module _ (k : ℕ) (cs : List ℤ) (ts ds : List ℕ) (a : Query) where
  pub plan_refused : {r : Refusal} → checked k cs ts ds ≡ Err r → Err r ≡ viewed k cs ts ds a
  unfolding viewed
  plan_refused e = ap (view_of_plan cs (cells_of k ts) ds a) (sym e)

  module _ {p : Plan} (accepted : checked k cs ts ds ≡ Ok p) {b : Bool} (is_b : b ≡ wrong_setting a.setting p.doors) where
    by_setting : unless b No.Setting (view_of_spot cs (cells_of k ts) ds a.setting a.reach (stood cs a.stand)) ≡ viewed k cs ts ds a
    unfolding viewed
    by_setting =
        ap (λ b. unless b No.Setting (view_of_spot cs (cells_of k ts) ds a.setting a.reach (stood cs a.stand))) (sym (wrong_for_the_plan ds a.setting (accepted_doors k cs ts ds accepted) is_b))
        ∙ ap (view_of_plan cs (cells_of k ts) ds a) (sym accepted)

    pub setting_refused : b ≡ true → Err No.Setting ≡ viewed k cs ts ds a
    setting_refused h = ap (λ b. unless b No.Setting (view_of_spot cs (cells_of k ts) ds a.setting a.reach (stood cs a.stand))) (sym h) ∙ by_setting

    pub setting_accepted : {r : Result View Refusal} → b ≡ false → r ≡ view_of_spot cs (cells_of k ts) ds a.setting a.reach (stood cs a.stand) → r ≡ viewed k cs ts ds a
    setting_accepted h is = is ∙ ap (λ b. unless b No.Setting (view_of_spot cs (cells_of k ts) ds a.setting a.reach (stood cs a.stand))) (sym h) ∙ by_setting

pub a_refusal_is_no_view : {r : Refusal} {x y : ℤ} {p : Footing} → ◌≡◌ {A = Result View Refusal} (Err r) (Ok (record { x = x; y = y; footing = p })) → ⊥
a_refusal_is_no_view e = let z : ◌≡◌ {A = ℕ} 0 1 = cc in omega arith

-- what the view of a stand says: the stand is this point, within the limits, the reach is right, and the stand was found there
pub record Spotted (cs : List ℤ) (T : Cells) (ds : List ℕ) (w : ℕ) (reach : Option ℕ) (s : Stand) (x y : ℤ) (p : Footing) : Type 0 where
  pub stand_is : stood cs s ≡ Some (x, y)
  pub reach_right : wrong_reach reach ≡ false
  pub stand_near : Near (record { x = x; y = y })
  pub stand_place : located cs T ds w (record { x = x; y = y }) ≡ Ok p

module _ (cs : List ℤ) (T : Cells) (ds : List ℕ) (w : ℕ) (reach : Option ℕ) (s : Stand) where
  pub spot_says : {x y : ℤ} {p : Footing} → view_of_spot cs T ds w reach (stood cs s) ≡ Ok (record { x = x; y = y; footing = p }) → Spotted cs T ds w reach s x y p
  spot_says {x} {y} {p} e = by_spot (stood cs s) refl e
    where
      by_place : (u v : ℤ) → stood cs s ≡ Some (u, v) → wrong_reach reach ≡ false → (f : Result Footing Refusal) → located cs T ds w (record { x = u; y = v }) ≡ f → view_of_place u v f ≡ Ok (record { x = x; y = y; footing = p }) → Spotted cs T ds w reach s x y p
      by_place u v st right (Ok r) lo h =
          let same : ◌≡◌ {A = View} (record { x = u; y = v; footing = r }) (record { x = x; y = y; footing = p }) = cc in
          let same_x : u ≡ x = ap (λ (v : View). v.x) same in
          let same_y : v ≡ y = ap (λ (v : View). v.y) same in
          let same_p : r ≡ p = ap (λ (v : View). v.footing) same in
          record {
            stand_is = st ∙ ap₂ (λ (u v : ℤ). Some (u, v)) same_x same_y;
            reach_right = right;
            stand_near = subst₂ (λ (u v : ℤ). Near (record { x = u; y = v })) same_x same_y (stand_is_near cs s st);
            stand_place = subst₂ (λ (u v : ℤ). located cs T ds w (record { x = u; y = v }) ≡ Ok p) same_x same_y (lo ∙ ap Ok same_p);
          }
      by_place u v st right (Err r) lo h = absurd (a_refusal_is_no_view h)

      by_reach : (u v : ℤ) → stood cs s ≡ Some (u, v) → (b : Bool) → wrong_reach reach ≡ b → unless b No.Reach (view_of_place u v (located cs T ds w (record { x = u; y = v }))) ≡ Ok (record { x = x; y = y; footing = p }) → Spotted cs T ds w reach s x y p
      by_reach u v st true right h = absurd (a_refusal_is_no_view h)
      by_reach u v st false right h = by_place u v st right (located cs T ds w (record { x = u; y = v })) refl h

      by_spot : (t : Option (ℤ × ℤ)) → stood cs s ≡ t → view_of_spot cs T ds w reach t ≡ Ok (record { x = x; y = y; footing = p }) → Spotted cs T ds w reach s x y p
      by_spot (Some (u, v)) st h = by_reach u v st (wrong_reach reach) refl h
      by_spot None st h = absurd (a_refusal_is_no_view h)

-- what a view says: the plan is accepted, the setting is right, and what the view of the stand says
pub record Viewed (k : ℕ) (cs : List ℤ) (ts ds : List ℕ) (a : Query) (x y : ℤ) (p : Footing) : Type 0 where
  pub sound : Sound cs (cells_of k ts) ds
  pub setting_right : wrong_setting a.setting (length ds) ≡ false
  pub spotted : Spotted cs (cells_of k ts) ds a.setting a.reach a.stand x y p

module _ (k : ℕ) (cs : List ℤ) (ts ds : List ℕ) (a : Query) where
  pub view_says : {x y : ℤ} {p : Footing} → viewed k cs ts ds a ≡ Ok (record { x = x; y = y; footing = p }) → Viewed k cs ts ds a x y p
  unfolding viewed
  view_says {x} {y} {p} e = by_plan (checked k cs ts ds) refl e
    where
      by_setting : Sound cs (cells_of k ts) ds → (b : Bool) → wrong_setting a.setting (length ds) ≡ b → unless b No.Setting (view_of_spot cs (cells_of k ts) ds a.setting a.reach (stood cs a.stand)) ≡ Ok (record { x = x; y = y; footing = p }) → Viewed k cs ts ds a x y p
      by_setting sound true h v = absurd (a_refusal_is_no_view v)
      by_setting sound false h v = record { sound = sound; setting_right = h; spotted = spot_says cs (cells_of k ts) ds a.setting a.reach a.stand v }

      by_plan : (r : Result Plan Refusal) → checked k cs ts ds ≡ r → view_of_plan cs (cells_of k ts) ds a r ≡ Ok (record { x = x; y = y; footing = p }) → Viewed k cs ts ds a x y p
      by_plan (Ok m) h v = by_setting (accepted_is_sound k cs ts ds m h).0 (wrong_setting a.setting (length ds)) refl v
      by_plan (Err r) h v = absurd (a_refusal_is_no_view v)

  -- T is the plan's cells as they were drawn, and the stand is as the code has read it
  module _ {x y : ℤ} {p : Footing} (view : viewed k cs ts ds a ≡ Ok (record { x = x; y = y; footing = p })) where
    pub view_read : point (to_z w64 (of_z w64 x) ∷ to_z w64 (of_z w64 y) ∷ []) ≡ record { x = x; y = y }
    view_read = as_read (view_says view).spotted.stand_near

    module _ {T : Cells} (drawn : T ≡ cells_of k ts) where
      pub listing_sound : Sound cs T ds
      listing_sound = subst (λ (T : Cells). Sound cs T ds) (sym drawn) (view_says view).sound

      pub listing_stands : Near (point (to_z w64 (of_z w64 x) ∷ to_z w64 (of_z w64 y) ∷ [])) × (located cs T ds a.setting (point (to_z w64 (of_z w64 x) ∷ to_z w64 (of_z w64 y) ∷ [])) ≡ Ok p)
      listing_stands =
          let says = (view_says view).spotted in
          (near_as_read says.stand_near, ap₂ (λ (T : Cells) (q : Point). located cs T ds a.setting q) drawn view_read ∙ says.stand_place)

    -- the range is not too long for the test of a line
    pub listing_in_range : {R : ℕ} → R ≡ range a.reach → R ≤ most_reach
    listing_in_range e = subst (λ (n : ℕ). n ≤ most_reach) (sym e) (right_reach a.reach (view_says view).spotted.reach_right)

-- ---- the whole listing

-- whether a lent list has room
module _ {A : Type 0} (cs : List ℤ) (lent : List A) where
  pub is_short : length lent < 4 * corner_count cs → no_room cs lent ≡ true
  unfolding no_room
  is_short h = lt-ltb _ _ h

  pub is_long : 4 * corner_count cs ≤ length lent → no_room cs lent ≡ false
  unfolding no_room
  is_long h = le-ltb _ _ h

  pub has_room : no_room cs lent ≡ false → 4 * corner_count cs ≤ length lent
  unfolding no_room
  has_room e = ltb-false _ _ e

module _ (k : ℕ) (cs : List ℤ) (ts ds : List ℕ) (a : Query) (table : List ℕ) where
  pub listing_refused : {r : Refusal} → viewed k cs ts ds a ≡ Err r → (Err r, table) ≡ listed k cs ts ds a table
  unfolding listed
  listing_refused e = ap (listed_from cs (cells_of k ts) ds a.setting (range a.reach) table) (sym e)

  module _ {x y : ℤ} {p : Footing} (view : viewed k cs ts ds a ≡ Ok (record { x = x; y = y; footing = p })) where
    by_room : refuse (no_room cs table) No.Room table (rows_from cs (cells_of k ts) ds a.setting (range a.reach) table (record { x = x; y = y }) p) ≡ listed k cs ts ds a table
    unfolding listed
    by_room = ap (listed_from cs (cells_of k ts) ds a.setting (range a.reach) table) (sym view)

    pub room_refused : length table < 4 * corner_count cs → (Err No.Room, table) ≡ listed k cs ts ds a table
    room_refused h = ap (λ (b : Bool). refuse b No.Room table (rows_from cs (cells_of k ts) ds a.setting (range a.reach) table (record { x = x; y = y }) p)) (sym (is_short cs table h)) ∙ by_room

    pub listing_done : {T : Cells} {R : ℕ} → T ≡ cells_of k ts → R ≡ range a.reach → 4 * corner_count cs ≤ length table → rows_from cs T ds a.setting R table (point (to_z w64 (of_z w64 x) ∷ to_z w64 (of_z w64 y) ∷ [])) p ≡ listed k cs ts ds a table
    listing_done {T} {R} drawn in_range room =
        ap₂ (λ (T : Cells) (q : Point). rows_from cs T ds a.setting R table q p) drawn (view_read k cs ts ds a view)
        ∙ ap (λ (n : ℕ). rows_from cs (cells_of k ts) ds a.setting n table (record { x = x; y = y }) p) in_range
        ∙ ap (λ (b : Bool). refuse b No.Room table (rows_from cs (cells_of k ts) ds a.setting (range a.reach) table (record { x = x; y = y }) p)) (sym (is_long cs table room))
        ∙ by_room

-- an answer with rows is no refusal
pub rows_are_no_refusal : {a : Result Counts Refusal} {r : Refusal} {n k : ℕ} → a ≡ Ok (record { rows = n; crossings = k }) → a ≡ Err r → ⊥
rows_are_no_refusal e f = let z : ◌≡◌ {A = ℕ} 0 1 = cc in omega arith

module _ (k : ℕ) (cs : List ℤ) (ts ds : List ℕ) (a : Query) (table : List ℕ) where
  -- the stand is viewed from, and the table has room
  pub record Seen : Type 0 where
    pub x : ℤ
    pub y : ℤ
    pub p : Footing
    pub view : viewed k cs ts ds a ≡ Ok (record { x = x; y = y; footing = p })
    pub room : no_room cs table ≡ false

  -- so it is whenever the listing replies rows
  pub rows_are_seen : {n c : ℕ} → (listed k cs ts ds a table).0 ≡ Ok (record { rows = n; crossings = c }) → Seen
  unfolding listed
  rows_are_seen {n} {c} e = by_view (viewed k cs ts ds a) refl e
    where
      by_room_there : (x y : ℤ) (p : Footing) → viewed k cs ts ds a ≡ Ok (record { x = x; y = y; footing = p }) → (r : Bool) → no_room cs table ≡ r → (refuse r No.Room table (rows_from cs (cells_of k ts) ds a.setting (range a.reach) table (record { x = x; y = y }) p)).0 ≡ Ok (record { rows = n; crossings = c }) → Seen
      by_room_there x y p h true r e = absurd (rows_are_no_refusal e refl)
      by_room_there x y p h false r e = record { x = x; y = y; p = p; view = h; room = r }

      by_view : (v : Result View Refusal) → viewed k cs ts ds a ≡ v → (listed_from cs (cells_of k ts) ds a.setting (range a.reach) table v).0 ≡ Ok (record { rows = n; crossings = c }) → Seen
      by_view (Ok v) h e = by_room_there v.x v.y v.footing h (no_room cs table) refl e
      by_view (Err r) h e = absurd (rows_are_no_refusal e refl)

  -- where the table has room, what the listing refuses the view did
  pub refused_by_the_view : {r : Refusal} → ((x y : ℤ) (p : Footing) → viewed k cs ts ds a ≡ Ok (record { x = x; y = y; footing = p }) → no_room cs table ≡ false) → (listed k cs ts ds a table).0 ≡ Err r → viewed k cs ts ds a ≡ Err r
  unfolding listed
  refused_by_the_view {r} room e = by_view (viewed k cs ts ds a) refl e
    where
      by_view : (v : Result View Refusal) → viewed k cs ts ds a ≡ v → (listed_from cs (cells_of k ts) ds a.setting (range a.reach) table v).0 ≡ Err r → viewed k cs ts ds a ≡ Err r
      by_view (Ok v) h e =
          absurd (rows_are_no_refusal refl (sym (ap (λ (b : Bool). (refuse b No.Room table (rows_from cs (cells_of k ts) ds a.setting (range a.reach) table (record { x = v.x; y = v.y }) v.footing)).0) (room v.x v.y v.footing h)) ∙ e))
      by_view (Err s) h e = let same : s ≡ r = cc in h ∙ ap Err same
