-- What a drawing replies, by the listing's answer and by what its rows name.
use mathlib.Core.Bool.{Bool, true, false}
use mathlib.Core.List.{List, [], ◌∷◌}
use mathlib.Core.Path.{◌≡◌, refl, sym, ap, ap₂, ◌∙◌, subst, subst₂}
use Prim.Native.Nat.{ℕ, ◌*◌, ◌<◌, ◌≤◌}
use native.Mathlib.Omega.{arith}
use lib.ListN.{length, drop}
use lib.Seq.{sets}
use lib.IntN.{ℤ}
use lib.Ieee.{Float}
use mir.Syntax.{w64}
use mir.Val.{to_z, of_z}
use Rattle.plane.specs.Side.{Point, point, Near}
use Rattle.limits.specs.Limits.{most_corners}
use Rattle.limits.specs.declared.Refusal.{Refusal}
use Rattle.limits.specs.declared.Refusal.TheVariants as No
use Rattle.cells.specs.Lists.{Cells, corner_count}
use Rattle.cells.specs.Cut.{cells_of}
use Rattle.cells.specs.Sound.{CornersNear}
use Rattle.cells.proofs.Plans.{counts}
use Rattle.reach.specs.Reach.{range}
use Rattle.stand.specs.Spot.{stood}
use Rattle.stand.specs.declared.locate.Footing.{Footing}
use Rattle.stand.proofs.Located.{Stands, found_place_holds_the_stand}
use Rattle.fan.specs.Sight.{Row}
use Rattle.fan.proofs.Tables.{row_stands_there}
use Rattle.sight.specs.Listing.{viewed, refuse, no_room, listing_rows, listing_row_count, listing_crossings, listed}
use Rattle.sight.specs.Ceiling.{listed_up_to}
use Rattle.sight.specs.declared.view.Query.{Query}
use Rattle.sight.proofs.Sightings.{rows_never_outnumber_corners}
use Rattle.sight.proofs.UpTo.{no_ceiling}
use Rattle.sight.proofs.Views.{Viewed, view_says, view_read, is_short, is_long, rows_are_no_refusal, Seen, rows_are_seen, refused_by_the_view}
use Rattle.sight.proofs.Written.{the_count_is_the_rows, list_writes_the_rows, the_table_holds_the_rows, row_limits_are_corners}
use Rattle.tablet.specs.Drawing.{any_far, offsets_of, offsets_from, drawn_at, drawn_from, drawn, rows_in, NameCorners}
use Rattle.tablet.proofs.Rows.{written_rows_are_read}
use Rattle.sight.specs.declared.list.Counts.{Counts}
use Rattle.sight.specs.declared.view.View.{View}
use Rattle.std.specs.Prelude.{Err, None, Ok, Result, Some}
use Rattle.limits.proofs.Handed.{ok_same, some_same}

module _ (k : ℕ) (cs : List ℤ) (ts ds : List ℕ) (a : Query) (lent : List Float) where
  abbrev T : Cells
  T = cells_of k ts

  abbrev w : ℕ
  w = a.setting

  abbrev R : ℕ
  R = range a.reach

  -- what the view refuses, the drawing does
  pub view_refused : {r : Refusal} → viewed k cs ts ds a ≡ Err r → (Err r, lent) ≡ drawn k cs ts ds a lent
  unfolding drawn
  view_refused e = ap (drawn_from cs T ds w R lent) (sym e)

  module _ {x y : ℤ} {p : Footing} (view : viewed k cs ts ds a ≡ Ok (record { x = x; y = y; footing = p })) where
    abbrev q : Point
    q = record { x = x; y = y }

    abbrev rows : List Row
    rows = listing_rows cs T ds w R q p

    -- the answer, where the list is or is not too short, and a corner is or is not too far
    abbrev answer : Bool → Bool → Result Counts Refusal × List Float
    answer short far = refuse short No.Room lent (refuse far No.Far lent (offsets_from cs T ds w R lent q p))

    by_answer : drawn_at cs T ds w R lent q p ≡ drawn k cs ts ds a lent
    unfolding drawn
    by_answer = ap (drawn_from cs T ds w R lent) (sym view)

    pub room_refused : no_room cs lent ≡ true → (Err No.Room, lent) ≡ drawn k cs ts ds a lent
    room_refused h = ap (λ (b : Bool). answer b (any_far cs q rows)) (sym h) ∙ by_answer

    module _ (room : no_room cs lent ≡ false) where
      by_far : {b : Bool} → any_far cs q rows ≡ b → answer false b ≡ drawn k cs ts ds a lent
      by_far e = ap₂ answer (sym room) (sym e) ∙ by_answer

      pub far_refused : any_far cs q rows ≡ true → (Err No.Far, lent) ≡ drawn k cs ts ds a lent
      far_refused e = by_far e

      pub none_far_is_drawn : any_far cs q rows ≡ false → offsets_from cs T ds w R lent q p ≡ drawn k cs ts ds a lent
      none_far_is_drawn e = by_far e

  -- what a reply of n rows and c crossings says
  pub record DrawnFrom (n c : ℕ) (after : List Float) : Type 0 where
    pub x : ℤ
    pub y : ℤ
    pub p : Footing
    pub view : viewed k cs ts ds a ≡ Ok (record { x = x; y = y; footing = p })
    pub room : no_room cs lent ≡ false
    pub none_far : any_far cs (record { x = x; y = y }) (listing_rows cs T ds w R (record { x = x; y = y }) p) ≡ false
    pub is : offsets_from cs T ds w R lent (record { x = x; y = y }) p ≡ (Ok (record { rows = n; crossings = c }), after)

  pub rows_are_drawn : {n c : ℕ} {after : List Float} → drawn k cs ts ds a lent ≡ (Ok (record { rows = n; crossings = c }), after) → DrawnFrom n c after
  unfolding drawn
  rows_are_drawn {n} {c} {after} e = by_view (viewed k cs ts ds a) refl e
    where
      by_tests : (x y : ℤ) (p : Footing) → viewed k cs ts ds a ≡ Ok (record { x = x; y = y; footing = p }) → (s f : Bool) → no_room cs lent ≡ s → any_far cs (record { x = x; y = y }) (listing_rows cs T ds w R (record { x = x; y = y }) p) ≡ f → refuse s No.Room lent (refuse f No.Far lent (offsets_from cs T ds w R lent (record { x = x; y = y }) p)) ≡ (Ok (record { rows = n; crossings = c }), after) → DrawnFrom n c after
      by_tests x y p v true f r h e = absurd (rows_are_no_refusal (ap (λ (p : Result Counts Refusal × List Float). p.0) e) refl)
      by_tests x y p v false true r h e = absurd (rows_are_no_refusal (ap (λ (p : Result Counts Refusal × List Float). p.0) e) refl)
      by_tests x y p v false false r h e = record { x = x; y = y; p = p; view = v; room = r; none_far = h; is = e }

      by_view : (v : Result View Refusal) → viewed k cs ts ds a ≡ v → drawn_from cs T ds w R lent v ≡ (Ok (record { rows = n; crossings = c }), after) → DrawnFrom n c after
      by_view (Ok v) h e = by_tests v.x v.y v.footing h (no_room cs lent) (any_far cs (record { x = v.x; y = v.y }) (listing_rows cs T ds w R (record { x = v.x; y = v.y }) v.footing)) refl refl e
      by_view (Err r) h e = absurd (rows_are_no_refusal (ap (λ (p : Result Counts Refusal × List Float). p.0) e) refl)

-- ---- the listing's answer, as the code has it: rows in a table that has room for those of every plan

module _ (k : ℕ) (cs : List ℤ) (ts ds : List ℕ) (a : Query) where
  -- what an answer of n rows and c crossings says, with the table that was written
  pub record Told (n c : ℕ) (table : List ℕ) : Type 0 where
    pub x : ℤ
    pub y : ℤ
    pub p : Footing
    pub view : viewed k cs ts ds a ≡ Ok (record { x = x; y = y; footing = p })
    pub spot : stood cs a.stand ≡ Some (x, y)
    pub near : Near (record { x = x; y = y })
    pub corners : CornersNear cs
    pub few_corners : corner_count cs ≤ most_corners
    pub few_rows : n ≤ corner_count cs
    pub counted : n ≡ listing_row_count cs (cells_of k ts) ds a.setting (range a.reach) (record { x = x; y = y }) p
    pub crossed : c ≡ listing_crossings cs (cells_of k ts) ds a.setting (range a.reach) (record { x = x; y = y }) p
    pub rows : rows_in table 0 n ≡ listing_rows cs (cells_of k ts) ds a.setting (range a.reach) (record { x = x; y = y }) p
    pub named : NameCorners cs table n

  module _ {table : List ℕ} (s : Seen k cs ts ds a table) where
    abbrev q' : Point
    q' = record { x = s.x; y = s.y }

    abbrev rs : List Row
    rs = listing_rows cs (cells_of k ts) ds a.setting (range a.reach) q' s.p

    says : Viewed k cs ts ds a s.x s.y s.p
    says = view_says k cs ts ds a s.view

    stands : Stands cs (cells_of k ts) ds a.setting q' s.p
    stands = found_place_holds_the_stand cs says.sound.numbered ds a.setting q' says.spotted.stand_place

    -- the table at exit has the rows at its beginning
    pub seen_is_told : Told (length rs) (listing_crossings cs (cells_of k ts) ds a.setting (range a.reach) q' s.p) (listed k cs ts ds a table).1
    seen_is_told =
        let count = the_count_is_the_rows cs (cells_of k ts) ds a.setting (range a.reach) q' s.p in
        let holds = the_table_holds_the_rows k cs ts ds a table s.view s.room in
        record {
          x = s.x;
          y = s.y;
          p = s.p;
          view = s.view;
          spot = says.spotted.stand_is;
          near = says.spotted.stand_near;
          corners = says.sound.corners;
          few_corners = (counts _ _ _ says.sound.in_size).corners_at_most;
          few_rows = omega (arith, rows_never_outnumber_corners says.sound a.setting (range a.reach) q' s.p stands, count);
          counted = sym count;
          crossed = refl;
          rows = ap (λ (t : List ℕ). rows_in t 0 (length rs)) holds ∙ written_rows_are_read rs (drop (4 * length rs) table);
          named =
              subst (λ (t : List ℕ). NameCorners cs t (length rs)) (sym holds)
              (λ i h. row_limits_are_corners says.sound a.setting (range a.reach) q' s.p stands (row_stands_there rs (drop (4 * length rs) table) i h));
        }

  module _ {n c : ℕ} (before : List ℕ) {table : List ℕ} (e : (Ok (record { rows = n; crossings = c }), table) ≡ listed_up_to k cs ts ds a None before) where
    as_listed : (Ok (record { rows = n; crossings = c }), table) ≡ listed k cs ts ds a before
    as_listed = e ∙ no_ceiling k cs ts ds a before

    -- the answer is that of the rows
    pub told : Told n c table
    told =
        let s = rows_are_seen k cs ts ds a before (ap (λ (p : Result Counts Refusal × List ℕ). p.0) (sym as_listed)) in
        let same = as_listed ∙ list_writes_the_rows k cs ts ds a before s.view s.room in
        let rows_are : ◌≡◌ {A = Result Counts Refusal} (Ok (record { rows = n; crossings = c })) (Ok (record { rows = length (rs s); crossings = listing_crossings cs (cells_of k ts) ds a.setting (range a.reach) (q' s) s.p })) = ap (λ (p : Result Counts Refusal × List ℕ). p.0) same in
        let n_is : n ≡ length (rs s) = ap (λ (m : Counts). m.rows) (ok_same rows_are) in
        let c_is : c ≡ listing_crossings cs (cells_of k ts) ds a.setting (range a.reach) (q' s) s.p = ap (λ (m : Counts). m.crossings) (ok_same rows_are) in
        subst (λ (m : ℕ). Told m c table) (sym n_is)
        (subst₂ (Told (length (rs s))) (sym c_is) (sym (ap (λ (p : Result Counts Refusal × List ℕ). p.1) as_listed)) (seen_is_told s))

  pub told_refused : {r : Refusal} (before : List ℕ) {table : List ℕ} (lent : List Float) → 4 * most_corners ≤ length before → (Err r, table) ≡ listed_up_to k cs ts ds a None before → (Err r, lent) ≡ drawn k cs ts ds a lent
  told_refused before lent long e =
      let room : (x y : ℤ) (p : Footing) → viewed k cs ts ds a ≡ Ok (record { x = x; y = y; footing = p }) → no_room cs before ≡ false = λ x y p view. is_long cs before (omega (arith, long, (counts _ _ _ (view_says k cs ts ds a view).sound.in_size).corners_at_most)) in
      view_refused k cs ts ds a lent (refused_by_the_view k cs ts ds a before room (ap (λ (p : Result Counts Refusal × List ℕ). p.0) (sym (e ∙ no_ceiling k cs ts ds a before))))

  module _ {n c : ℕ} {table : List ℕ} (t : Told n c table) (lent : List Float) where
    pub told_room : length lent < 4 * corner_count cs → (Err No.Room, lent) ≡ drawn k cs ts ds a lent
    told_room h = room_refused k cs ts ds a lent t.view (is_short cs lent h)

    -- the stand that the code reads once more is the one that was listed from
    pub no_stand : stood cs a.stand ≡ None → ⊥
    no_stand e = let f = t.spot in let z : ◌≡◌ {A = ℕ} 0 1 = cc in omega arith

    module _ {u v : ℤ} (e : stood cs a.stand ≡ Some (u, v)) where
      abbrev read : Point
      read = point (to_z w64 (of_z w64 u) ∷ to_z w64 (of_z w64 v) ∷ [])

      pub read_is : read ≡ record { x = t.x; y = t.y }
      read_is =
          let same : ◌≡◌ {A = ℤ × ℤ} (u, v) (t.x, t.y) = some_same (sym e ∙ t.spot) in
          let same_u : u ≡ t.x = ap (λ (q : ℤ × ℤ). q.0) same in
          let same_v : v ≡ t.y = ap (λ (q : ℤ × ℤ). q.1) same in
          ap₂ (λ (u v : ℤ). point (to_z w64 (of_z w64 u) ∷ to_z w64 (of_z w64 v) ∷ [])) same_u same_v ∙ view_read k cs ts ds a t.view

      pub read_near : Near read
      read_near = subst Near (sym read_is) t.near

      -- the first rows of the table, from there
      far_is : any_far cs read (rows_in table 0 n) ≡ any_far cs (record { x = t.x; y = t.y }) (listing_rows cs (cells_of k ts) ds a.setting (range a.reach) (record { x = t.x; y = t.y }) t.p)
      far_is = ap₂ (any_far cs) read_is t.rows

      module _ (room : 4 * corner_count cs ≤ length lent) {b : Bool} (is_b : b ≡ any_far cs read (rows_in table 0 n)) where
        pub told_far : b ≡ true → (Err No.Far, lent) ≡ drawn k cs ts ds a lent
        told_far h = far_refused k cs ts ds a lent t.view (is_long cs lent room) (sym far_is ∙ sym is_b ∙ h)

        pub told_drawn : b ≡ false → {then : List Float} → then ≡ sets lent 0 (offsets_of cs read (rows_in table 0 n)) → (Ok (record { rows = n; crossings = c }), then) ≡ drawn k cs ts ds a lent
        told_drawn h e =
            let then_is = e ∙ ap (sets lent 0) (ap₂ (offsets_of cs) read_is t.rows) in
            (λ i. (Ok (record { rows = t.counted i; crossings = t.crossed i }), then_is i)) ∙ none_far_is_drawn k cs ts ds a lent t.view (is_long cs lent room) (sym far_is ∙ sym is_b ∙ h)
