-- A drawing is the listing's rows, number by number, and it is refused as too far exactly where one of them names a corner that is (document 02, A2).
use mathlib.Core.Bool.{Bool, true, false}
use mathlib.Core.List.{List}
use mathlib.Core.Logic.{◌⊎◌, inl, inr}
use mathlib.Core.Path.{◌≡◌, refl, sym, ap, ◌∙◌, subst}
use Prim.Native.Nat.{ℕ, ◌+◌, ◌*◌, ◌<◌, ◌≤◌}
use native.Mathlib.Nat.{add-zero}
use native.Mathlib.Omega.{arith}
use borrow.Author.Tests.{ltb-true, lt-ltb}
use lib.Dec.{ltb}
use lib.ListN.{length, get_or, drop}
use lib.Seq.{sets}
use lib.IntN.{ℤ, nat_abs}
use lib.Ieee.{Float, nan, binary32, of_int}
use Rattle.exact.specs.Within.{Within}
use Rattle.exact.proofs.Lent.{written_from_the_beginning, rest_is_kept}
use Rattle.exact.proofs.Truth.{one_true, first_true, second_true}
use Rattle.plane.specs.Side.{Point}
use Rattle.limits.specs.Limits.{most_offset}
use Rattle.limits.specs.declared.Refusal.TheVariants.{Far}
use Rattle.cells.specs.Cut.{cells_of}
use Rattle.reach.specs.Reach.{range}
use Rattle.stand.specs.Spot.{stood}
use Rattle.fan.specs.Sight.{Row}
use Rattle.fan.specs.Once as Once
use Rattle.fan.specs.Written.{row_at}
use Rattle.fan.proofs.Tables.{row_stands_there, place_is_within, one_at_a_place}
use Rattle.sight.specs.Listing.{seen, no_room, listing_rows, listing_row_count, listing_crossings, listed}
use Rattle.sight.specs.declared.view.Query.{Query}
use Rattle.sight.proofs.Views.{view_says, has_room, Seen, rows_are_seen, refused_by_the_view}
use Rattle.sight.proofs.Written.{the_count_is_the_rows, list_writes_the_rows, the_table_holds_the_rows}
use Rattle.tablet.specs.Drawing.{far, row_far, any_far, row_offsets, offsets_of, drawn}
use Rattle.tablet.proofs.Fars.{not_far}
use Rattle.tablet.proofs.Rows.{not_far_right, not_far_left}
use Rattle.tablet.proofs.Drawn.{view_refused, room_refused, far_refused, none_far_is_drawn, DrawnFrom, rows_are_drawn, seen_is_told}
use Rattle.tablet.proofs.Numbers.{exact, no_minus_zero, length_of_offsets, number_stands, a_row_is_far, no_row_is_far, some_row_is_far}
use Rattle.manopluea.specs.Drawings.{Drawn, RowDrawn, TooFar, NamesTooFar, RowsDrawn, DrawsTheListing}
use Rattle.sight.specs.declared.list.Counts.{Counts}
use Rattle.limits.specs.declared.Refusal.{Refusal}
use Rattle.std.specs.Prelude.{Err, Ok, Result, Some, Option}
use Rattle.limits.proofs.Handed.{ok_same, some_same}

-- ---- too far, by the definition's test and in words

module _ (d : Point) where
  far_in_words : far d ≡ true → TooFar d
  unfolding far
  far_in_words h = by_axis (one_true (ltb most_offset (nat_abs d.x)) (ltb most_offset (nat_abs d.y)) h)
    where
      by_axis : (ltb most_offset (nat_abs d.x) ≡ true) ⊎ (ltb most_offset (nat_abs d.y) ≡ true) → TooFar d
      by_axis (inl e) = inl (ltb-true _ _ e)
      by_axis (inr e) = inr (ltb-true _ _ e)

  words_are_far : TooFar d → far d ≡ true
  unfolding far
  words_are_far (inl h) = first_true (ltb most_offset (nat_abs d.x)) (ltb most_offset (nat_abs d.y)) (lt-ltb _ _ h)
  words_are_far (inr h) = second_true (ltb most_offset (nat_abs d.x)) (ltb most_offset (nat_abs d.y)) (lt-ltb _ _ h)

module _ (cs : List ℤ) (q : Point) (r : Row) where
  row_in_words : row_far cs q r ≡ true → NamesTooFar cs q r
  row_in_words h = by_limit (one_true (far (seen cs q r.right)) (far (seen cs q r.left)) h)
    where
      by_limit : (far (seen cs q r.right) ≡ true) ⊎ (far (seen cs q r.left) ≡ true) → NamesTooFar cs q r
      by_limit (inl e) = inl (far_in_words _ e)
      by_limit (inr e) = inr (far_in_words _ e)

  words_are_row : NamesTooFar cs q r → row_far cs q r ≡ true
  words_are_row (inl h) = first_true (far (seen cs q r.right)) (far (seen cs q r.left)) (words_are_far (seen cs q r.right) h)
  words_are_row (inr h) = second_true (far (seen cs q r.right)) (far (seen cs q r.left)) (words_are_far (seen cs q r.left) h)

-- ---- a number that is drawn

drawn_exactly : {list : List Float} {i : ℕ} (z : ℤ) → get_or list i nan ≡ of_int binary32 z → Within most_offset z → Drawn list i z
drawn_exactly z e h = record { is = rw e (exact z h); no_minus_zero = λ m. no_minus_zero z h (sym e ∙ m) }

-- the four numbers of a row of which no corner is too far
row_drawn : (cs : List ℤ) (q : Point) (r : Row) (list : List Float) (i : ℕ) → ((j : ℕ) → j < 4 → get_or list (4 * i + j) nan ≡ get_or (row_offsets cs q r) j nan) → row_far cs q r ≡ false → RowDrawn cs q r list i
row_drawn cs q r list i stands h =
    let right = not_far (seen cs q r.right) (not_far_right cs q r h) in
    let left = not_far (seen cs q r.left) (not_far_left cs q r h) in
    record {
      right_x = drawn_exactly (seen cs q r.right).x (ap (λ (n : ℕ). get_or list n nan) (sym (add-zero (4 * i))) ∙ stands 0 (omega arith)) right.0;
      right_y = drawn_exactly (seen cs q r.right).y (stands 1 (omega arith)) right.1;
      left_x = drawn_exactly (seen cs q r.left).x (stands 2 (omega arith)) left.0;
      left_y = drawn_exactly (seen cs q r.left).y (stands 3 (omega arith)) left.1;
    }

-- ---- the drawing beside the listing

module _ (kind : ℕ) (cs : List ℤ) (ts ds : List ℕ) (a : Query) (before : List Float) (table : List ℕ) where
  -- what is seen, where the table has room
  module _ (s : Seen kind cs ts ds a table) where
    abbrev q : Point
    q = record { x = s.x; y = s.y }

    abbrev rs : List Row
    rs = listing_rows cs (cells_of kind ts) ds a.setting (range a.reach) q s.p

    count : listing_row_count cs (cells_of kind ts) ds a.setting (range a.reach) q s.p ≡ length rs
    count = the_count_is_the_rows cs (cells_of kind ts) ds a.setting (range a.reach) q s.p

    -- row i of the table is row i of the listing
    row_there : (i : ℕ) → i < length rs → Once.At (row_at (listed kind cs ts ds a table).1 i) rs i
    row_there i h =
        subst (λ (t : List ℕ). Once.At (row_at t i) rs i) (sym (the_table_holds_the_rows kind cs ts ds a table s.view s.room))
        (row_stands_there rs (drop (4 * length rs) table) i h)

    rows_are : {n c : ℕ} → (listed kind cs ts ds a table).0 ≡ Ok (record { rows = n; crossings = c }) → ◌≡◌ {A = Result Counts Refusal} (Ok (record { rows = n; crossings = c })) (Ok (record { rows = length rs; crossings = listing_crossings cs (cells_of kind ts) ds a.setting (range a.reach) q s.p }))
    rows_are e = sym e ∙ ap (λ (p : Result Counts Refusal × List ℕ). p.0) (list_writes_the_rows kind cs ts ds a table s.view s.room)

    counted : {n c : ℕ} → (listed kind cs ts ds a table).0 ≡ Ok (record { rows = n; crossings = c }) → n ≡ length rs
    counted e = ap (λ (m : Counts). m.rows) (ok_same (rows_are e))

    -- the stand's own point
    same_point : (x y : ℤ) → stood cs a.stand ≡ Some (x, y) → ◌≡◌ {A = Point} (record { x = x; y = y }) q
    same_point x y e =
        let f : ◌≡◌ {A = Option (ℤ × ℤ)} (Some (s.x, s.y)) (Some (x, y)) = sym (view_says kind cs ts ds a s.view).spotted.stand_is ∙ e in
        ap (λ (p : ℤ × ℤ). record { x = p.0; y = p.1 }) (some_same (sym f))

    too_far_there : no_room cs before ≡ false → {i : ℕ} → i < length rs → NamesTooFar cs q (row_at (listed kind cs ts ds a table).1 i) → drawn kind cs ts ds a before ≡ (Err Far, before)
    too_far_there room {i} h f =
        sym (far_refused kind cs ts ds a before s.view room (a_row_is_far cs q (row_there i h) (words_are_row cs q (row_at (listed kind cs ts ds a table).1 i) f)))

    near_enough_there : {n c : ℕ} → (listed kind cs ts ds a table).0 ≡ Ok (record { rows = n; crossings = c }) → no_room cs before ≡ false → ((i : ℕ) → i < n → NamesTooFar cs q (row_at (listed kind cs ts ds a table).1 i) → ⊥) → (b : Bool) → any_far cs q rs ≡ b → (drawn kind cs ts ds a before).0 ≡ Ok (record { rows = n; crossings = c })
    near_enough_there e room none true f =
        let r = some_row_is_far cs q rs f in
        let within : r.place < length rs = place_is_within r.stands in
        let same = one_at_a_place (row_there r.place within) r.stands in
        absurd (none r.place (omega (arith, within, counted e)) (subst (NamesTooFar cs q) (sym same) (row_in_words cs q r.row r.is_far)))
    near_enough_there e room none false f =
        ap (λ (p : Result Counts Refusal × List Float). p.0) (sym (none_far_is_drawn kind cs ts ds a before s.view room f))
        ∙ ap (λ (n : ℕ). Ok (record { rows = n; crossings = listing_crossings cs (cells_of kind ts) ds a.setting (range a.reach) q s.p })) count
        ∙ sym (rows_are e)

  -- what was drawn
  module _ (room : no_room cs table ≡ false) {n c : ℕ} {after : List Float} (e : drawn kind cs ts ds a before ≡ (Ok (record { rows = n; crossings = c }), after)) where
    abbrev from : DrawnFrom kind cs ts ds a before n c after
    from = rows_are_drawn kind cs ts ds a before e

    abbrev from_there : Seen kind cs ts ds a table
    from_there = record { x = from.x; y = from.y; p = from.p; view = from.view; room = room }

    same_counts : ◌≡◌ {A = Result Counts Refusal} (Ok (record { rows = listing_row_count cs (cells_of kind ts) ds a.setting (range a.reach) (q from_there) from.p; crossings = listing_crossings cs (cells_of kind ts) ds a.setting (range a.reach) (q from_there) from.p })) (Ok (record { rows = n; crossings = c }))
    same_counts = ap (λ (p : Result Counts Refusal × List Float). p.0) from.is

    listed_alike : (listed kind cs ts ds a table).0 ≡ Ok (record { rows = n; crossings = c })
    listed_alike =
        ap (λ (p : Result Counts Refusal × List ℕ). p.0) (list_writes_the_rows kind cs ts ds a table from.view room)
        ∙ ap (λ (n : ℕ). Ok (record { rows = n; crossings = listing_crossings cs (cells_of kind ts) ds a.setting (range a.reach) (q from_there) from.p })) (sym (count from_there))
        ∙ same_counts

    n_is : n ≡ length (rs from_there)
    n_is = counted from_there listed_alike

    enough : 4 * length (rs from_there) ≤ length before
    enough = omega (arith, has_room cs before from.room, (seen_is_told kind cs ts ds a from_there).few_rows)

    after_is : after ≡ sets before 0 (offsets_of cs (q from_there) (rs from_there))
    after_is = ap (λ (p : Result Counts Refusal × List Float). p.1) (sym from.is)

    rows_there : RowsDrawn kind cs ts ds a n (listed kind cs ts ds a table).1 before after
    rows_there =
        let long = length_of_offsets cs (q from_there) (rs from_there) in
        let stands_first = after_is ∙ written_from_the_beginning before (offsets_of cs (q from_there) (rs from_there)) (4 * length (rs from_there)) long enough in
        let kept = ap (drop (4 * length (rs from_there))) after_is ∙ rest_is_kept before (offsets_of cs (q from_there) (rs from_there)) (4 * length (rs from_there)) long enough in
        record {
          x = from.x;
          y = from.y;
          the_stand = (view_says kind cs ts ds a from.view).spotted.stand_is;
          row = λ i h.
              let at = row_there from_there i (omega (arith, h, n_is)) in
              row_drawn cs (q from_there) (row_at (listed kind cs ts ds a table).1 i) after i
              (λ j l. ap (λ (list : List Float). get_or list (4 * i + j) nan) stands_first ∙ number_stands cs (q from_there) at (drop (4 * length (rs from_there)) before) j l)
              (no_row_is_far cs (q from_there) at from.none_far);
          beyond = rw n_is kept;
        }

-- a drawing draws the listing that any table with room would get
pub draws_the_listing : (kind : ℕ) (cs : List ℤ) (ts ds : List ℕ) (a : Query) (before : List Float) (table : List ℕ) → no_room cs table ≡ false → DrawsTheListing kind cs ts ds a before table
draws_the_listing kind cs ts ds a before table room =
    record {
      as_listed = λ n c after e. listed_alike kind cs ts ds a before table room e;
      rows = λ n c after e. rows_there kind cs ts ds a before table room e;
      refused_as_listed = λ e. sym (view_refused kind cs ts ds a before (refused_by_the_view kind cs ts ds a table (λ x y p view. room) e));
      room_first = λ e short. sym (room_refused kind cs ts ds a before (rows_are_seen kind cs ts ds a table e).view short);
      too_far = λ e long x y stand i h far.
          let s = rows_are_seen kind cs ts ds a table e in
          too_far_there kind cs ts ds a before table s long (omega (arith, h, counted kind cs ts ds a before table s e))
          (subst (λ (p : Point). NamesTooFar cs p (row_at (listed kind cs ts ds a table).1 i)) (same_point kind cs ts ds a before table s x y stand) far);
      near_enough = λ e long x y stand none.
          let s = rows_are_seen kind cs ts ds a table e in
          near_enough_there kind cs ts ds a before table s e long
          (λ i h far. none i h (subst (λ (p : Point). NamesTooFar cs p (row_at (listed kind cs ts ds a table).1 i)) (sym (same_point kind cs ts ds a before table s x y stand)) far)) (any_far cs (q kind cs ts ds a before table s) (rs kind cs ts ds a before table s)) refl;
    }

-- the promise of the drawing leaves one reply and one list
pub draw_has_one_reply : (kind : ℕ) (cs : List ℤ) (ts ds : List ℕ) (a : Query) (before : List Float) {r s : Result Counts Refusal × List Float} → r ≡ drawn kind cs ts ds a before → s ≡ drawn kind cs ts ds a before → r ≡ s
draw_has_one_reply kind cs ts ds a before h i = h ∙ sym i
