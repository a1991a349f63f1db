-- The door change: when the given list is the true one, and the replies in their order.
use mathlib.Core.Bool.{Bool, true, false, not, ◌&&◌, ◌||◌}
use mathlib.Core.List.{List, [], ◌∷◌}
use mathlib.Core.Path.{◌≡◌, refl, ap, ap₂, sym, ◌∙◌}
use native.Mathlib.Omega.{arith}
use Prim.Native.Nat.{ℕ, ◌*◌, ◌<◌, ◌≤◌}
use borrow.Author.Tests.{eqb-true, eq-eqb, lt-ltb, le-ltb}
use lib.Dec.{eqb}
use lib.ListN.{length, take}
use lib.Seq.{sets}
use lib.IntN.{ℤ}
use mir.Syntax.{w64}
use mir.Val.{to_z, of_z}
use Rattle.exact.proofs.Lent.{first_is_new}
use Rattle.exact.proofs.Truth.{both_true}
use Rattle.plane.specs.Side.{Point, point}
use Rattle.cells.specs.Lists.{Cells, corner_count}
use Rattle.cells.specs.Cut.{cells_of}
use Rattle.cells.specs.Sound.{Sound}
use Rattle.limits.specs.declared.Refusal.{Refusal}
use Rattle.limits.specs.declared.Refusal.TheVariants as No
use Rattle.cells.proofs.Plans.{counts}
use Rattle.checking.specs.Sizes.{sizes_of}
use Rattle.checking.proofs.Measures.{refused_likewise}
use Rattle.stand.specs.Find.{located}
use Rattle.stand.specs.declared.locate.Footing.{Footing}
use Rattle.stand.proofs.Located.{found_place_holds_the_stand}
use Rattle.sight.specs.Listing.{viewed, listing_numbers, listing_row_count, listing_crossings, refuse, no_room, rows_from}
use Rattle.reach.specs.Reach.{range}
use Rattle.sight.specs.declared.view.Query.{Query}
use Rattle.sight.proofs.Sightings.{rows_never_outnumber_corners}
use Rattle.sight.proofs.Views.{plan_refused, view_read, is_short, is_long}
use Rattle.sight.proofs.Written.{the_numbers_are_four_a_row}
use Rattle.doors.specs.Change.{same_list, in_state, wished, no_change, underfoot, changed_at, changed_from, changed}
use Rattle.sight.specs.declared.list.Counts.{Counts}
use Rattle.draw.specs.declared.Sizes.{Sizes}
use Rattle.std.specs.Prelude.{Err, Ok, Result}

pub same_is_true : (a : List ℕ) → same_list a a ≡ true
unfolding same_list
same_is_true [] = refl
same_is_true (x ∷ xs) = ap (λ b. b && same_list xs xs) (eq-eqb x x refl) ∙ same_is_true xs

pub true_is_same : (a b : List ℕ) → same_list a b ≡ true → a ≡ b
unfolding same_list
true_is_same [] [] e = refl
true_is_same (x ∷ xs) (y ∷ ys) e = let (h, r) = both_true (eqb x y) (same_list xs ys) e in ap₂ ◌∷◌ (eqb-true x y h) (true_is_same xs ys r)
true_is_same [] (y ∷ ys) e = absurd (let z : ◌≡◌ {A = ℕ} 0 1 = cc in omega arith)
true_is_same (x ∷ xs) [] e = absurd (let z : ◌≡◌ {A = ℕ} 0 1 = cc in omega arith)

pub is_the_same : {a b : List ℕ} → a ≡ b → true ≡ same_list a b
is_the_same {a} e = sym (same_is_true a) ∙ ap (same_list a) e

pub is_another : {a b : List ℕ} → (a ≡ b → ⊥) → false ≡ same_list a b
is_another {a} {b} apart = by_test (same_list a b) refl
  where
    by_test : (t : Bool) → same_list a b ≡ t → false ≡ same_list a b
    by_test true h = absurd (apart (true_is_same a b h))
    by_test false h = sym h

module _ {cs : List ℤ} {T : Cells} {ds : List ℕ} (sound : Sound cs T ds) where
  -- a table for the most corners holds every list
  pub few_numbers : 4 * corner_count cs ≤ 8192
  few_numbers =
      let most = (counts _ _ _ sound.in_size).corners_at_most in
      omega arith

  module _ (w R : ℕ) (q : Point) (p : Footing) (stands : located cs T ds w q ≡ Ok p) where
    pub numbers_fit : {n : ℕ} → n ≡ listing_row_count cs T ds w R q p → 4 * n ≤ 4 * corner_count cs
    numbers_fit e =
        let most = rows_never_outnumber_corners sound w R q p (found_place_holds_the_stand cs sound.numbered ds w q stands) in
        omega arith

    pub listed_anew : {n : ℕ} (table : List ℕ) {new : List ℕ} → n ≡ listing_row_count cs T ds w R q p → 4 * corner_count cs ≤ length table
        → new ≡ sets table 0 (listing_numbers cs T ds w R q p) → take (4 * n) new ≡ listing_numbers cs T ds w R q p
    listed_anew {n} table {new} e room is =
        let fit = numbers_fit e in
        ap (take (4 * n)) is
        ∙ first_is_new table (listing_numbers cs T ds w R q p) (4 * n) (the_numbers_are_four_a_row cs T ds w R q p ∙ ap (λ (k : ℕ). 4 * k) (sym e)) (omega arith)

-- ---- replies 12 and 13, or the list under the new setting

module _ (cs : List ℤ) (T : Cells) (ds : List ℕ) (w R : ℕ) (given : List ℕ) (i : ℕ) (b : Bool) (table : List ℕ) (q : Point) (p : Footing) where
  abbrev after : Bool → Result Counts Refusal × List ℕ
  after t = refuse t No.Rows table (rows_from cs T ds (wished b w i) R table q p)

  pub no_such_door : length ds ≤ i → (Err No.Change, table) ≡ changed_at cs T ds w R given i b table q p
  unfolding no_change
  no_such_door h =
      ap (λ (t : Bool). refuse (not t || in_state b w i) No.Change table (after (not (same_list given (listing_numbers cs T ds w R q p))))) (sym (le-ltb _ _ h))

  module _ (exists : i < length ds) where
    by_state : {t : Bool} → t ≡ in_state b w i → refuse t No.Change table (after (not (same_list given (listing_numbers cs T ds w R q p)))) ≡ changed_at cs T ds w R given i b table q p
    unfolding no_change
    by_state {t} e =
        ap (λ (t : Bool). refuse t No.Change table (after (not (same_list given (listing_numbers cs T ds w R q p))))) e
        ∙ ap (λ (t : Bool). refuse (not t || in_state b w i) No.Change table (after (not (same_list given (listing_numbers cs T ds w R q p))))) (sym (lt-ltb _ _ exists))

    pub already_so : true ≡ in_state b w i → (Err No.Change, table) ≡ changed_at cs T ds w R given i b table q p
    already_so e = by_state e

    module _ (otherwise : false ≡ in_state b w i) where
      pub not_true : {t : Bool} → t ≡ same_list given (listing_numbers cs T ds w R q p) → not t ≡ true → (Err No.Rows, table) ≡ changed_at cs T ds w R given i b table q p
      not_true e h = ap after (sym h) ∙ ap (λ (t : Bool). after (not t)) e ∙ by_state otherwise

      pub change_made : {r m : ℕ} {new : List ℕ} {v : ℕ} {t : Bool} → t ≡ same_list given (listing_numbers cs T ds w R q p) → not t ≡ false → v ≡ wished b w i → (r ≡ listing_row_count cs T ds v R q p) × ((m ≡ listing_crossings cs T ds v R q p) × (new ≡ sets table 0 (listing_numbers cs T ds v R q p))) → (Ok (record { rows = r; crossings = m }), new) ≡ changed_at cs T ds w R given i b table q p
      change_made e g f h =
          (λ k. (Ok (record { rows = h.0 k; crossings = h.1.0 k }), h.1.1 k))
          ∙ ap (λ (v : ℕ). rows_from cs T ds v R table q p) f
          ∙ ap after (sym g)
          ∙ ap (λ (t : Bool). after (not t)) e
          ∙ by_state otherwise

-- ---- the whole change

module _ (k : ℕ) (cs : List ℤ) (ts ds : List ℕ) (a : Query) (given : List ℕ) (i : ℕ) (b : Bool) (table : List ℕ) where
  pub change_refused : {r : Refusal} → viewed k cs ts ds a ≡ Err r → (Err r, table) ≡ changed k cs ts ds a given i b table
  unfolding changed
  change_refused e = ap (changed_from cs (cells_of k ts) ds a.setting (range a.reach) given i b table) (sym e)

  -- lists of which no cells are counted
  pub not_counted : {x : Result Sizes Refusal} {r : Refusal} → x ≡ sizes_of k cs ts ds → x ≡ Err r → (Err r, table) ≡ changed k cs ts ds a given i b table
  not_counted is e = change_refused (sym (plan_refused k cs ts ds a (sym (refused_likewise k cs ts ds is e))))

  module _ {x y : ℤ} {p : Footing} (view : viewed k cs ts ds a ≡ Ok (record { x = x; y = y; footing = p })) where
    abbrev at : Point
    at = record { x = x; y = y }

    -- by whether the door is underfoot, and whether the table has room
    pub by_tests : {u r : Bool} → u ≡ underfoot cs (cells_of k ts) ds i at p → r ≡ no_room cs table
        → refuse u No.Line table (refuse r No.Room table (changed_at cs (cells_of k ts) ds a.setting (range a.reach) given i b table at p)) ≡ changed k cs ts ds a given i b table
    unfolding changed
    by_tests e f =
        ap₂ (λ (u r : Bool). refuse u No.Line table (refuse r No.Room table (changed_at cs (cells_of k ts) ds a.setting (range a.reach) given i b table at p))) e f
        ∙ ap (changed_from cs (cells_of k ts) ds a.setting (range a.reach) given i b table) (sym view)

    -- T is the plan's cells as they were drawn, and the stand is as the code has read it
    module _ {T : Cells} (drawn : T ≡ cells_of k ts) where
      abbrev read : Point
      read = point (to_z w64 (of_z w64 x) ∷ to_z w64 (of_z w64 y) ∷ [])

      underfoot_is : {u : Bool} → u ≡ underfoot cs T ds i read p → u ≡ underfoot cs (cells_of k ts) ds i at p
      underfoot_is e = e ∙ ap₂ (λ (T : Cells) (q : Point). underfoot cs T ds i q p) drawn (view_read k cs ts ds a view)

      pub underfoot_refused : {u : Bool} → u ≡ underfoot cs T ds i read p → u ≡ true → (Err No.Line, table) ≡ changed k cs ts ds a given i b table
      underfoot_refused e h = by_tests (sym h ∙ underfoot_is e) refl

      pub room_refused : {u : Bool} → u ≡ underfoot cs T ds i read p → u ≡ false → length table < 4 * corner_count cs → (Err No.Room, table) ≡ changed k cs ts ds a given i b table
      room_refused e h short = by_tests (sym h ∙ underfoot_is e) (sym (is_short cs table short))

      pub change_done : {u : Bool} → u ≡ underfoot cs T ds i read p → u ≡ false → 4 * corner_count cs ≤ length table → {R : ℕ} → R ≡ range a.reach → {reply : Result Counts Refusal × List ℕ}
          → reply ≡ changed_at cs T ds a.setting R given i b table read p → reply ≡ changed k cs ts ds a given i b table
      change_done e h room {R} in_range is =
          is
          ∙ ap₂ (λ (T : Cells) (q : Point). changed_at cs T ds a.setting R given i b table q p) drawn (view_read k cs ts ds a view)
          ∙ ap (λ (n : ℕ). changed_at cs (cells_of k ts) ds a.setting n given i b table at p) in_range
          ∙ by_tests (sym h ∙ underfoot_is e) (sym (is_long cs table room))
