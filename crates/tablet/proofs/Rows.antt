-- The first rows of a table: whether one names a corner too far, the loop that draws them, and the rows that a listing wrote there.
use mathlib.Core.Bool.{Bool, true, false, ◌||◌}
use mathlib.Core.List.{List, [], ◌∷◌, ◌++◌}
use mathlib.Core.Path.{◌≡◌, refl, sym, ap, ap₂, ◌∙◌, subst}
use Prim.Native.Nat.{ℕ, zero, suc, ◌+◌, ◌*◌, ◌-◌, ◌<◌, ◌≤◌}
use native.Mathlib.Omega.{arith}
use lib.Dec.{ltb}
use lib.ListN.{length, set}
use borrow.Author.Tests.{lt-ltb, le-ltb}
use lib.Seq.{sets, length-sets}
use lib.IntN.{ℤ}
use lib.Ieee.{Float}
use Rattle.exact.proofs.Lent.{sets_then}
use Rattle.exact.proofs.Truth.{neither_true}
use Rattle.plane.specs.Side.{Point}
use Rattle.cells.specs.Least.{least}
use Rattle.fan.specs.Sight.{Row}
use Rattle.fan.specs.Once.{At}
use Rattle.fan.specs.Once.At.{first, later}
use Rattle.fan.specs.Written.{written, row_at}
use Rattle.fan.proofs.Tables.{row_stands_there}
use Rattle.sight.specs.Listing.{seen}
use Rattle.tablet.specs.declared.offset.Offset.{Offset}
use Rattle.tablet.specs.Drawing.{offset, far, row_far, any_far, pair, row_offsets, offsets_of, rows_in}

-- ---- the rows that were written are read

at_first : {r s : Row} {rs : List Row} → At r (s ∷ rs) 0 → r ≡ s
at_first first = refl

at_later : {r s : Row} {rs : List Row} {i : ℕ} → At r (s ∷ rs) (suc i) → At r rs i
at_later (later a) = a

rows_stand : (table : List ℕ) (i : ℕ) (rs : List Row) → ((j : ℕ) → j < length rs → At (row_at table (i + j)) rs j) → rows_in table i (length rs) ≡ rs
unfolding rows_in
rows_stand table i [] h = refl
rows_stand table i (r ∷ rs) h =
    let here : i + 0 ≡ i = omega arith in
    let head : row_at table i ≡ r = ap (row_at table) (sym here) ∙ at_first (h 0 (omega arith)) in
    let tail : rows_in table (i + 1) (length rs) ≡ rs = rows_stand table (i + 1) rs (λ j l. let on : i + suc j ≡ i + 1 + j = omega arith in at_later (subst (λ (k : ℕ). At (row_at table k) (r ∷ rs) (suc j)) on (h (suc j) (omega arith)))) in
    ap₂ (λ (r : Row) (rs : List Row). r ∷ rs) head tail

pub written_rows_are_read : (rs : List Row) (rest : List ℕ) → rows_in (written rs ++ rest) 0 (length rs) ≡ rs
written_rows_are_read rs rest =
    rows_stand (written rs ++ rest) 0 rs (λ j l. let at : j ≡ 0 + j = omega arith in subst (λ (k : ℕ). At (row_at (written rs ++ rest) k) rs j) at (row_stands_there rs rest j l))

-- ---- one row

module _ (cs : List ℤ) (q : Point) (r : Row) where
  abbrev right_far : Bool
  right_far = far (seen cs q r.right)

  abbrev left_far : Bool
  left_far = far (seen cs q r.left)

  pub not_far_right : row_far cs q r ≡ false → right_far ≡ false
  not_far_right h = (neither_true right_far left_far h).0

  pub not_far_left : row_far cs q r ≡ false → left_far ≡ false
  not_far_left h = (neither_true right_far left_far h).1

  -- its four numbers, one after another
  pub row_put : (now : List Float) (i : ℕ) {a b : Offset} → a ≡ offset (seen cs q r.right) → b ≡ offset (seen cs q r.left) → set (set (set (set now (4 * i) a.x) (4 * i + 1) a.y) (4 * i + 2) b.x) (4 * i + 3) b.y ≡ sets now (4 * i) (row_offsets cs q r)
  row_put now i e f =
      let one : 4 * i + 1 ≡ suc (4 * i) = omega arith in
      let two : 4 * i + 2 ≡ suc (suc (4 * i)) = omega arith in
      let three : 4 * i + 3 ≡ suc (suc (suc (4 * i))) = omega arith in
      rw (one, two, three) (ap₂ (λ (a b : Offset). sets now (4 * i) (pair a ++ pair b)) e f)

-- ---- the rows that are left

next_row : (table : List ℕ) (i n : ℕ) → i < n → rows_in table i (n - i) ≡ row_at table i ∷ rows_in table (i + 1) (n - (i + 1))
unfolding rows_in
next_row table i n h = let one : n - i ≡ suc (n - (i + 1)) = omega arith in ap (rows_in table i) one

no_row : (table : List ℕ) (i n : ℕ) → n ≤ i → rows_in table i (n - i) ≡ []
unfolding rows_in
no_row table i n h = let none : n - i ≡ 0 = omega arith in ap (rows_in table i) none

-- ---- some row names a corner that is too far where the first that does is before the end

module _ (cs : List ℤ) (q : Point) (table : List ℕ) where
  some_from : (n i : ℕ) → any_far cs q (rows_in table i n) ≡ ltb (least (λ k. row_far cs q (row_at table k)) n i) (i + n)
  unfolding any_far rows_in least
  some_from zero i = sym (le-ltb i (i + 0) (omega arith))
  some_from (suc n) i =
      let next : i + 1 ≡ suc i = omega arith in
      let last : i + suc n ≡ suc i + n = omega arith in
      by_row (row_far cs q (row_at table i)) (rw (next, last) (some_from n (suc i)))
    where
      by_row : (b : Bool) → any_far cs q (rows_in table (i + 1) n) ≡ ltb (least (λ k. row_far cs q (row_at table k)) n (suc i)) (i + suc n)
          → (b || any_far cs q (rows_in table (i + 1) n)) ≡ ltb (elim b [ true ↦ i | false ↦ least (λ k. row_far cs q (row_at table k)) n (suc i) ]) (i + suc n)
      by_row true rest = sym (lt-ltb i (i + suc n) (omega arith))
      by_row false rest = rest

  pub some_row_far : (n : ℕ) → ltb (least (λ k. row_far cs q (row_at table k)) n 0) n ≡ any_far cs q (rows_in table 0 n)
  some_row_far n = let all : 0 + n ≡ n = omega arith in sym (rw all at (some_from n 0))

-- ---- drawing has come to row i: what is left comes behind what is drawn

module _ (cs : List ℤ) (q : Point) (table : List ℕ) (n : ℕ) (before : List Float) where
  abbrev left_to_draw : ℕ → List Float
  left_to_draw i = offsets_of cs q (rows_in table i (n - i))

  abbrev all_drawn : List Float
  all_drawn = sets before 0 (offsets_of cs q (rows_in table 0 n))

  pub record Draws (now : List Float) (i : ℕ) : Type 0 where
    pub same_length : length now ≡ length before
    pub none_far : any_far cs q (rows_in table i (n - i)) ≡ false
    pub to_come : sets now (4 * i) (left_to_draw i) ≡ all_drawn

  pub draws_begin : any_far cs q (rows_in table 0 n) ≡ false → Draws before 0
  draws_begin none =
      let all : n - 0 ≡ n = omega arith in
      record {
        same_length = refl;
        none_far = ap (λ (m : ℕ). any_far cs q (rows_in table 0 m)) all ∙ none;
        to_come = ap (λ (m : ℕ). sets before 0 (offsets_of cs q (rows_in table 0 m))) all;
      }

  module _ {now : List Float} {i : ℕ} (d : Draws now i) where
    first_or_later : i < n → (row_far cs q (row_at table i) ≡ false) × (any_far cs q (rows_in table (i + 1) (n - (i + 1))) ≡ false)
    unfolding any_far
    first_or_later h = neither_true (row_far cs q (row_at table i)) (any_far cs q (rows_in table (i + 1) (n - (i + 1)))) (sym (ap (any_far cs q) (next_row table i n h)) ∙ d.none_far)

    pub row_not_far : i < n → row_far cs q (row_at table i) ≡ false
    row_not_far h = (first_or_later h).0

    pub draws_on : i < n → {then : List Float} → then ≡ sets now (4 * i) (row_offsets cs q (row_at table i)) → Draws then (i + 1)
    unfolding offsets_of
    draws_on h e =
        record {
          same_length = ap length e ∙ length-sets now (4 * i) (row_offsets cs q (row_at table i)) ∙ d.same_length;
          none_far = (first_or_later h).1;
          to_come =
              ap (λ (l : List Float). sets l (4 * (i + 1)) (left_to_draw (i + 1))) e
              ∙ sets_then now (4 * i) (4 * (i + 1)) (row_offsets cs q (row_at table i)) (left_to_draw (i + 1)) (omega arith)
              ∙ sym (ap (λ (rs : List Row). sets now (4 * i) (offsets_of cs q rs)) (next_row table i n h))
              ∙ d.to_come;
        }

    pub draws_end : n ≤ i → now ≡ all_drawn
    unfolding offsets_of
    draws_end h = sym (ap (λ (rs : List Row). sets now (4 * i) (offsets_of cs q rs)) (no_row table i n h)) ∙ d.to_come
