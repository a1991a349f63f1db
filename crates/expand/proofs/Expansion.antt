-- The expansion step by step: what a line or a cell hands on, how much of the table that takes, and what is written there.
use mathlib.Core.Bool.{Bool, true, false, ◌||◌}
use mathlib.Core.List.{List}
use mathlib.Core.Path.{◌≡◌, refl, ap, ap₂, sym, subst, ◌∙◌}
use Prim.Native.Nat.{ℕ, zero, suc, ◌+◌, ◌*◌, ◌-◌, ◌<◌, ◌≤◌}
use native.Mathlib.Numerals.{add-one, sub-one}
use native.Mathlib.Omega.{arith}
use borrow.Author.Tests.{eqb-false}
use lib.Dec.{eqb}
use lib.ListN.{length, set}
use lib.Seq.{sets}
use lib.IntN.{ℤ}
use lib.Signed.{le_z}
use Rattle.exact.proofs.Order.{𝟘}
use Rattle.exact.proofs.Truth.{neither_true}
use Rattle.plane.specs.Cone.{cross}
use Rattle.limits.specs.Limits.{wall}
use Rattle.exact.proofs.Lent.{sets_append}
use Rattle.fan.specs.Sight.{Floor, Sight, fan, follow, hand_on, numbers, row_count, crossings, Whole}
use Rattle.fan.specs.Sight.Place.{between, right_of_r, left_of_l}
use Rattle.fan.specs.Sight.Sight.{row, pass, both, cut}
use Rattle.fan.specs.Sight.Whole.{whole_row, whole_pass, whole_both}
use Rattle.expand.specs.Floor.{seen_at, placed}
use Rattle.expand.specs.Narrows.{Narrows}
use Rattle.expand.specs.Remains.{Remains, Follows}
use Rattle.fan.proofs.Trees.{follow_too_far, follow_across, fan_last, fan_both, fan_skips, fan_ends, four_numbers_a_row}

-- ---- where sight ends

pub no_wall_where_passed : (across : ℕ) (b : Bool) → (eqb across wall || b) ≡ false → across ≡ wall → ⊥
no_wall_where_passed across b e = eqb-false _ _ (neither_true (eqb across wall) b e).0

-- ---- what a line is followed to

not_cut : {t : Sight} → Whole t → t ≡ cut → ⊥
not_cut whole_row e = let z : ◌≡◌ {A = ℕ} 0 1 = cc in omega arith
not_cut (whole_pass w) e = let z : ◌≡◌ {A = ℕ} 0 1 = cc in omega arith
not_cut (whole_both w x) e = let z : ◌≡◌ {A = ℕ} 0 1 = cc in omega arith

-- a free line is passed, and what is beyond has one crossing less to spend
pub record Passed (F : Floor) (n f r l : ℕ) : Type 0 where
  pub one_unentered : 1 ≤ n
  pub is : follow F n f r l ≡ pass f r l (fan F (follow F (n - 1)) (F.more (F.back f)) (F.next (F.back f)) r l)

pub passed : (F : Floor) (n f r l : ℕ) → F.ends f ≡ false → Whole (follow F n f r l) → Passed F n f r l
unfolding hand_on
passed F zero f r l e w = absurd (not_cut w (follow_too_far F f r l e))
passed F (suc n) f r l e w = record { one_unentered = omega arith; is = rw sub-one (follow_across F n f r l e) }

-- ---- what a side and those after it are handed on as

skipping : (F : Floor) (on : ℕ → ℕ → ℕ → Sight) (e r l m : ℕ) → (m ≡ 0 → ⊥) → F.place (F.left_end e) r l ≡ right_of_r → fan F on m e r l ≡ fan F on (m - 1) (F.next e) r l
skipping F on e r l zero h p = absurd (h refl)
skipping F on e r l (suc m) h p = rw sub-one (fan_skips F on m e r l p)

ending : (F : Floor) (on : ℕ → ℕ → ℕ → Sight) (e r l m : ℕ) → (m ≡ 0 → ⊥) → F.place (F.left_end e) r l ≡ left_of_l → fan F on m e r l ≡ on e r l
ending F on e r l zero h p = absurd (h refl)
ending F on e r l (suc m) h p = fan_ends F on m e r l p

-- sides are left out one after another, each ending on or right of the right limit; where one ends on or left of the left limit, none follows it
module _ (F : Floor) (r l m e : ℕ) where
  pub narrows_none : Narrows F r l m e m e
  narrows_none = record { no_more = omega arith; same = λ on. refl }

  module _ {n f : ℕ} (s : Narrows F r l m e n f) (h : 0 < n) where
    pub narrows_one_more : F.place (F.left_end f) r l ≡ right_of_r → Narrows F r l m e (n - 1) (F.next f)
    narrows_one_more p =
        record {
          no_more = omega (arith, s.no_more);
          same = λ on. s.same on ∙ skipping F on f r l n (λ k. omega arith) p;
        }

    pub narrows_to_one : F.place (F.left_end f) r l ≡ left_of_l → Narrows F r l m e 0 f
    narrows_to_one p =
        record {
          no_more = omega arith;
          same = λ on. s.same on ∙ ending F on f r l n (λ k. omega arith) p ∙ sym (fan_last F on f r l);
        }

pub is_right_of_r : (zs : List ℤ) (v r l : ℕ) → le_z (cross (seen_at zs r) (seen_at zs v)) 𝟘 ≡ true → right_of_r ≡ placed zs v r l
unfolding placed
is_right_of_r zs v r l h = rw (h, placed)

pub is_left_of_l : (zs : List ℤ) (v r l : ℕ) → le_z (cross (seen_at zs r) (seen_at zs v)) 𝟘 ≡ false → le_z (cross (seen_at zs v) (seen_at zs l)) 𝟘 ≡ true → left_of_l ≡ placed zs v r l
unfolding placed
is_left_of_l zs v r l h k = rw (h, k, placed)

pub is_between : (zs : List ℤ) (v r l : ℕ) → le_z (cross (seen_at zs r) (seen_at zs v)) 𝟘 ≡ false → le_z (cross (seen_at zs v) (seen_at zs l)) 𝟘 ≡ false → between ≡ placed zs v r l
unfolding placed
is_between zs v r l h k = rw (h, k, placed)

module _ (F : Floor) (n e r l : ℕ) where
  abbrev handed : ℕ → Sight
  handed m = fan F (follow F n) m e r l

  pub hands_the_last : {m : ℕ} → m ≡ 0 → handed m ≡ follow F n e r l
  hands_the_last h = rw h (fan_last F (follow F n) e r l)

  pub hands_both : (m : ℕ) → (m ≡ 0 → ⊥) → F.place (F.left_end e) r l ≡ between → handed m ≡ both (follow F n e r (F.left_end e)) (fan F (follow F n) (m - 1) (F.next e) (F.left_end e) l)
  hands_both zero h p = absurd (h refl)
  hands_both (suc m) h p = rw sub-one (fan_both F (follow F n) m e r l p)

-- ---- the room that a tree's rows take in a table of n numbers, from `at` on

abbrev pub Room : ℕ → ℕ → Sight → Type 0
Room at n t = Whole t × (at + 4 * row_count t ≤ n)

whole_beyond : {f r l : ℕ} {t : Sight} → Whole (pass f r l t) → Whole t
whole_beyond (whole_pass w) = w

whole_halves : {t u : Sight} → Whole (both t u) → Whole t × Whole u
whole_halves (whole_both w x) = (w, x)

module _ (at n : ℕ) {s : Sight} where
  pub room_for_a_row : {f r l k : ℕ} → s ≡ row f r l k → Room at n s → at + 4 ≤ n
  unfolding row_count
  room_for_a_row e h = (subst (Room at n) e h).1

  pub room_for_the_first : {t u : Sight} → s ≡ both t u → Room at n s → Room at n t
  unfolding row_count
  room_for_the_first {t} {u} e h = let j : Whole (both t u) × (at + 4 * (row_count t + row_count u) ≤ n) = subst (Room at n) e h in ((whole_halves j.0).0, omega (arith, j.1))

-- ---- what is followed

pub row_follows : (old : List ℕ) (at left : ℕ) {f r l k : ℕ} {s : Sight} → s ≡ row f r l k → Follows old at left s (set (set (set (set old at f) (at + 1) r) (at + 2) l) (at + 3) k) 1 left
unfolding numbers row_count crossings
row_follows old at left {f} {r} {l} {k} e =
    let d₂ : at + 2 ≡ suc (suc at) = omega arith in
    let d₃ : at + 3 ≡ suc (suc (suc at)) = omega arith in
    subst (λ (s : Sight). Follows old at left s (set (set (set (set old at f) (at + 1) r) (at + 2) l) (at + 3) k) 1 left) (sym e) (record { passages = omega arith; no_more = omega arith; rows = λ i. refl; same = λ i. rw (add-one, d₂, d₃) })

-- of two lines the first takes all passages
pub ends_in_the_first : {old new : List ℕ} {at left i j : ℕ} {t a b : Sight} → t ≡ both a b → Follows old at left a new i j → j ≡ 0 → Follows old at left t new i j
unfolding row_count crossings
ends_in_the_first {t = t} {a} {b} e w z =
    let c : crossings t ≡ crossings a + crossings b = ap crossings e in
    let r : row_count t ≡ row_count a + row_count b = ap row_count e in
    record {
      passages = omega (arith, c, w.passages, z);
      no_more = omega (arith, r, w.no_more);
      rows = λ some. absurd (omega (arith, some, z));
      same = λ some. absurd (omega (arith, some, z));
    }

-- ---- what remains to be followed

pub all_remains : (old : List ℕ) (at left : ℕ) (t : Sight) (p : ℕ) → p ≡ at → Whole t → Remains old at left t old p 0 left t
all_remains old at left t p d w =
    record { whole = w; same_length = refl; from = omega (arith, d); rows = omega arith; passages = omega arith; same = ap (λ (i : ℕ). sets old i (numbers t)) d }

module _ (old : List ℕ) (at left : ℕ) (t : Sight) (new : List ℕ) (p k n : ℕ) {u : Sight} (h : Remains old at left t new p k n u) where
  -- a line is passed
  pub beyond_remains : {f r l : ℕ} {s : Sight} → u ≡ pass f r l s → 0 < n → Remains old at left t new p k (n - 1) s
  unfolding numbers row_count crossings
  beyond_remains {s = s} e i =
      let j = subst (Remains old at left t new p k n) e h in
      record {
        whole = whole_beyond j.whole;
        same_length = j.same_length;
        from = j.from;
        rows = j.rows;
        passages = let q : crossings t + n ≡ left + (crossings s + 1) = j.passages in omega (arith, q);
        same = j.same;
      }

  -- of what remains, some is followed
  pub less_remains : {newer : List ℕ} {o i j q x : ℕ} {s : Sight} → Remains new p n u newer o i j s → x ≡ k + i → q ≡ at + 4 * x → Remains old at left t newer q x j s
  less_remains {newer} {o} {q = q} {s = s} g c f =
      let from_there : q ≡ o = omega (arith, c, f, g.from, h.from) in
      record {
        whole = g.whole;
        same_length = g.same_length ∙ h.same_length;
        from = f;
        rows = omega (arith, c, g.rows, h.rows);
        passages = omega (arith, g.passages, h.passages);
        same = ap (λ (i : ℕ). sets newer i (numbers s)) from_there ∙ g.same ∙ h.same;
      }

  -- the first of two lines is followed to its rows
  pub second_remains :
      {a b : Sight} {newer : List ℕ} {i j q x : ℕ} → u ≡ both a b → Follows new p n a newer i j → 0 < j → length newer ≡ length new → x ≡ k + i → q ≡ at + 4 * x → Remains old at left t newer q x j b
  unfolding numbers row_count crossings
  second_remains {a} {b} {newer} {i} {j} {q} e w some same_length c f =
      let g = subst (Remains old at left t new p k n) e h in
      let count : i ≡ row_count a = w.rows some in
      let behind : q ≡ p + length (numbers a) = omega (arith, c, f, g.from, count, four_numbers_a_row a) in
      record {
        whole = (whole_halves g.whole).1;
        same_length = same_length ∙ g.same_length;
        from = f;
        rows = let v : row_count t ≡ k + (row_count a + row_count b) = g.rows in omega (arith, c, v, count);
        passages = let v : crossings t + n ≡ left + (crossings a + crossings b) = g.passages in omega (arith, v, w.passages, some);
        same = ap₂ (λ (o : List ℕ) (i : ℕ). sets o i (numbers b)) (w.same some) behind ∙ sets_append new p (numbers a) (numbers b) ∙ g.same;
      }

  -- what remains is followed
  pub none_remains : {newer : List ℕ} {i j x : ℕ} → Follows new p n u newer i j → x ≡ k + i → Follows old at left t newer x j
  none_remains w d =
      record {
        passages = omega (arith, h.passages, w.passages);
        no_more = omega (arith, d, h.rows, w.no_more);
        rows = λ i. omega (arith, d, h.rows, w.rows i);
        same = λ i. w.same i ∙ h.same;
      }

  -- what remains has room
  pub room_remains : Room at (length old) t → Room p (length new) u
  room_remains r = (h.whole, omega (arith, r.1, h.from, h.rows, h.same_length))

  -- ---- following ends where no passage is left

  -- the last that was left is taken
  pub last_is_taken : {f r l : ℕ} {s : Sight} → u ≡ pass f r l s → n - 1 ≡ 0 → n ≤ crossings u
  unfolding crossings
  last_is_taken {s = s} e z = let c : crossings u ≡ crossings s + 1 = ap crossings e in omega (arith, c, z)

  -- the first of two lines takes all
  pub first_takes_all : {a b : Sight} {newer : List ℕ} {i j : ℕ} → u ≡ both a b → Follows new p n a newer i j → j ≡ 0 → n ≤ crossings u
  unfolding crossings
  first_takes_all {a} {b} e w z = let c : crossings u ≡ crossings a + crossings b = ap crossings e in omega (arith, c, w.passages, z)

  pub all_is_taken : n ≤ crossings u → left ≤ crossings t
  all_is_taken i = omega (arith, i, h.passages)

  pub ends_there : n ≤ crossings u → {newer : List ℕ} → Follows old at left t newer k 0
  ends_there i =
      record {
        passages = omega (arith, i, h.passages);
        no_more = omega (arith, h.rows);
        rows = λ z. absurd (omega (arith, z));
        same = λ z. absurd (omega (arith, z));
      }
