-- Following lines with a ceiling of crossings (document 02, A13).
use mathlib.Core.Bool.{Bool, true, false}
use mathlib.Core.List.{List}
use mathlib.Core.Path.{◌≡◌, refl, sym, ap, ◌∙◌}
use Prim.Native.Nat.{ℕ, ◌+◌, ◌*◌, ◌-◌, ◌<◌, ◌≤◌}
use native.Mathlib.Decide.{dec_lt}
use native.Mathlib.Omega.{arith}
use borrow.Author.Tests.{lt-ltb, le-ltb}
use lib.ListN.{length, take}
use lib.Seq.{sets}
use lib.IntN.{ℤ}
use Rattle.exact.proofs.Lent.{first_is_new}
use Rattle.limits.specs.declared.Refusal.TheVariants as No
use Rattle.fan.specs.Sight.{Sight, numbers, row_count, crossings}
use Rattle.fan.proofs.Trees.{four_numbers_a_row}
use Rattle.expand.specs.Remains.{Follows}
use Rattle.sight.specs.Listing.{refuse, listed}
use Rattle.sight.specs.Ceiling.{exceeds, answer_up_to, up_to, tree_up_to, listed_up_to, enough, allowance}
use Rattle.sight.specs.declared.view.Query.{Query}
use Rattle.sight.specs.declared.list.Counts.{Counts}
use Rattle.limits.specs.declared.Refusal.{Refusal}
use Rattle.std.specs.Prelude.{Err, None, Ok, Option, Result, Some}

-- ---- the allowance

pub few_allowed : (n : ℕ) → n < enough → n + 1 ≡ allowance n
unfolding allowance
few_allowed n h = rw (lt-ltb n enough h, allowance) refl

pub all_allowed : (n : ℕ) → enough ≤ n → enough ≡ allowance n
unfolding allowance
all_allowed n h = rw (le-ltb n enough h, allowance) refl

pub some_allowed : (n : ℕ) → 0 < allowance n
some_allowed n = by (dec_lt n enough)
  where
    by : Dec (n < enough) → 0 < allowance n
    by (yes h) = omega (arith, few_allowed n h)
    by (no h) = let e = all_allowed n (omega arith) in omega (arith, e)

-- what fewer crossings than enough take of it tells whether they exceed the ceiling
module _ (n k : ℕ) (few : k < enough) where
  pub all_is_taken : allowance n ≤ k → exceeds k (Some n) ≡ true
  unfolding exceeds
  all_is_taken h = by (dec_lt n enough)
    where
      by : Dec (n < enough) → exceeds k (Some n) ≡ true
      by (yes i) = lt-ltb n k (omega (arith, few_allowed n i))
      by (no i) = let e = all_allowed n (omega arith) in absurd (omega (arith, e))

  pub some_is_left : k < allowance n → exceeds k (Some n) ≡ false
  unfolding exceeds
  some_is_left h = by (dec_lt n enough)
    where
      by : Dec (n < enough) → exceeds k (Some n) ≡ false
      by (yes i) = le-ltb n k (omega (arith, few_allowed n i))
      by (no i) = le-ltb n k (omega arith)

-- ---- following ends, or all is followed

module _ (n : ℕ) {a : ℕ} (is : a ≡ allowance n) (table : List ℕ) {old new : List ℕ} (t : Sight) {i j : ℕ} (w : Follows old 0 a t new i j) (few : crossings t < enough) where
  -- the answer where the crossings do or do not exceed the ceiling
  abbrev answer : Bool → Result Counts Refusal × List ℕ
  answer b = refuse b No.Ceiling table (Ok (record { rows = row_count t; crossings = crossings t }), sets table 0 (numbers t))

  pub ceiling_passed : j ≡ 0 → (Err No.Ceiling, table) ≡ tree_up_to (Some n) table t
  ceiling_passed z = ap answer (sym (all_is_taken n (crossings t) few (omega (arith, is, z, w.passages))))

  -- the rows stand at the beginning, and are copied
  pub ceiling_kept : 0 < j → 4 * row_count t ≤ length old → {after : List ℕ} → after ≡ sets table 0 (take (4 * i) new) → (Ok (record { rows = i; crossings = a - j }), after) ≡ tree_up_to (Some n) table t
  ceiling_kept some long e =
      let taken : a - j ≡ crossings t = omega (arith, w.passages, some) in
      let rows : take (4 * i) new ≡ numbers t = ap (take (4 * i)) (w.same some) ∙ first_is_new old (numbers t) (4 * i) (omega (arith, w.rows some, four_numbers_a_row t)) (omega (arith, long, w.rows some)) in
      let copied = e ∙ ap (sets table 0) rows in
      (λ x. (Ok (record { rows = w.rows some x; crossings = taken x }), copied x)) ∙ ap answer (sym (some_is_left n (crossings t) few (omega (arith, is, some, w.passages))))

-- without a ceiling all is followed
pub all_followed : (table : List ℕ) (t : Sight) {new : List ℕ} {i j : ℕ} → (i ≡ row_count t) × ((j ≡ crossings t) × (new ≡ sets table 0 (numbers t))) → (Ok (record { rows = i; crossings = j }), new) ≡ tree_up_to None table t
unfolding exceeds
all_followed table t h = λ x. (Ok (record { rows = h.0 x; crossings = h.1.0 x }), h.1.1 x)

-- the free lines that the pair passes before it answers: those of the listing, all of them, where they do not exceed the ceiling; else one more than the
-- ceiling, and none after it
module _ (n : ℕ) {old new : List ℕ} {t : Sight} {i j : ℕ} (w : Follows old 0 (allowance n) t new i j) (few : crossings t < enough) where
  pub passes_all : crossings t ≤ n → allowance n - j ≡ crossings t
  passes_all h = by (dec_lt n enough)
    where
      by : Dec (n < enough) → allowance n - j ≡ crossings t
      by (yes i) = omega (arith, few_allowed n i, w.passages)
      by (no i) = let e = all_allowed n (omega arith) in omega (arith, e, w.passages)

  pub passes_one_more : n < crossings t → allowance n - j ≡ n + 1
  passes_one_more h = omega (arith, few_allowed n (omega (arith, h, few)), w.passages)

  pub passes_at_most : allowance n - j ≤ n + 1
  passes_at_most = by (dec_lt n (crossings t))
    where
      by : Dec (n < crossings t) → allowance n - j ≤ n + 1
      by (yes h) = omega (arith, passes_one_more h)
      by (no h) = omega (arith, passes_all (omega arith))

-- ---- the listing

-- an answer that is not refused for the ceiling stays, and its table
up_to_stays : (c : Option ℕ) (table after : List ℕ) (a : Result Counts Refusal) → ((answer_up_to c table after a).0 ≡ Err No.Ceiling → ⊥) → answer_up_to c table after a ≡ (a, after)
up_to_stays c table after (Ok m) h = by_ceiling (exceeds m.crossings c) h
  where
    by_ceiling : (b : Bool) → ((refuse b No.Ceiling table (Ok (record { rows = m.rows; crossings = m.crossings }), after)).0 ≡ Err No.Ceiling → ⊥) → refuse b No.Ceiling table (Ok (record { rows = m.rows; crossings = m.crossings }), after) ≡ (Ok (record { rows = m.rows; crossings = m.crossings }), after)
    by_ceiling true h = absurd (h refl)
    by_ceiling false h = refl
up_to_stays c table after (Err r) h = refl

module _ (k : ℕ) (cs : List ℤ) (ts ds : List ℕ) (a : Query) (c : Option ℕ) (table : List ℕ) where
  -- what the listing without a ceiling is, the listing with one is up to it
  pub up_to_it : {p : Result Counts Refusal × List ℕ} → p ≡ listed k cs ts ds a table → up_to c table p ≡ listed_up_to k cs ts ds a c table
  unfolding listed_up_to
  up_to_it e = ap (up_to c table) e

  -- not refused for the ceiling, it is the listing without one
  pub as_without : ((listed_up_to k cs ts ds a c table).0 ≡ Err No.Ceiling → ⊥) → listed_up_to k cs ts ds a c table ≡ listed k cs ts ds a table
  unfolding listed_up_to
  as_without h = up_to_stays c table (listed k cs ts ds a table).1 (listed k cs ts ds a table).0 h

-- without a ceiling there is none
pub no_ceiling : (k : ℕ) (cs : List ℤ) (ts ds : List ℕ) (a : Query) (table : List ℕ) → listed_up_to k cs ts ds a None table ≡ listed k cs ts ds a table
unfolding listed_up_to exceeds
no_ceiling k cs ts ds a table = by_answer (listed k cs ts ds a table).0 (listed k cs ts ds a table).1
  where
    by_answer : (a : Result Counts Refusal) (after : List ℕ) → answer_up_to None table after a ≡ (a, after)
    by_answer (Ok m) after = refl
    by_answer (Err r) after = refl
