-- Searches over a range of places, as iterators run them.
use mathlib.Core.Bool.{Bool, true, false}
use mathlib.Core.List.{List}
use mathlib.Core.Path.{◌≡◌, refl, sym, subst}
use Prim.Native.Nat.{ℕ, ◌+◌, ◌-◌, ◌≤◌, ◌<◌}
use native.Mathlib.Decide.{dec_lt}
use native.Mathlib.Omega.{arith}
use lib.ListN.{length}
use borrow.Author.Tests.{lt-ltb, le-ltb}
use denote.Param.Members.{Mut}
use denote.Ref.{Bor}
use Rattle.std.specs.Prelude.{Option, Some, None, ltb}
use Rattle.std.specs.declared.ops.Range.{Range}
use Rattle.std.specs.Bool.{⊤, MatchBool}
use Rattle.std.specs.Fn.{Called, CalledAt}
use Rattle.std.specs.Iterator.{YieldsThen}
use Rattle.std.specs.List.{range_with_len, FoldsTo, AllWithin, HoldsAt}
use Rattle.std.specs.Option.{MatchOption}
use Rattle.std.proofs.iter.Yields.{nat_range_steps}
use Rattle.std.proofs.lemmas.Iterator.{first_from_Range, cases_from_any, YieldsList-from_range}
use Rattle.std.proofs.lemmas.List.FromFn.{length-range_with_len, get_or-range_with_len}
use Rattle.cells.specs.Least.{least, before}
use Rattle.cells.proofs.Least.{not_both, least_bounds, holds_at_least, fails_before_least, least_from}

-- ---- what `before` says of a place

module _ {n i : ℕ} where
  pub is_before : {j : ℕ} → Some j ≡ before n i → (j ≡ i) × (i < n)
  is_before {j} e = by_place (dec_lt i n)
    where
      by_place : Dec (i < n) → (j ≡ i) × (i < n)
      by_place (yes h) = let found : Some j ≡ Some i = rw (lt-ltb i n h, before) at e in (cc, h)
      by_place (no h) = let none : Some j ≡ None = rw (le-ltb i n (omega arith), before) at e in cc

  pub not_before : None ≡ before n i → n ≤ i
  not_before e = by_place (dec_lt i n)
    where
      by_place : Dec (i < n) → n ≤ i
      by_place (yes h) = let found : None ≡ Some i = rw (lt-ltb i n h, before) at e in cc
      by_place (no h) = omega arith

  pub at_the_least : {j : ℕ} → j ≡ i → j < n → Some j ≡ before n i
  at_the_least {j} e h = subst (λ (k : ℕ). Some j ≡ before n k) e (rw (lt-ltb j n h, before) refl)

  pub past_the_end : n ≤ i → None ≡ before n i
  past_the_end h = rw (le-ltb i n h, before) refl

-- ---- the least place

module _ (t : ℕ → Bool) (a n : ℕ) where
  -- the test holds at i, and at no place from a on before it
  pub before_it : {i : ℕ} → a ≤ i → i < n → t i ≡ true → ((k : ℕ) → a ≤ k → k < i → t k ≡ false) → Some i ≡ before n (least t (n - a) a)
  before_it {i} h l e none =
      let here : i ≡ least t (n - a) a = least_from t a n i h l e none in
      subst (λ (k : ℕ). Some i ≡ before n k) here (rw (lt-ltb i n l, before) refl)

  -- it holds at no place from a on and before n
  none_there : ((k : ℕ) → a ≤ k → k < n → t k ≡ false) → ltb (least t (n - a) a) n ≡ false
  none_there none = past (dec_lt (least t (n - a) a) n)
    where
      past : Dec (least t (n - a) a < n) → ltb (least t (n - a) a) n ≡ false
      past (yes p) =
          absurd (not_both (holds_at_least t (n - a) a (omega (arith, least_bounds t (n - a) a))) (none (least t (n - a) a) (least_bounds t (n - a) a).0 p))
      past (no p) = le-ltb _ _ (omega arith)

  pub none_before : ((k : ℕ) → a ≤ k → k < n → t k ≡ false) → None ≡ before n (least t (n - a) a)
  none_before none = rw (none_there none, before) refl

  -- it holds at some place from a on and before n
  some_there : {i : ℕ} → a ≤ i → i < n → t i ≡ true → ltb (least t (n - a) a) n ≡ true
  some_there {i} h l e = lt-ltb _ _ (past (dec_lt (least t (n - a) a) n))
    where
      past : Dec (least t (n - a) a < n) → least t (n - a) a < n
      past (yes p) = p
      past (no p) = absurd (not_both e (fails_before_least t (n - a) a i h (omega arith)))

module _ {F : Type 0} (t : ℕ → Bool) (s u : Range ℕ) (f : F) {a b n : ℕ} (begins : s.start ≡ a) (ends : s.end ≡ b) (many : b - a ≡ n) where
  -- `find`: the least place of the range at which the test holds
  pub least_from_find : {g : Mut F (Bor ℕ × Unit {0}) Bool} (r : Option ℕ) → (xs : List ℕ) × (j : F) × YieldsThen nat_range_steps s xs r u × FoldsTo (λ p x q. CalledAt g p x false q) f xs j × MatchOption r ⊤ (λ x. (h : F) × CalledAt g j x true h) → ((x : ℕ) (q : F) → CalledAt g f x true q → t x ≡ true) → ((x : ℕ) (q : F) → CalledAt g f x false q → (q ≡ f) × (t x ≡ false)) → r ≡ before b (least t n a)
  least_from_find r ran holds fails =
      rw (← many, ← begins, ← ends) (by r (first_from_Range s u f r (λ x. t x ≡ true) (λ x. t x ≡ false) ran holds fails))
    where
      by : (o : Option ℕ) → MatchOption o ((k : ℕ) → s.start ≤ k → k < s.end → t k ≡ false) (λ i. (s.start ≤ i) × (i < s.end) × (t i ≡ true) × ((k : ℕ) → s.start ≤ k → k < i → t k ≡ false)) → o ≡ before s.end (least t (s.end - s.start) s.start)
      by (Some i) m = before_it t s.start s.end m.0 m.1 m.2 m.3
      by None m = none_before t s.start s.end m

  -- `any`: whether it holds at some place of the range
  pub some_from_any : {g : Mut F (ℕ × Unit {0}) Bool} (r : Bool) → (xs : List ℕ) × (o : Option ℕ) × (j : F) × YieldsThen nat_range_steps s xs o u × FoldsTo (λ p x q. Called g p (x, tt) false q) f xs j × MatchOption o (r ≡ false) (λ x. (r ≡ true) × ((h : F) × Called g j (x, tt) true h)) → ((x : ℕ) (q : F) → Called g f (x, tt) true q → t x ≡ true) → ((x : ℕ) (q : F) → Called g f (x, tt) false q → (q ≡ f) × (t x ≡ false)) → r ≡ ltb (least t n a) b
  some_from_any r ran holds fails =
      rw (← many, ← begins, ← ends)
      (by r (cases_from_any u f r (λ x. t x ≡ true) (λ x. t x ≡ false) ran (YieldsList-from_range s.start s.end _ refl refl) holds fails))
    where
      all : List ℕ
      all = range_with_len s.start (s.end - s.start)

      long : length all ≡ s.end - s.start
      long = length-range_with_len s.start (s.end - s.start)

      by : (c : Bool) → MatchBool c ((k : ℕ) × (k < length all) × HoldsAt (λ x. t x ≡ true) all k) (AllWithin (λ x. t x ≡ false) all 0 (length all)) → c ≡ ltb (least t (s.end - s.start) s.start) s.end
      by true m =
          let i : m.0 < s.end - s.start = omega (arith, long, m.1) in
          sym (some_there t s.start s.end {i = s.start + m.0} (omega arith) (omega arith) (subst (λ (k : ℕ). t k ≡ true) (get_or-range_with_len s.start (s.end - s.start) m.0 0 i) (m.2 0)))
      by false m =
          sym (none_there t s.start s.end (λ k h l. subst (λ (j : ℕ). t j ≡ false) (omega (arith, get_or-range_with_len s.start (s.end - s.start) (k - s.start) 0 (omega arith))) (m (k - s.start) 0 (omega arith) (omega (arith, long)))))
