-- How many of the numbers below n have a property that can be decided.
use Prim.Native.Nat.{ℕ, zero, suc, ◌-◌, ◌≤◌, ◌<◌}
use mathlib.Core.Path.{◌≡◌, refl, subst, sym}
use native.Mathlib.Decide.{ℕ_discrete, dec_lt}
use native.Mathlib.Omega.{arith}

-- whether one of the numbers below n has the property
pub some_below? : {P : ℕ → Type 0} → ((k : ℕ) → Dec (P k)) → (n : ℕ) → Dec ((k : ℕ) × (k < n) × P k)
some_below? P? zero = no (λ s. omega (arith, s.1))
some_below? {P} P? (suc n) = by_last (P? n) (some_below? P? n)
  where
    by_last : Dec (P n) → Dec ((k : ℕ) × (k < n) × P k) → Dec ((k : ℕ) × (k < suc n) × P k)
    by_last (yes p) before = yes (n, omega arith, p)
    by_last (no q) (yes s) = yes (s.0, omega (arith, s.1), s.2)
    by_last (no q) (no none) = no (λ s. at_or_before s (dec_lt s.0 n))
      where
        at_or_before : (s : (k : ℕ) × (k < suc n) × P k) → Dec (s.0 < n) → ⊥
        at_or_before s (yes less) = none (s.0, less, s.2)
        at_or_before s (no not_less) = let same : s.0 ≡ n = omega (arith, s.1) in q (subst P same s.2)

-- one more where the property holds
pub one_if : {A : Type 0} → Dec A → ℕ → ℕ
one_if (yes a) k = suc k
one_if (no n) k = k

pub count : {P : ℕ → Type 0} → ((k : ℕ) → Dec (P k)) → ℕ → ℕ
count P? zero = zero
count P? (suc n) = one_if (P? n) (count P? n)

pub count_at_most_all : {P : ℕ → Type 0} (P? : (k : ℕ) → Dec (P k)) (n : ℕ) → count P? n ≤ n
unfolding count one_if
count_at_most_all P? zero = omega arith
count_at_most_all {P} P? (suc n) = by_last (P? n) (count_at_most_all P? n)
  where
    by_last : (a : Dec (P n)) → count P? n ≤ n → one_if a (count P? n) ≤ suc n
    by_last (yes p) h = omega arith
    by_last (no q) h = omega arith

module _ {P Q : ℕ → Type 0} (P? : (k : ℕ) → Dec (P k)) (Q? : (k : ℕ) → Dec (Q k)) where
  -- what has P has Q: no more have P
  pub count_grows : (n : ℕ) → ((k : ℕ) → k < n → P k → Q k) → count P? n ≤ count Q? n
  unfolding count one_if
  count_grows zero sub = omega arith
  count_grows (suc n) sub = by_last (P? n) (Q? n) (sub n (omega arith)) (count_grows n (λ k h. sub k (omega arith)))
    where
      by_last : (a : Dec (P n)) (b : Dec (Q n)) → (P n → Q n) → count P? n ≤ count Q? n → one_if a (count P? n) ≤ one_if b (count Q? n)
      by_last (yes p) (yes q) s h = omega arith
      by_last (yes p) (no q) s h = absurd (q (s p))
      by_last (no p) (yes q) s h = omega arith
      by_last (no p) (no q) s h = omega arith

  -- and fewer, where one number has Q alone
  pub count_grows_by_one : (n : ℕ) → ((k : ℕ) → k < n → P k → Q k) → (c : ℕ) → c < n → (P c → ⊥) → Q c → count P? n < count Q? n
  unfolding count one_if
  count_grows_by_one zero sub c h p q = absurd (omega arith)
  count_grows_by_one (suc n) sub c h p q = at_or_before (dec_lt c n) (count_grows_by_one n (λ k l. sub k (omega arith)) c)
    where
      here : c ≡ n → (a : Dec (P n)) (b : Dec (Q n)) → one_if a (count P? n) < one_if b (count Q? n)
      here e (yes p') b = absurd (p (subst P (sym e) p'))
      here e (no p') (yes q') = omega (arith, count_grows n (λ k l. sub k (omega arith)))
      here e (no p') (no q') = absurd (q' (subst Q e q))

      before : count P? n < count Q? n → (a : Dec (P n)) (b : Dec (Q n)) → (P n → Q n) → one_if a (count P? n) < one_if b (count Q? n)
      before l (yes p') (yes q') s = omega arith
      before l (yes p') (no q') s = absurd (q' (s p'))
      before l (no p') (yes q') s = omega arith
      before l (no p') (no q') s = omega arith

      at_or_before : Dec (c < n) → (c < n → (P c → ⊥) → Q c → count P? n < count Q? n) → one_if (P? n) (count P? n) < one_if (Q? n) (count Q? n)
      at_or_before (yes less) r = before (r less p q) (P? n) (Q? n) (sub n (omega arith))
      at_or_before (no not_less) r = here (omega arith) (P? n) (Q? n)

-- fewer than n of the n numbers, where one of them does not have the property
pub count_misses_one : {P : ℕ → Type 0} (P? : (k : ℕ) → Dec (P k)) (n c : ℕ) → c < n → (P c → ⊥) → count P? n < n
count_misses_one P? n c h p =
    omega (arith, count_grows_by_one P? all n (λ k l q. tt) c h p tt, count_at_most_all all n)
  where
    all : (k : ℕ) → Dec (Unit {0})
    all k = yes tt

-- and two fewer, where two of them do not
pub count_misses_two : {P : ℕ → Type 0} (P? : (k : ℕ) → Dec (P k)) (n c e : ℕ) → c < n → e < n → (c ≡ e → ⊥) → (P c → ⊥) → (P e → ⊥) → count P? n ≤ n - 2
count_misses_two {P} P? n c e h k apart p q =
    omega (arith, count_grows_by_one P? but_e n (λ j l s. λ m. q (subst P m s)) c h p apart, count_misses_one but_e n e k (λ m. m refl))
  where
    but_e : (j : ℕ) → Dec (j ≡ e → ⊥)
    but_e j = by_test (ℕ_discrete j e)
      where
        by_test : Dec (j ≡ e) → Dec (j ≡ e → ⊥)
        by_test (yes m) = no (λ f. f m)
        by_test (no m) = yes m
