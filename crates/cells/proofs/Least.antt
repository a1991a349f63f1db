-- Laws of the least place: one step of a loop that seeks it, and what it says of the places before it.
use mathlib.Core.Bool.{Bool, true, false}
use mathlib.Core.Path.{◌≡◌, refl, sym, ◌∙◌, ap, ap₂, subst}
use Prim.Native.Nat.{ℕ, zero, suc, ◌+◌, ◌-◌, ◌≤◌, ◌<◌}
use native.Mathlib.Numerals.{add-one}
use native.Mathlib.Decide.{dec_lt}
use native.Mathlib.Omega.{arith}
use Rattle.cells.specs.Least.{least}

-- a test does not both hold and fail
pub not_both : {b : Bool} → b ≡ true → b ≡ false → ⊥
not_both p q = let z : ◌≡◌ {A = ℕ} 0 1 = cc in omega arith

-- ---- a loop's steps

pub least_hit : (t : ℕ → Bool) (n i : ℕ) → i < n → t i ≡ true → least t (n - i) i ≡ i
unfolding least
least_hit t n i h e =
    let k : n - i ≡ suc (n - suc i) = omega arith in
    rw (k, e, least)

pub least_miss : (t : ℕ → Bool) (n i : ℕ) → i < n → t i ≡ false → least t (n - i) i ≡ least t (n - (i + 1)) (i + 1)
unfolding least
least_miss t n i h e =
    let k : n - i ≡ suc (n - (i + 1)) = omega arith in
    rw (k, e, add-one i, least)

pub least_end : (t : ℕ → Bool) (n i : ℕ) → n ≤ i → least t (n - i) i ≡ i
unfolding least
least_end t n i h =
    let k : n - i ≡ zero = omega arith in
    rw k

-- ---- what it says

module _ (t : ℕ → Bool) where
  pub least_bounds : (n i : ℕ) → (i ≤ least t n i) × (least t n i ≤ i + n)
  unfolding least
  least_bounds zero i = (omega arith, omega arith)
  least_bounds (suc n) i = by_test (t i) (least_bounds n (suc i))
    where
      by_test : (b : Bool) → (suc i ≤ least t n (suc i)) × (least t n (suc i) ≤ suc i + n) → (i ≤ elim b [ true ↦ i | false ↦ least t n (suc i) ]) × (elim b [ true ↦ i | false ↦ least t n (suc i) ] ≤ i + suc n)
      by_test true h = (omega arith, omega arith)
      by_test false h = (omega arith, omega arith)

  -- the test holds at the least place
  pub holds_at_least : (n i : ℕ) → least t n i < i + n → t (least t n i) ≡ true
  unfolding least
  holds_at_least zero i h = absurd (omega arith)
  holds_at_least (suc n) i h = by_test (t i) refl (holds_at_least n (suc i)) h
    where
      by_test : (b : Bool) → t i ≡ b → (least t n (suc i) < suc i + n → t (least t n (suc i)) ≡ true) → elim b [ true ↦ i | false ↦ least t n (suc i) ] < i + suc n → t (elim b [ true ↦ i | false ↦ least t n (suc i) ]) ≡ true
      by_test true e r k = e
      by_test false e r k = r (omega arith)

  -- and at no place before it
  pub fails_before_least : (n i k : ℕ) → i ≤ k → k < least t n i → t k ≡ false
  unfolding least
  fails_before_least zero i k h l = absurd (omega arith)
  fails_before_least (suc n) i k h l = by_test (t i) refl (fails_before_least n (suc i) k) l
    where
      at_or_after : t i ≡ false → (suc i ≤ k → k < least t n (suc i) → t k ≡ false) → k < least t n (suc i) → Dec (i < k) → t k ≡ false
      at_or_after e r m (yes later) = r later m
      at_or_after e r m (no not_later) = let same : k ≡ i = omega arith in subst (λ (j : ℕ). t j ≡ false) (sym same) e

      by_test : (b : Bool) → t i ≡ b → (suc i ≤ k → k < least t n (suc i) → t k ≡ false) → k < elim b [ true ↦ i | false ↦ least t n (suc i) ] → t k ≡ false
      by_test true e r m = absurd (omega arith)
      by_test false e r m = at_or_after e r m (dec_lt i k)

  -- where the least place is none of the first n, the test holds at none of them
  pub none_holds : (n : ℕ) → n ≤ least t n 0 → (k : ℕ) → k < n → t k ≡ false
  none_holds n h k l = fails_before_least n 0 k (omega arith) (omega arith)

  -- and where it holds at none of them, none of them is the least
  pub none_is_least : (n : ℕ) → ((k : ℕ) → k < n → t k ≡ false) → {i : ℕ} → i ≡ least t n 0 → i < n → ⊥
  none_is_least n none {i} e h =
      not_both (holds_at_least n 0 (omega arith)) (subst (λ (k : ℕ). t k ≡ false) e (none i h))

  pub least_is_none : (n i : ℕ) → ((k : ℕ) → i ≤ k → k < i + n → t k ≡ false) → least t n i ≡ i + n
  least_is_none n i none = past (dec_lt (least t n i) (i + n))
    where
      past : Dec (least t n i < i + n) → least t n i ≡ i + n
      past (yes p) = absurd (not_both (holds_at_least n i p) (none (least t n i) (least_bounds n i).0 p))
      past (no p) = omega (arith, least_bounds n i)

-- ---- a loop that seeks the least of the first n places has come to i

pub record Seeks (t : ℕ → Bool) (n i : ℕ) : Type 0 where
  pub within : i ≤ n
  pub same : least t n 0 ≡ least t (n - i) i

pub seek_begins : (t : ℕ → Bool) (n : ℕ) → Seeks t n 0
seek_begins t n =
    let all : n ≡ n - 0 = omega arith in
    record { within = omega arith; same = ap (λ (k : ℕ). least t k 0) all }

pub seek_goes_on : {t : ℕ → Bool} {n i : ℕ} → Seeks t n i → i < n → t i ≡ false → Seeks t n (i + 1)
seek_goes_on {t} {n} {i} s h e = record { within = omega arith; same = s.same ∙ least_miss t n i h e }

pub seek_found : {t : ℕ → Bool} {n i : ℕ} → Seeks t n i → i < n → t i ≡ true → i ≡ least t n 0
seek_found {t} {n} {i} s h e = sym (s.same ∙ least_hit t n i h e)

pub seek_ends : {t : ℕ → Bool} {n i : ℕ} → Seeks t n i → n ≤ i → i ≡ least t n 0
seek_ends {t} {n} {i} s h = sym (s.same ∙ least_end t n i h)

-- it passes places at which the test fails
pub seek_passes : {t : ℕ → Bool} {n i : ℕ} → Seeks t n i → (k : ℕ) → i + k ≤ n → ((j : ℕ) → i ≤ j → j < i + k → t j ≡ false) → Seeks t n (i + k)
seek_passes {t} {n} {i} s zero h none = let same : i + zero ≡ i = omega arith in rw same s
seek_passes {t} {n} {i} s (suc k) h none =
    let same : i + suc k ≡ i + k + 1 = omega arith in
    rw same (seek_goes_on (seek_passes s k (omega arith) (λ j l m. none j l (omega arith))) (omega arith) (none (i + k) (omega arith) (omega arith)))

-- where the test holds at i and at no place before it, i is the least
pub least_is : (t : ℕ → Bool) (n i : ℕ) → i < n → t i ≡ true → ((k : ℕ) → k < i → t k ≡ false) → i ≡ least t n 0
least_is t n i h e none =
    let same : 0 + i ≡ i = omega arith in
    seek_found (subst (Seeks t n) same (seek_passes (seek_begins t n) i (omega arith) (λ j l m. none j (omega arith)))) h e

-- two tests that agree at each of n places have the same least there
pub least_by_the_same_test : (s t : ℕ → Bool) (n i : ℕ) → ((k : ℕ) → i ≤ k → k < i + n → s k ≡ t k) → least s n i ≡ least t n i
unfolding least
least_by_the_same_test s t zero i same = refl
least_by_the_same_test s t (suc n) i same =
    ap₂ (λ (b : Bool) (k : ℕ). elim b [ true ↦ i | false ↦ k ]) (same i (omega arith) (omega arith))
    (least_by_the_same_test s t n (suc i) (λ k l m. same k (omega arith) (omega arith)))

-- where the test holds at i and at no place from a on before it, i is the least of those from a on
pub least_from : (t : ℕ → Bool) (a n i : ℕ) → a ≤ i → i < n → t i ≡ true → ((k : ℕ) → a ≤ k → k < i → t k ≡ false) → i ≡ least t (n - a) a
least_from t a n i h l e none = past (dec_lt (least t (n - a) a) i) (dec_lt i (least t (n - a) a))
  where
    past : Dec (least t (n - a) a < i) → Dec (i < least t (n - a) a) → i ≡ least t (n - a) a
    past (yes p) q =
        absurd (not_both (holds_at_least t (n - a) a (omega (arith, least_bounds t (n - a) a))) (none (least t (n - a) a) (least_bounds t (n - a) a).0 p))
    past (no p) (yes q) = absurd (not_both e (fails_before_least t (n - a) a i h q))
    past (no p) (no q) = omega arith
