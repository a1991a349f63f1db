-- ℤ is an ordered ring: what `lib.Signed` lacks. A test and the fact that it decides, trichotomy, how the order goes with sums, differences
-- and products, and that what is positive is at least one.
use mathlib.Core.Path.{◌≡◌, refl, sym, ap, subst}
use mathlib.Core.Bool.{Bool, true, false, not}
use mathlib.Core.Logic.{◌⊎◌, inl, inr}
use Prim.Native.Nat.{zero, suc, ◌+◌, ◌*◌, ◌<◌, ◌≤◌}
use native.Mathlib.Nat.{mul-pos}
use native.Mathlib.Omega.{arith}
use lib.Dec.{T, ltb→lt, lt→ltb, leb→le, le→leb, nleb→lt}
use lib.IntN.{ℤ, pos, negsuc, suc_ℤ, pred_ℤ, neg_ℤ, ◌+ℤ◌, ◌-ℤ◌, ◌*ℤ◌, +ℤ-suc_ℤ, +ℤ-pred_ℤ, +ℤ_invr, +ℤ_idl, +ℤ_idr, +ℤ_comm, +ℤ-neg_ℤ_cancel, -ℤ_one}
use lib.Signed.{lt_z, le_z, ◌<ℤ◌, ◌≤ℤ◌, lt_z_yes, le_z_yes, lt_z_no, clash_ℤ, <ℤ-≤ℤ_trans}
use Rattle.exact.proofs.Ring.{by_steps}

-- ---- a test and its fact

is_true : (t : Bool) → T t → t ≡ true
is_true true h = refl
is_true false h = absurd h

is_false : (t : Bool) → (T t → ⊥) → t ≡ false
is_false true h = absurd (h tt)
is_false false h = refl

not_T : (t : Bool) → t ≡ false → T (not t)
not_T t e = subst (λ (u : Bool). T (not u)) (sym e) tt

pub ltZ_true : (a b : ℤ) → lt_z a b ≡ true → a <ℤ b
ltZ_true a b e = lt_z_yes (subst T (sym e) tt)

pub ltZ_false : (a b : ℤ) → lt_z a b ≡ false → b ≤ℤ a
ltZ_false a b e = lt_z_no (not_T (lt_z a b) e)

pub leZ_true : (a b : ℤ) → le_z a b ≡ true → a ≤ℤ b
leZ_true a b e = le_z_yes (subst T (sym e) tt)

not_le : (a b : ℤ) → T (not (le_z a b)) → T (lt_z b a)
not_le (pos a) (pos b) t = lt→ltb b a (nleb→lt a b t)
not_le (pos a) (negsuc b) t = tt
not_le (negsuc a) (pos b) t = t
not_le (negsuc a) (negsuc b) t = lt→ltb a b (nleb→lt b a t)

pub leZ_false : (a b : ℤ) → le_z a b ≡ false → b <ℤ a
leZ_false a b e = lt_z_yes (not_le a b (not_T (le_z a b) e))

pub lt_ltZ : {a b : ℤ} → a <ℤ b → lt_z a b ≡ true
lt_ltZ {a} {b} h = is_true (lt_z a b) h.lt

pub le_ltZ : {a b : ℤ} → b ≤ℤ a → lt_z a b ≡ false
le_ltZ {a} {b} h = is_false (lt_z a b) (λ t. clash_ℤ (lt_z_yes {a = a} {b = b} t) h)

pub le_leZ : {a b : ℤ} → a ≤ℤ b → le_z a b ≡ true
le_leZ {a} {b} h = is_true (le_z a b) h.le

pub lt_leZ : {a b : ℤ} → b <ℤ a → le_z a b ≡ false
lt_leZ {a} {b} h = is_false (le_z a b) (λ t. clash_ℤ h (le_z_yes {a = a} {b = b} t))

-- ---- the order is total

pub less_or_not : (a b : ℤ) → (a <ℤ b) ⊎ (b ≤ℤ a)
less_or_not a b = by_test (lt_z a b) refl
  where
    by_test : (t : Bool) → lt_z a b ≡ t → (a <ℤ b) ⊎ (b ≤ℤ a)
    by_test true e = inl (ltZ_true a b e)
    by_test false e = inr (ltZ_false a b e)

weaken : (a b : ℤ) → T (lt_z a b) → T (le_z a b)
weaken (pos a) (pos b) t = let h : a < b = ltb→lt a b t in le→leb a b (omega arith)
weaken (pos a) (negsuc b) t = t
weaken (negsuc a) (pos b) t = tt
weaken (negsuc a) (negsuc b) t = let h : b < a = ltb→lt b a t in le→leb b a (omega arith)

pub less_is_at_most : {a b : ℤ} → a <ℤ b → a ≤ℤ b
less_is_at_most {a} {b} h = le_z_yes (weaken a b h.lt)

antisymmetric : (a b : ℤ) → T (le_z a b) → T (le_z b a) → a ≡ b
antisymmetric (pos a) (pos b) t u =
    let h : a ≤ b = leb→le a b t in
    let k : b ≤ a = leb→le b a u in
    ap pos (omega arith)
antisymmetric (pos a) (negsuc b) t u = absurd t
antisymmetric (negsuc a) (pos b) t u = absurd u
antisymmetric (negsuc a) (negsuc b) t u =
    let h : b ≤ a = leb→le b a t in
    let k : a ≤ b = leb→le a b u in
    ap negsuc (omega arith)

pub at_most_both_ways : {a b : ℤ} → a ≤ℤ b → b ≤ℤ a → a ≡ b
at_most_both_ways {a} {b} h k = antisymmetric a b h.le k.le

pub trichotomy : (a b : ℤ) → (a <ℤ b) ⊎ ((a ≡ b) ⊎ (b <ℤ a))
trichotomy a b = first (less_or_not a b)
  where
    second : b ≤ℤ a → (b <ℤ a) ⊎ (a ≤ℤ b) → (a <ℤ b) ⊎ ((a ≡ b) ⊎ (b <ℤ a))
    second h (inl k) = inr (inr k)
    second h (inr k) = inr (inl (at_most_both_ways k h))

    first : (a <ℤ b) ⊎ (b ≤ℤ a) → (a <ℤ b) ⊎ ((a ≡ b) ⊎ (b <ℤ a))
    first (inl h) = inl h
    first (inr h) = second h (less_or_not b a)

-- ---- the order and the sum

up : (a b : ℤ) → T (lt_z a b) → T (lt_z (suc_ℤ a) (suc_ℤ b))
up (pos a) (pos b) t = let h : a < b = ltb→lt a b t in lt→ltb (suc a) (suc b) (omega arith)
up (pos a) (negsuc b) t = absurd t
up (negsuc zero) (pos b) t = lt→ltb zero (suc b) (omega arith)
up (negsuc zero) (negsuc b) t = let h : b < zero = ltb→lt b zero t in absurd (omega arith)
up (negsuc (suc a)) (pos b) t = tt
up (negsuc (suc a)) (negsuc zero) t = tt
up (negsuc (suc a)) (negsuc (suc b)) t = let h : suc b < suc a = ltb→lt (suc b) (suc a) t in lt→ltb b a (omega arith)

down : (a b : ℤ) → T (lt_z a b) → T (lt_z (pred_ℤ a) (pred_ℤ b))
down (pos zero) (pos zero) t = let h : zero < zero = ltb→lt zero zero t in absurd (omega arith)
down (pos zero) (pos (suc b)) t = tt
down (pos zero) (negsuc b) t = absurd t
down (pos (suc a)) (pos zero) t = let h : suc a < zero = ltb→lt (suc a) zero t in absurd (omega arith)
down (pos (suc a)) (pos (suc b)) t = let h : suc a < suc b = ltb→lt (suc a) (suc b) t in lt→ltb a b (omega arith)
down (pos (suc a)) (negsuc b) t = absurd t
down (negsuc a) (pos zero) t = lt→ltb zero (suc a) (omega arith)
down (negsuc a) (pos (suc b)) t = tt
down (negsuc a) (negsuc b) t = let h : b < a = ltb→lt b a t in lt→ltb (suc b) (suc a) (omega arith)

pub less_shifts : {a b : ℤ} → a <ℤ b → (c : ℤ) → (a +ℤ c) <ℤ (b +ℤ c)
less_shifts {a} {b} h c =
    by_steps (λ c. (a +ℤ c) <ℤ (b +ℤ c))
    (rw (+ℤ_idr a, +ℤ_idr b) h)
    (λ k i. rw (+ℤ-suc_ℤ a k, +ℤ-suc_ℤ b k) (lt_z_yes (up (a +ℤ k) (b +ℤ k) i.lt)))
    (λ k i. rw (+ℤ-pred_ℤ a k, +ℤ-pred_ℤ b k) (lt_z_yes (down (a +ℤ k) (b +ℤ k) i.lt)))
    c

pub at_most_shifts : {a b : ℤ} → a ≤ℤ b → (c : ℤ) → (a +ℤ c) ≤ℤ (b +ℤ c)
at_most_shifts {a} {b} h c = by_test (less_or_not (b +ℤ c) (a +ℤ c))
  where
    by_test : ((b +ℤ c) <ℤ (a +ℤ c)) ⊎ ((a +ℤ c) ≤ℤ (b +ℤ c)) → (a +ℤ c) ≤ℤ (b +ℤ c)
    by_test (inl k) = clash_ℤ (rw (+ℤ-neg_ℤ_cancel b c, +ℤ-neg_ℤ_cancel a c) at (less_shifts k (neg_ℤ c))) h
    by_test (inr k) = k

-- ---- a fact about two numbers is one about their difference

abbrev pub 𝟘 : ℤ
𝟘 = pos zero

pub less_is_positive_difference : {a b : ℤ} → a <ℤ b → 𝟘 <ℤ (b -ℤ a)
less_is_positive_difference {a} {b} h = rw (+ℤ_invr a) at (less_shifts h (neg_ℤ a))

pub at_most_is_difference : {a b : ℤ} → a ≤ℤ b → 𝟘 ≤ℤ (b -ℤ a)
at_most_is_difference {a} {b} h = rw (+ℤ_invr a) at (at_most_shifts h (neg_ℤ a))

pub equal_is_no_difference : {a b : ℤ} → a ≡ b → b -ℤ a ≡ 𝟘
equal_is_no_difference {a} {b} h = rw (← h) (+ℤ_invr a)

-- ---- sums

pub positive_sum : {a b : ℤ} → 𝟘 <ℤ a → 𝟘 ≤ℤ b → 𝟘 <ℤ (a +ℤ b)
positive_sum {a} {b} h k =
    <ℤ-≤ℤ_trans h (rw (+ℤ_idl a, +ℤ_comm b a) at (at_most_shifts k a))

pub not_negative_sum : {a b : ℤ} → 𝟘 ≤ℤ a → 𝟘 ≤ℤ b → 𝟘 ≤ℤ (a +ℤ b)
not_negative_sum {a = pos a} {b = pos b} h k = le_z_yes (le→leb zero (a + b) (omega arith))
not_negative_sum {a = pos a} {b = negsuc b} h k = absurd k.le
not_negative_sum {a = negsuc a} {b = pos b} h k = absurd h.le
not_negative_sum {a = negsuc a} {b = negsuc b} h k = absurd h.le

-- ---- products

pub positive_product : {a b : ℤ} → 𝟘 <ℤ a → 𝟘 <ℤ b → 𝟘 <ℤ (a *ℤ b)
positive_product {a = pos a} {b = pos b} h k =
    lt_z_yes (lt→ltb zero (a * b) (mul-pos (ltb→lt zero a h.lt) (ltb→lt zero b k.lt)))
positive_product {a = pos a} {b = negsuc b} h k = absurd k.lt
positive_product {a = negsuc a} {b = pos b} h k = absurd h.lt
positive_product {a = negsuc a} {b = negsuc b} h k = absurd h.lt

pub not_negative_product : {a b : ℤ} → 𝟘 ≤ℤ a → 𝟘 ≤ℤ b → 𝟘 ≤ℤ (a *ℤ b)
not_negative_product {a = pos a} {b = pos b} h k = le_z_yes (le→leb zero (a * b) (omega arith))
not_negative_product {a = pos a} {b = negsuc b} h k = absurd k.le
not_negative_product {a = negsuc a} {b = pos b} h k = absurd h.le
not_negative_product {a = negsuc a} {b = negsuc b} h k = absurd h.le

pub square_not_negative : (a : ℤ) → 𝟘 ≤ℤ (a *ℤ a)
square_not_negative (pos a) = le_z_yes (le→leb zero (a * a) (omega arith))
square_not_negative (negsuc a) = le_z_yes (le→leb zero (suc a * suc a) (omega arith))

-- ---- what is positive is at least one

pub positive_is_at_least_one : {a : ℤ} → 𝟘 <ℤ a → 𝟘 ≤ℤ (a -ℤ pos (suc zero))
positive_is_at_least_one {a = pos zero} h = let k : zero < zero = ltb→lt zero zero h.lt in absurd (omega arith)
positive_is_at_least_one {a = pos (suc a)} h = rw (-ℤ_one (pos (suc a))) (le_z_yes (le→leb zero a (omega arith)))
positive_is_at_least_one {a = negsuc a} h = absurd h.lt
