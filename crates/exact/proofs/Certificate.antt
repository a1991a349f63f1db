-- Order by certificates, over the ring solver. Hypotheses and goal are quoted facts, <, ≤ or ≡. A certificate is a sum of products of
-- hypotheses, of the goal's negation, of squares and of positive numerals. Its sign, read off its shape, must be strictly positive, and as a
-- polynomial it must be 0: that is a contradiction, so the goal holds. `tools/certificate.py` finds certificates.
use mathlib.Core.Path.{◌≡◌, refl, sym, ◌∙◌, ap, subst}
use mathlib.Core.List.{List, [], ◌∷◌, map}
use mathlib.Core.Logic.{◌⊎◌, inl, inr}
use Prim.Native.Nat.{ℕ, zero, suc}
use lib.IntN.{ℤ, pos, negsuc, ◌+ℤ◌, ◌*ℤ◌, +ℤ_comm, +ℤ_idl, +ℤ_idr, zero-*ℤ, *ℤ-zero}
use lib.Signed.{◌<ℤ◌, ◌≤ℤ◌, lt_z_yes, <ℤ_irrefl}
use lib.Dec.{lt→ltb}
use native.Mathlib.Omega.{arith}
use Rattle.exact.proofs.Order.{𝟘, less_or_not, less_is_at_most, at_most_both_ways, less_is_positive_difference, at_most_is_difference, equal_is_no_difference, positive_sum, not_negative_sum, positive_product, not_negative_product, square_not_negative, positive_is_at_least_one}
use Rattle.exact.proofs.Solver.{Expr, Poly, value, worth, normal, normal_worth, plus, plus_worth, times, times_worth, Settled, settled_worth, ◌⊖◌}
use Rattle.exact.proofs.Solver.Poly.{con}

-- ---- facts

infix 3 ◌≺◌ ◌≼◌ ◌≈◌
pub data Fact : Type 0 where
  ◌≺◌ : Expr → Expr → Fact
  ◌≼◌ : Expr → Expr → Fact
  ◌≈◌ : Expr → Expr → Fact

abbrev pub Holds : List ℤ → Fact → Type 0
Holds ρ (e ≺ f) = value ρ e <ℤ value ρ f
Holds ρ (e ≼ f) = value ρ e ≤ℤ value ρ f
Holds ρ (e ≈ f) = value ρ e ≡ value ρ f

-- from these facts, G
abbrev pub Given : List ℤ → List Fact → Type 0 → Type 0
Given ρ [] G = G
Given ρ (f ∷ fs) G = Holds ρ f → Given ρ fs G

-- ---- claims: the sign of a polynomial

pub data Sign : Type 0 where
  positive not_negative null : Sign

abbrev pub Is : Sign → ℤ → Type 0
Is positive z = 𝟘 <ℤ z
Is not_negative z = 𝟘 ≤ℤ z
Is null z = z ≡ 𝟘

pub data Claim : Type 0 where
  claim : Sign → Poly → Claim

abbrev pub Says : List ℤ → Claim → Type 0
Says ρ (claim s p) = Is s (worth p ρ)

abbrev pub as_claim : Fact → Claim
as_claim (e ≺ f) = claim positive (normal (f ⊖ e))
as_claim (e ≼ f) = claim not_negative (normal (f ⊖ e))
as_claim (e ≈ f) = claim null (normal (f ⊖ e))

says_as_claim : (ρ : List ℤ) (f : Fact) → Holds ρ f → Says ρ (as_claim f)
says_as_claim ρ (e ≺ f) h = rw (normal_worth ρ (f ⊖ e)) (less_is_positive_difference h)
says_as_claim ρ (e ≼ f) h = rw (normal_worth ρ (f ⊖ e)) (at_most_is_difference h)
says_as_claim ρ (e ≈ f) h = normal_worth ρ (f ⊖ e) ∙ equal_is_no_difference h

-- ---- certificates

infixl 6 ◌⊞◌
infixl 7 ◌⊠◌
pub data Cert : Type 0 where
  -- the goal's negation is 0; the hypotheses count from 1
  given : ℕ → Cert
  -- the positive numeral n + 1
  number : ℕ → Cert
  square : Expr → Cert
  ◌⊞◌ : Cert → Cert → Cert
  ◌⊠◌ : Cert → Cert → Cert
  -- an equation times an expression
  by : Expr → Cert → Cert
  -- what is positive is at least one
  one_less : Cert → Cert

abbrev pub sum_sign : Sign → Sign → Sign
sum_sign positive t = positive
sum_sign not_negative positive = positive
sum_sign not_negative not_negative = not_negative
sum_sign not_negative null = not_negative
sum_sign null t = t

abbrev pub product_sign : Sign → Sign → Sign
product_sign positive t = t
product_sign not_negative positive = not_negative
product_sign not_negative not_negative = not_negative
product_sign not_negative null = null
product_sign null t = null

abbrev pub sum : Claim → Claim → Claim
sum (claim s p) (claim t q) = claim (sum_sign s t) (plus p q)

abbrev pub product : Claim → Claim → Claim
product (claim s p) (claim t q) = claim (product_sign s t) (times p q)

-- 0 is 0: what a certificate says where it makes no sense
abbrev pub trivial : Claim
trivial = claim null (con 𝟘)

abbrev pub multiple : Expr → Claim → Claim
multiple e (claim positive p) = trivial
multiple e (claim not_negative p) = trivial
multiple e (claim null p) = claim null (times (normal e) p)

abbrev pub lowered : Claim → Claim
lowered (claim positive p) = claim not_negative (plus p (con (negsuc zero)))
lowered (claim not_negative p) = claim not_negative p
lowered (claim null p) = claim null p

abbrev pub nth : ℕ → List Claim → Claim
nth i [] = trivial
nth zero (c ∷ cs) = c
nth (suc i) (c ∷ cs) = nth i cs

abbrev pub certified : List Claim → Cert → Claim
certified cs (given i) = nth i cs
certified cs (number n) = claim positive (con (pos (suc n)))
certified cs (square e) = claim not_negative (times (normal e) (normal e))
certified cs (c ⊞ d) = sum (certified cs c) (certified cs d)
certified cs (c ⊠ d) = product (certified cs c) (certified cs d)
certified cs (by e c) = multiple e (certified cs c)
certified cs (one_less c) = lowered (certified cs c)

-- ---- what a certificate says holds

sum_is : (s t : Sign) (x y : ℤ) → Is s x → Is t y → Is (sum_sign s t) (x +ℤ y)
sum_is positive positive x y h k = positive_sum h (less_is_at_most k)
sum_is positive not_negative x y h k = positive_sum h k
sum_is positive null x y h k = rw (k, +ℤ_idr x) h
sum_is not_negative positive x y h k = rw (+ℤ_comm x y) (positive_sum k h)
sum_is not_negative not_negative x y h k = not_negative_sum h k
sum_is not_negative null x y h k = rw (k, +ℤ_idr x) h
sum_is null positive x y h k = rw (h, +ℤ_idl y) k
sum_is null not_negative x y h k = rw (h, +ℤ_idl y) k
sum_is null null x y h k = rw (h, k)

product_is : (s t : Sign) (x y : ℤ) → Is s x → Is t y → Is (product_sign s t) (x *ℤ y)
product_is positive positive x y h k = positive_product h k
product_is positive not_negative x y h k = not_negative_product (less_is_at_most h) k
product_is positive null x y h k = rw k (*ℤ-zero x)
product_is not_negative positive x y h k = not_negative_product h (less_is_at_most k)
product_is not_negative not_negative x y h k = not_negative_product h k
product_is not_negative null x y h k = rw k (*ℤ-zero x)
product_is null t x y h k = rw h (zero-*ℤ y)

abbrev AllSay : List ℤ → List Claim → Type 0
AllSay ρ [] = Unit {0}
AllSay ρ (c ∷ cs) = Says ρ c × AllSay ρ cs

module _ (ρ : List ℤ) where
  says_sum : (c d : Claim) → Says ρ c → Says ρ d → Says ρ (sum c d)
  says_sum (claim s p) (claim t q) h k = subst (Is (sum_sign s t)) (sym (plus_worth p q ρ)) (sum_is s t (worth p ρ) (worth q ρ) h k)

  says_product : (c d : Claim) → Says ρ c → Says ρ d → Says ρ (product c d)
  says_product (claim s p) (claim t q) h k =
      subst (Is (product_sign s t)) (sym (times_worth p q ρ)) (product_is s t (worth p ρ) (worth q ρ) h k)

  says_multiple : (e : Expr) (c : Claim) → Says ρ c → Says ρ (multiple e c)
  says_multiple e (claim positive p) h = refl
  says_multiple e (claim not_negative p) h = refl
  says_multiple e (claim null p) h = times_worth (normal e) p ρ ∙ ap (λ x. worth (normal e) ρ *ℤ x) h ∙ *ℤ-zero (worth (normal e) ρ)

  says_lowered : (c : Claim) → Says ρ c → Says ρ (lowered c)
  says_lowered (claim positive p) h = rw (plus_worth p (con (negsuc zero)) ρ) (positive_is_at_least_one h)
  says_lowered (claim not_negative p) h = h
  says_lowered (claim null p) h = h

  says_nth : (i : ℕ) (cs : List Claim) → AllSay ρ cs → Says ρ (nth i cs)
  says_nth i [] h = refl
  says_nth zero (c ∷ cs) h = h.0
  says_nth (suc i) (c ∷ cs) h = says_nth i cs h.1

  says_certified : (cs : List Claim) → AllSay ρ cs → (c : Cert) → Says ρ (certified cs c)
  says_certified cs h (given i) = says_nth i cs h
  says_certified cs h (number n) = lt_z_yes (lt→ltb zero (suc n) (omega arith))
  says_certified cs h (square e) = rw (times_worth (normal e) (normal e) ρ) (square_not_negative (worth (normal e) ρ))
  says_certified cs h (c ⊞ d) = says_sum (certified cs c) (certified cs d) (says_certified cs h c) (says_certified cs h d)
  says_certified cs h (c ⊠ d) = says_product (certified cs c) (certified cs d) (says_certified cs h c) (says_certified cs h d)
  says_certified cs h (by e c) = says_multiple e (certified cs c) (says_certified cs h c)
  says_certified cs h (one_less c) = says_lowered (certified cs c) (says_certified cs h c)

-- ---- a contradiction: strictly positive by its sign, and 0

-- the certificate's sign is not strict, or it is not of the goal's kind, so there is no proof
pub record NotStrict : Type 0 where
  pub none : ⊥

abbrev pub Contradiction : Claim → Type 0
Contradiction (claim positive p) = Settled p
Contradiction (claim not_negative p) = NotStrict
Contradiction (claim null p) = NotStrict

contradicts : (ρ : List ℤ) (c : Claim) → Says ρ c → Contradiction c → ⊥
contradicts ρ (claim positive p) h k = <ℤ_irrefl (rw (settled_worth p ρ k) at h)
contradicts ρ (claim not_negative p) h k = k.none
contradicts ρ (claim null p) h k = k.none

-- ---- the proofs

pub data Proof : Type 0 where
  -- for a goal < or ≤
  only : Cert → Proof
  -- for a goal ≡: against < and against >
  both : Cert → Cert → Proof

abbrev pub Refutes : List Fact → Fact → Cert → Type 0
Refutes hs f c = Contradiction (certified (as_claim f ∷ map as_claim hs) c)

-- the certificate is one for the goal. At one that is, `tt` proves it; a `?` in its place shows the terms that are left
abbrev pub Proves : List Fact → Fact → Proof → Type 0
Proves hs (e ≺ f) (only c) = Refutes hs (f ≼ e) c
Proves hs (e ≺ f) (both c d) = NotStrict
Proves hs (e ≼ f) (only c) = Refutes hs (f ≺ e) c
Proves hs (e ≼ f) (both c d) = NotStrict
Proves hs (e ≈ f) (only c) = NotStrict
Proves hs (e ≈ f) (both c d) = Refutes hs (e ≺ f) c × Refutes hs (f ≺ e) d

abbrev All : List ℤ → List Fact → Type 0
All ρ [] = Unit {0}
All ρ (f ∷ fs) = Holds ρ f × All ρ fs

module _ (ρ : List ℤ) where
  all_say : (fs : List Fact) → All ρ fs → AllSay ρ (map as_claim fs)
  all_say [] h = tt
  all_say (f ∷ fs) h = (says_as_claim ρ f h.0, all_say fs h.1)

  curried : (fs : List Fact) {G : Type 0} → (All ρ fs → G) → Given ρ fs G
  curried [] k = k tt
  curried (f ∷ fs) k = λ h. curried fs (λ hs. k (h, hs))

  refuted : (hs : List Fact) (f : Fact) (c : Cert) → Refutes hs f c → All ρ hs → Holds ρ f → ⊥
  refuted hs f c r all h =
      contradicts ρ (certified (as_claim f ∷ map as_claim hs) c)
      (says_certified ρ (as_claim f ∷ map as_claim hs) (says_as_claim ρ f h, all_say hs all) c)
      r

  at_most : (hs : List Fact) (e f : Expr) (c : Cert) → Refutes hs (f ≺ e) c → All ρ hs → value ρ e ≤ℤ value ρ f
  at_most hs e f c r all = by_cases (less_or_not (value ρ f) (value ρ e))
    where
      by_cases : (value ρ f <ℤ value ρ e) ⊎ (value ρ e ≤ℤ value ρ f) → value ρ e ≤ℤ value ρ f
      by_cases (inl k) = absurd (refuted hs (f ≺ e) c r all k)
      by_cases (inr h) = h

  less : (hs : List Fact) (e f : Expr) (c : Cert) → Refutes hs (f ≼ e) c → All ρ hs → value ρ e <ℤ value ρ f
  less hs e f c r all = by_cases (less_or_not (value ρ e) (value ρ f))
    where
      by_cases : (value ρ e <ℤ value ρ f) ⊎ (value ρ f ≤ℤ value ρ e) → value ρ e <ℤ value ρ f
      by_cases (inl h) = h
      by_cases (inr k) = absurd (refuted hs (f ≼ e) c r all k)

  proved : (hs : List Fact) (goal : Fact) (p : Proof) → Proves hs goal p → All ρ hs → Holds ρ goal
  proved hs (e ≺ f) (only c) r all = less hs e f c r all
  proved hs (e ≺ f) (both c d) r all = absurd r.none
  proved hs (e ≼ f) (only c) r all = at_most hs e f c r all
  proved hs (e ≼ f) (both c d) r all = absurd r.none
  proved hs (e ≈ f) (only c) r all = absurd r.none
  proved hs (e ≈ f) (both c d) r all = at_most_both_ways (at_most hs e f d r.1 all) (at_most hs f e c r.0 all)

pub prove : (ρ : List ℤ) (hs : List Fact) (goal : Fact) (p : Proof) → Proves hs goal p → Given ρ hs (Holds ρ goal)
prove ρ hs goal p r = curried ρ hs (proved ρ hs goal p r)

-- the hypotheses contradict each other; they count from 1 here too
pub refute : (ρ : List ℤ) (hs : List Fact) (c : Cert) → Contradiction (certified (trivial ∷ map as_claim hs) c) → Given ρ hs ⊥
refute ρ hs c r =
    curried ρ hs (λ all. contradicts ρ (certified (trivial ∷ map as_claim hs) c) (says_certified ρ (trivial ∷ map as_claim hs) (refl, all_say ρ hs all) c) r)
