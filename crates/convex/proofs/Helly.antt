-- Half-planes that meet by twos within a region, and by threes anywhere, have a point in common within the region (Helly).
use mathlib.Core.Path.{◌≡◌, sym, subst}
use Prim.Native.Nat.{ℕ, zero, suc, ◌<◌}
use native.Mathlib.Decide.{ℕ_discrete}
use native.Mathlib.Omega.{arith}
use lib.Signed.{◌<ℤ◌}
use Rattle.exact.proofs.Order.{𝟘}
use Rattle.convex.proofs.Region.{Spot, Region, Met, met_too, InBoth, ◌∩◌, Form, at, half, halves}
use Rattle.convex.proofs.Radon.{all_four_meet}

-- any two of the first k half-planes meet within K
abbrev pub ByTwos : Region → (ℕ → Form) → ℕ → Type 0
ByTwos K H k = (i j : ℕ) → i < k → j < k → Met (K ∩ half (H i) ∩ half (H j))

-- any three of them meet
abbrev pub ByThrees : (ℕ → Form) → ℕ → Type 0
ByThrees H k = (h i j : ℕ) → h < k → i < k → j < k → Met (half (H h) ∩ half (H i) ∩ half (H j))

-- all of them do, so any three do
pub meeting_by_threes : (H : ℕ → Form) (k : ℕ) → Met (halves H k) → ByThrees H k
meeting_by_threes H k m h i j a b c =
    met_too (λ p e. record { first = e.each h a; second = record { first = e.each i b; second = e.each j c } }) m

module _ (K : Region) (H : ℕ → Form) (k : ℕ) where
  -- the other half-planes meet by twos within K and the last
  by_twos_within_the_last : ByTwos K H (suc k) → ByThrees H (suc k) → ByTwos (K ∩ half (H k)) H k
  by_twos_within_the_last twos threes i j a b =
      all_four_meet K (half (H k)) (half (H i)) (half (H j))
      (threes k i j (omega arith) (omega arith) (omega arith))
      (twos i j (omega arith) (omega arith))
      (twos k j (omega arith) (omega arith))
      (twos k i (omega arith) (omega arith))

  -- what is in the last half-plane and in each before is in each
  one_more : (p : Spot) → InBoth (K ∩ half (H k)) (halves H k) p → InBoth K (halves H (suc k)) p
  one_more p m = record { first = m.first.first; second = record { each = λ i l. by_place i l (ℕ_discrete i k) } }
    where
      by_place : (i : ℕ) → i < suc k → Dec (i ≡ k) → 𝟘 <ℤ at (H i) p
      by_place i l (yes e) = subst (λ (i : ℕ). 𝟘 <ℤ at (H i) p) (sym e) m.first.second
      by_place i l (no e) = m.second.each i (omega arith)

-- half-planes that meet by twos within K and by threes all meet within K
pub all_meet : (K : Region) (H : ℕ → Form) (k : ℕ) → Met K → ByTwos K H k → ByThrees H k → Met (K ∩ halves H k)
all_meet K H zero m twos threes = met_too (λ p h. record { first = h; second = record { each = λ i l. absurd (omega arith) } }) m
all_meet K H (suc k) m twos threes =
    met_too (one_more K H k)
    (all_meet (K ∩ half (H k)) H k
    (met_too (λ p h. record { first = h.first; second = h.second.first }) (twos k k (omega arith) (omega arith)))
    (by_twos_within_the_last K H k twos threes)
    (λ h i j a b c. threes h i j (omega arith) (omega arith) (omega arith)))
