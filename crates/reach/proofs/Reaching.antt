-- A line is in reach exactly when some point of it is, whole or fractional.
use mathlib.Core.Bool.{Bool, true, false, not, false≢true}
use mathlib.Core.Logic.{◌⊎◌, inl, inr}
use mathlib.Core.Path.{◌≡◌, refl, sym, ◌∙◌, ap, ap₂}
use Prim.Native.Nat.{ℕ, zero, suc, ◌+◌, ◌*◌, ◌≤◌}
use native.Mathlib.Omega.{arith}
use lib.Dec.{leb, eqb}
use lib.IntN.{ℤ, pos, negsuc, nat_abs, ◌+ℤ◌, ◌-ℤ◌, ◌*ℤ◌}
use lib.Signed.{le_z, ◌<ℤ◌, ◌≤ℤ◌}
use borrow.Author.Tests.{leb-true, not-true, not-false}
use Rattle.exact.proofs.Order.{leZ_true, le_leZ, less_or_not}
use Rattle.exact.proofs.Truth.{both_true}
use Rattle.plane.specs.Side.{Point}
use Rattle.plane.specs.Cone.{cross, dot, Opposite}
use Rattle.limits.specs.Limits.{least_reach, most_reach}
use Rattle.reach.specs.Reach.{squared, InReach, in_reach, out_of_reach, Reaches, far, Longer, range, wrong_reach}
use Rattle.reach.specs.Reach.Longer.{unlimited, at_least}
use Rattle.reach.proofs.Deciding.{the_first_end_decides, the_second_end_decides, the_foot_decides}
use Rattle.reach.proofs.Nearest.{length_by_the_ends, in_reach_turned, in_longer_reach, the_first_end, the_second_end, the_foot, the_stand_itself, none_nearer_than_the_first_end, none_nearer_than_the_second_end, none_nearer_than_the_foot}
use Rattle.std.specs.Prelude.{None, Option, Some}

-- ---- which point decides

module _ (R : ℕ) (a b : Point) where
  -- by the size of the cross product, and the square of the length in its two parts
  pub the_foot_decides_by_sizes : {c m n : ℕ} → c ≡ nat_abs (cross a b) → pos m ≡ dot a a -ℤ dot a b → pos n ≡ dot b b -ℤ dot a b → dot a b <ℤ dot a a → dot a b <ℤ dot b b → leb (c * c) (R * R * (m + n)) ≡ in_reach R a b
  the_foot_decides_by_sizes {c} {m} {n} e f g h k =
      ap (λ (s : ℕ). leb (s * s) (R * R * (m + n))) e
      ∙ squares (cross a b)
      ∙ ap (λ (u : ℤ). le_z (cross a b *ℤ cross a b) (squared R *ℤ u)) (ap₂ (λ (u v : ℤ). u +ℤ v) f g ∙ length_by_the_ends a b)
      ∙ sym (the_foot_decides R a b h k)
    where
      squares : (z : ℤ) → leb (nat_abs z * nat_abs z) (R * R * (m + n)) ≡ le_z (z *ℤ z) (squared R *ℤ pos (m + n))
      squares (pos s) = refl
      squares (negsuc s) = refl

  -- the test is right: it finds no line in reach but one with a point in reach, and each of those
  pub found_in_reach : in_reach R a b ≡ true → InReach R a b
  found_in_reach e = by_ends (less_or_not (dot a b) (dot a a)) (less_or_not (dot a b) (dot b b))
    where
      by_ends : (dot a b <ℤ dot a a) ⊎ (dot a a ≤ℤ dot a b) → (dot a b <ℤ dot b b) ⊎ (dot b b ≤ℤ dot a b) → InReach R a b
      by_ends (inl h) (inl k) = the_foot R a b h k (leZ_true _ _ (sym (the_foot_decides R a b h k) ∙ e))
      by_ends (inl h) (inr k) = the_second_end R a b (leZ_true _ _ (sym (the_second_end_decides R a b h k) ∙ e))
      by_ends (inr h) k = the_first_end R a b (leZ_true _ _ (sym (the_first_end_decides R a b h) ∙ e))

pub in_reach_is_found : {R : ℕ} {a b : Point} → InReach R a b → in_reach R a b ≡ true
in_reach_is_found {R} {a} {b} w = by_ends (less_or_not (dot a b) (dot a a)) (less_or_not (dot a b) (dot b b))
  where
    by_ends : (dot a b <ℤ dot a a) ⊎ (dot a a ≤ℤ dot a b) → (dot a b <ℤ dot b b) ⊎ (dot b b ≤ℤ dot a b) → in_reach R a b ≡ true
    by_ends (inl h) (inl k) = the_foot_decides R a b h k ∙ le_leZ (none_nearer_than_the_foot w)
    by_ends (inl h) (inr k) = the_second_end_decides R a b h k ∙ le_leZ (none_nearer_than_the_second_end w k)
    by_ends (inr h) k = the_first_end_decides R a b h ∙ le_leZ (none_nearer_than_the_first_end w h)

-- ---- from either end

-- two tests, each passed where the other is
same : (s t : Bool) → (s ≡ true → t ≡ true) → (t ≡ true → s ≡ true) → s ≡ t
same true t h k = sym (h refl)
same false true h k = k refl
same false false h k = refl

pub in_reach_from_either_end : (R : ℕ) (a b : Point) → out_of_reach R a b ≡ out_of_reach R b a
unfolding out_of_reach
in_reach_from_either_end zero a b = refl
in_reach_from_either_end (suc r) a b =
    let turned : (a b : Point) → in_reach (suc r) a b ≡ true → in_reach (suc r) b a ≡ true = λ a b e. in_reach_is_found (in_reach_turned (found_in_reach (suc r) a b e)) in
    ap not (same (in_reach (suc r) a b) (in_reach (suc r) b a) (turned a b) (turned b a))

-- ---- within a range, which 0 leaves unlimited

pub reaches : (R : ℕ) (a b : Point) → out_of_reach R a b ≡ false → Reaches R a b
unfolding out_of_reach
reaches zero a b e = tt
reaches (suc r) a b e = found_in_reach (suc r) a b (not-false _ e)

pub does_not_reach : (R : ℕ) (a b : Point) → out_of_reach R a b ≡ true → Reaches R a b → ⊥
unfolding out_of_reach
does_not_reach zero a b e w = false≢true e
does_not_reach (suc r) a b e w = false≢true (sym (not-true _ e) ∙ in_reach_is_found w)

-- and the other way
pub reached_is_in_reach : (R : ℕ) (a b : Point) → Reaches R a b → out_of_reach R a b ≡ false
reached_is_in_reach R a b w = by_test (out_of_reach R a b) refl
  where
    by_test : (t : Bool) → out_of_reach R a b ≡ t → out_of_reach R a b ≡ false
    by_test true e = absurd (does_not_reach R a b e w)
    by_test false e = e

pub not_reached_is_out_of_reach : (R : ℕ) (a b : Point) → (Reaches R a b → ⊥) → out_of_reach R a b ≡ true
not_reached_is_out_of_reach R a b none = by_test (out_of_reach R a b) refl
  where
    by_test : (t : Bool) → out_of_reach R a b ≡ t → out_of_reach R a b ≡ true
    by_test true e = e
    by_test false e = absurd (none (reaches R a b e))

-- a row's fourth number
pub in_reach_is_0 : (R : ℕ) (a b : Point) → out_of_reach R a b ≡ false → far R a b ≡ 0
unfolding far
in_reach_is_0 R a b e = rw (e, far)

pub out_of_reach_is_1 : (R : ℕ) (a b : Point) → out_of_reach R a b ≡ true → far R a b ≡ 1
unfolding far
out_of_reach_is_1 R a b e = rw (e, far)

-- so the number tells
pub in_reach_by_its_number : (R : ℕ) (a b : Point) → eqb (far R a b) 0 ≡ not (out_of_reach R a b)
unfolding far
in_reach_by_its_number R a b = by_test (out_of_reach R a b)
  where
    by_test : (t : Bool) → eqb (elim t [ true ↦ 1 | false ↦ 0 ]) 0 ≡ not t
    by_test true = refl
    by_test false = refl

-- ---- a longer reach

pub still_in_reach : {R R' : ℕ} (a b : Point) → Longer R R' → out_of_reach R a b ≡ false → out_of_reach R' a b ≡ false
unfolding out_of_reach
still_in_reach a b unlimited e = refl
still_in_reach a b (at_least l) e = ap not (in_reach_is_found (in_longer_reach (omega arith) (found_in_reach _ a b (not-false _ e))))

-- ---- the line that the stand is strictly within

pub the_line_stood_on_is_in_reach : (R : ℕ) (a b : Point) → Opposite a b → out_of_reach R a b ≡ false
unfolding out_of_reach
the_line_stood_on_is_in_reach zero a b o = refl
the_line_stood_on_is_in_reach (suc r) a b o = ap not (in_reach_is_found (the_stand_itself (suc r) a b o))

-- ---- what is stated

pub right_reach : (r : Option ℕ) → wrong_reach r ≡ false → range r ≤ most_reach
unfolding wrong_reach
right_reach None e = omega arith
right_reach (Some n) e = leb-true n most_reach (both_true (leb least_reach n) _ (not-false _ e)).1
