-- A point strictly inside a shape is strictly below every line that no corner is above (document 02, A7): seen from it each corner turns left to the
-- next, and were all of them below, the turns would never come round.
use mathlib.Core.List.{List, [], ◌∷◌}
use mathlib.Core.Logic.{◌⊎◌, inl, inr}
use mathlib.Core.Path.{◌≡◌, sym, ◌∙◌, ap, subst}
use Prim.Native.Nat.{ℕ, zero, suc, ◌<◌, ◌≤◌}
use native.Mathlib.Decide.{dec_lt}
use native.Mathlib.Omega.{arith}
use lib.IntN.{ℤ, ◌+ℤ◌, ◌-ℤ◌, ◌*ℤ◌}
use lib.Signed.{◌<ℤ◌, ◌≤ℤ◌, <ℤ_irrefl}
use Rattle.exact.proofs.Order.{𝟘, less_or_not, less_is_at_most, positive_product}
use Rattle.exact.proofs.Outweigh.{Outweighs, outweighs}
use Rattle.exact.proofs.Solver.{Expr, solve, ◌⊕◌, ◌⊖◌, ◌⊗◌}
use Rattle.exact.proofs.Solver.Expr.{var}
use Rattle.exact.proofs.Certificate.{prove, ◌≺◌, ◌≼◌, ◌⊞◌, ◌⊠◌}
use Rattle.exact.proofs.Certificate.Cert.{given, one_less}
use Rattle.exact.proofs.Certificate.Proof.{only}
use Rattle.plane.specs.Side.{Point, side}
use Rattle.plane.specs.Cone.{minus, scaled, cross, dot}
use Rattle.plane.proofs.Quote.{Pointᵉ, coordinates, pt, 𝟘ᵉ, minusᵉ, scaledᵉ, crossᵉ, dotᵉ, sideᵉ}
use Rattle.plane.proofs.Found.{side_turns_with_its_corners, side_from_the_stand}
use Rattle.convex.specs.Shape.{Shape, Inside, Round}

-- ---- turning left, below a line

-- of three vectors below a line through the origin, each left of the one before: the third is left of the first
turns_on : (t u v s : Point) → dot t u <ℤ 𝟘 → dot t v <ℤ 𝟘 → dot t s <ℤ 𝟘 → 𝟘 <ℤ cross v s → 𝟘 ≤ℤ cross u v → 𝟘 <ℤ cross u s
unfolding dot cross
turns_on t u v s =
    prove (coordinates (t ∷ u ∷ v ∷ s ∷ [])) ((dotᵉ (pt 0) (pt 1) ≺ 𝟘ᵉ) ∷ (dotᵉ (pt 0) (pt 2) ≺ 𝟘ᵉ) ∷ (dotᵉ (pt 0) (pt 3) ≺ 𝟘ᵉ) ∷ (𝟘ᵉ ≺ crossᵉ (pt 2) (pt 3)) ∷ (𝟘ᵉ ≼ crossᵉ (pt 1) (pt 2)) ∷ []) (𝟘ᵉ ≺ crossᵉ (pt 1) (pt 3)) (only (given 1 ⊠ given 4 ⊞ given 2 ⊠ given 0 ⊞ given 3 ⊠ given 5)) tt

no_turn : (u : Point) → cross u u ≡ 𝟘
unfolding cross
no_turn u = solve (coordinates (u ∷ [])) (crossᵉ (pt 0) (pt 0)) 𝟘ᵉ tt

-- vectors below a line that turn left all the way do not come back to the first
never_round : (t : Point) (q : ℕ → Point) (n : ℕ) → ((k : ℕ) → k ≤ n → dot t (q k) <ℤ 𝟘) → ((k : ℕ) → k < n → 𝟘 <ℤ cross (q k) (q (suc k))) → 0 < n → q n ≡ q 0 → ⊥
never_round t q n below turns some same =
    <ℤ_irrefl (subst (λ (z : ℤ). 𝟘 <ℤ z) (ap (cross (q 0)) same ∙ no_turn (q 0)) (left n (omega arith) some))
  where
    left : (k : ℕ) → k ≤ n → 0 < k → 𝟘 <ℤ cross (q 0) (q k)
    left zero h l = absurd (omega arith)
    left (suc zero) h l = turns 0 h
    left (suc (suc k)) h l =
        turns_on t (q 0) (q (suc k)) (q (suc (suc k))) (below 0 (omega arith)) (below (suc k) (omega arith)) (below (suc (suc k)) h) (turns (suc k) h)
        (less_is_at_most (left (suc k) (omega arith) (omega arith)))

-- ---- seen from the point

-- a corner, seen from (x/w, y/w)
abbrev seen : ℤ → Point → Point → Point
seen w p c = minus (scaled w c) p

from_the_point : (a b p : Point) → 𝟘 <ℤ side a b p → 𝟘 <ℤ cross (minus a p) (minus b p)
from_the_point a b p h =
    subst (λ (z : ℤ). 𝟘 <ℤ z) (sym (side_turns_with_its_corners p a b) ∙ side_from_the_stand p a b) h

-- a corner not above the line, seen from a point that is above it
seen_below : (t c p : Point) (g w : ℤ) → 𝟘 <ℤ w → dot t c ≤ℤ g → (g *ℤ w) <ℤ dot t p → dot t (seen w p c) <ℤ 𝟘
unfolding dot minus scaled
seen_below t c p g w =
    prove (coordinates (t ∷ c ∷ p ∷ record { x = g; y = w } ∷ [])) ((𝟘ᵉ ≺ var 7) ∷ (dotᵉ (pt 0) (pt 1) ≼ var 6) ∷ (var 6 ⊗ var 7 ≺ dotᵉ (pt 0) (pt 2)) ∷ []) (dotᵉ (pt 0) (minusᵉ (scaledᵉ (var 7) (pt 1)) (pt 2)) ≺ 𝟘ᵉ) (only (given 0 ⊞ given 1 ⊠ given 2 ⊞ given 3)) tt

-- ---- a short step up from the point

module _ (a b t : Point) (x y w n : ℤ) where
  abbrev numbers : List ℤ
  numbers = coordinates (a ∷ b ∷ t ∷ record { x = x; y = y } ∷ record { x = w; y = n } ∷ [])

  -- how far left of the line from a to b the point is, where a and b are not scaled
  abbrev leftᵉ : Expr
  leftᵉ = (var 2 ⊖ var 0) ⊗ (var 7 ⊖ var 8 ⊗ var 1) ⊖ (var 3 ⊖ var 1) ⊗ (var 6 ⊖ var 8 ⊗ var 0)

  left_unscaled : 𝟘 <ℤ w → 𝟘 <ℤ side (scaled w a) (scaled w b) (record { x = x; y = y }) → 𝟘 <ℤ ((b.x -ℤ a.x) *ℤ (y -ℤ w *ℤ a.y) -ℤ (b.y -ℤ a.y) *ℤ (x -ℤ w *ℤ a.x))
  unfolding side scaled
  left_unscaled =
      prove numbers ((𝟘ᵉ ≺ var 8) ∷ (𝟘ᵉ ≺ sideᵉ (scaledᵉ (var 8) (pt 0)) (scaledᵉ (var 8) (pt 1)) (pt 3)) ∷ []) (𝟘ᵉ ≺ leftᵉ) (only (given 1 ⊠ given 0 ⊞ given 2)) tt

  -- n times the point and t from there is left of the line too, where n outweighs the step
  still_left : 𝟘 <ℤ w → 𝟘 <ℤ n → 𝟘 <ℤ side (scaled w a) (scaled w b) (record { x = x; y = y }) → 𝟘 <ℤ (n +ℤ cross (minus b a) t) → 𝟘 <ℤ side (scaled (n *ℤ w) a) (scaled (n *ℤ w) b) (record { x = n *ℤ x +ℤ t.x; y = n *ℤ y +ℤ t.y })
  unfolding side scaled cross minus
  still_left h k l m =
      prove numbers ((𝟘ᵉ ≺ var 8) ∷ (𝟘ᵉ ≺ var 9) ∷ (𝟘ᵉ ≺ leftᵉ) ∷ (𝟘ᵉ ≺ var 9 ⊕ crossᵉ (minusᵉ (pt 1) (pt 0)) (pt 2)) ∷ []) (𝟘ᵉ ≺ sideᵉ (scaledᵉ (var 9 ⊗ var 8) (pt 0)) (scaledᵉ (var 9 ⊗ var 8) (pt 1)) (record { x = var 9 ⊗ var 6 ⊕ var 4; y = var 9 ⊗ var 7 ⊕ var 5 })) (only (given 0 ⊞ given 2 ⊠ given 1 ⊠ (given 2 ⊠ one_less (given 3) ⊞ given 4))) tt h k (left_unscaled h l) m

-- a step across the line is a step up
one_step_below : (t : Point) (x y w n g : ℤ) → 𝟘 <ℤ n → 𝟘 <ℤ dot t t → dot t (record { x = n *ℤ x +ℤ t.x; y = n *ℤ y +ℤ t.y }) ≤ℤ (g *ℤ (n *ℤ w)) → dot t (record { x = x; y = y }) <ℤ (g *ℤ w)
unfolding dot
one_step_below t x y w n g =
    prove (coordinates (t ∷ record { x = x; y = y } ∷ record { x = w; y = n } ∷ record { x = g; y = g } ∷ [])) ((𝟘ᵉ ≺ var 5) ∷ (𝟘ᵉ ≺ dotᵉ (pt 0) (pt 0)) ∷ (dotᵉ (pt 0) (record { x = var 5 ⊗ var 2 ⊕ var 0; y = var 5 ⊗ var 3 ⊕ var 1 }) ≼ var 6 ⊗ (var 5 ⊗ var 4)) ∷ []) (dotᵉ (pt 0) (pt 1) ≺ var 6 ⊗ var 4) (only (given 1 ⊠ given 0 ⊞ given 2 ⊞ given 3)) tt

module _ {A : Shape} (R : Round A) (some : 0 < A.sides) (t : Point) (g : ℤ) (below : (k : ℕ) → k < A.sides → dot t (A.start k) ≤ℤ g) where
  all_below : (k : ℕ) → k ≤ A.sides → dot t (A.start k) ≤ℤ g
  all_below k h = by_place (dec_lt k A.sides)
    where
      by_place : Dec (k < A.sides) → dot t (A.start k) ≤ℤ g
      by_place (yes l) = below k l
      by_place (no l) =
          let e : k ≡ A.sides = omega arith in
          subst (λ (c : Point). dot t c ≤ℤ g) (sym (ap A.start e ∙ R.comes_round)) (below 0 some)

  not_above : {x y w : ℤ} → 𝟘 <ℤ w → Inside A x y w → dot t (record { x = x; y = y }) ≤ℤ (g *ℤ w)
  not_above {x} {y} {w} positive inside = by_test (less_or_not (g *ℤ w) (dot t p))
    where
      p : Point
      p = record { x = x; y = y }

      by_test : ((g *ℤ w) <ℤ dot t p) ⊎ (dot t p ≤ℤ (g *ℤ w)) → dot t p ≤ℤ (g *ℤ w)
      by_test (inl h) =
          absurd (never_round t (λ k. seen w p (A.start k)) A.sides
          (λ k l. seen_below t (A.start k) p g w positive (all_below k l) h)
          (λ k l. subst (λ (c : Point). 𝟘 <ℤ cross (seen w p (A.start k)) (seen w p c)) (R.goes_on k l) (from_the_point _ _ p (inside.left_of_each k l)))
          some (ap (seen w p) R.comes_round))
      by_test (inr h) = h

  pub strictly_below : 𝟘 <ℤ dot t t → {x y w : ℤ} → 𝟘 <ℤ w → Inside A x y w → dot t (record { x = x; y = y }) <ℤ (g *ℤ w)
  strictly_below length {x} {y} {w} positive inside =
      one_step_below t x y w far.n g far.positive length
      (not_above (positive_product far.positive positive) (record {
        left_of_each = λ i h. still_left (A.start i) (A.finish i) t x y w far.n positive far.positive (inside.left_of_each i h) (far.each i h);
      }))
    where
      far : Outweighs (λ i. cross (minus (A.finish i) (A.start i)) t) A.sides
      far = outweighs (λ i. cross (minus (A.finish i) (A.start i)) t) A.sides

-- ---- a side that separates

-- left of the line from a to b is up from it
abbrev up : Point → Point → Point
up a b = record { x = a.y -ℤ b.y; y = b.x -ℤ a.x }

abbrev upᵉ : Pointᵉ
upᵉ = record { x = var 1 ⊖ var 3; y = var 2 ⊖ var 0 }

not_left_is_not_above : (a b c : Point) → side a b c ≤ℤ 𝟘 → dot (up a b) c ≤ℤ dot (up a b) a
unfolding side dot
not_left_is_not_above a b c =
    prove (coordinates (a ∷ b ∷ c ∷ [])) ((sideᵉ (pt 0) (pt 1) (pt 2) ≼ 𝟘ᵉ) ∷ []) (dotᵉ upᵉ (pt 2) ≼ dotᵉ upᵉ (pt 0)) (only (given 0 ⊞ given 1)) tt

left_is_above : (a b p : Point) (w : ℤ) → 𝟘 <ℤ w → 𝟘 <ℤ side (scaled w a) (scaled w b) p → dot (up a b) p ≤ℤ (dot (up a b) a *ℤ w) → ⊥
unfolding side dot scaled
left_is_above a b p w h k l =
    <ℤ_irrefl (prove (coordinates (a ∷ b ∷ p ∷ record { x = w; y = w } ∷ [])) ((𝟘ᵉ ≺ var 6) ∷ (𝟘ᵉ ≺ sideᵉ (scaledᵉ (var 6) (pt 0)) (scaledᵉ (var 6) (pt 1)) (pt 2)) ∷ (dotᵉ upᵉ (pt 2) ≼ dotᵉ upᵉ (pt 0) ⊗ var 6) ∷ []) (𝟘ᵉ ≺ 𝟘ᵉ) (only (given 2 ⊞ given 1 ⊠ given 3)) tt h k l)

-- no point strictly inside a shape is strictly left of a line that has every corner on it or right of it
pub separated : {A : Shape} → Round A → 0 < A.sides → (a b : Point) → ((k : ℕ) → k < A.sides → side a b (A.start k) ≤ℤ 𝟘) → {x y w : ℤ} → 𝟘 <ℤ w → Inside A x y w → 𝟘 <ℤ side (scaled w a) (scaled w b) (record { x = x; y = y }) → ⊥
separated {A} R some a b right {w = w} positive inside left =
    left_is_above a b _ w positive left
    (not_above R some (up a b) (dot (up a b) a) (λ k h. not_left_is_not_above a b (A.start k) (right k h)) positive inside)
