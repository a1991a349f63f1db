-- Laws of the plane, written by tools/certificate.py from tools/plane.laws: change the laws there, not here.
use mathlib.Core.Path.{◌≡◌}
use mathlib.Core.List.{[], ◌∷◌}
use lib.IntN.{pos, neg_ℤ, ◌+ℤ◌, ◌*ℤ◌}
use lib.Signed.{◌<ℤ◌, ◌≤ℤ◌}
use Rattle.exact.proofs.Order.{𝟘}
use Rattle.exact.proofs.Solver.{solve, ◌⊕◌, ◌⊗◌}
use Rattle.exact.proofs.Solver.Expr.{var, neg, lit}
use Rattle.exact.proofs.Certificate.{prove, refute, ◌≺◌, ◌≼◌, ◌≈◌, ◌⊞◌, ◌⊠◌}
use Rattle.exact.proofs.Certificate.Cert.{given, square, by}
use Rattle.exact.proofs.Certificate.Proof.{only, both}
use Rattle.plane.specs.Side.{Point, side}
use Rattle.plane.specs.Cone.{minus, plus, cross, dot, Holds, Between, Spanned, Cone, Beyond, Earlier, Opposite}
use Rattle.plane.proofs.Quote.{coordinates, pt, 𝟘ᵉ, minusᵉ, plusᵉ, crossᵉ, dotᵉ, sideᵉ}

pub side_turns_with_its_corners : (a b c : Point) → side a b c ≡ side b c a
unfolding side
side_turns_with_its_corners a b c = solve (coordinates (a ∷ b ∷ c ∷ [])) (sideᵉ (pt 0) (pt 1) (pt 2)) (sideᵉ (pt 1) (pt 2) (pt 0)) tt

pub side_changes_sign_first_two : (a b c : Point) → side b a c ≡ neg_ℤ (side a b c)
unfolding side
side_changes_sign_first_two a b c = solve (coordinates (a ∷ b ∷ c ∷ [])) (sideᵉ (pt 1) (pt 0) (pt 2)) (neg (sideᵉ (pt 0) (pt 1) (pt 2))) tt

pub side_changes_sign_last_two : (a b c : Point) → side a c b ≡ neg_ℤ (side a b c)
unfolding side
side_changes_sign_last_two a b c = solve (coordinates (a ∷ b ∷ c ∷ [])) (sideᵉ (pt 0) (pt 2) (pt 1)) (neg (sideᵉ (pt 0) (pt 1) (pt 2))) tt

pub side_changes_sign_ends : (a b c : Point) → side c b a ≡ neg_ℤ (side a b c)
unfolding side
side_changes_sign_ends a b c = solve (coordinates (a ∷ b ∷ c ∷ [])) (sideᵉ (pt 2) (pt 1) (pt 0)) (neg (sideᵉ (pt 0) (pt 1) (pt 2))) tt

-- two equal corners have no area
pub flat_first_two : (a c : Point) → side a a c ≡ 𝟘
unfolding side
flat_first_two a c = solve (coordinates (a ∷ c ∷ [])) (sideᵉ (pt 0) (pt 0) (pt 1)) 𝟘ᵉ tt

-- nor have three corners area both ways round
pub no_area_both_ways : (a b c : Point) → 𝟘 <ℤ side a b c → 𝟘 <ℤ side c b a → ⊥
unfolding side
no_area_both_ways a b c h₁ h₂ = refute (coordinates (a ∷ b ∷ c ∷ [])) ((𝟘ᵉ ≺ sideᵉ (pt 0) (pt 1) (pt 2)) ∷ (𝟘ᵉ ≺ sideᵉ (pt 2) (pt 1) (pt 0)) ∷ []) (given 1 ⊞ given 2) tt h₁ h₂

-- the side value is the sum of the three cross products seen from any q
pub side_is_three_crosses : (a b v q : Point) → side a b v ≡ cross (minus a q) (minus b q) +ℤ cross (minus b q) (minus v q) +ℤ cross (minus v q) (minus a q)
unfolding cross minus side
side_is_three_crosses a b v q = solve (coordinates (a ∷ b ∷ v ∷ q ∷ [])) (sideᵉ (pt 0) (pt 1) (pt 2)) (crossᵉ (minusᵉ (pt 0) (pt 3)) (minusᵉ (pt 1) (pt 3)) ⊕ crossᵉ (minusᵉ (pt 1) (pt 3)) (minusᵉ (pt 2) (pt 3)) ⊕ crossᵉ (minusᵉ (pt 2) (pt 3)) (minusᵉ (pt 0) (pt 3))) tt

pub side_from_the_stand : (q a b : Point) → side q a b ≡ cross (minus a q) (minus b q)
unfolding cross minus side
side_from_the_stand q a b = solve (coordinates (q ∷ a ∷ b ∷ [])) (sideᵉ (pt 0) (pt 1) (pt 2)) (crossᵉ (minusᵉ (pt 1) (pt 0)) (minusᵉ (pt 2) (pt 0))) tt

-- the apex of a right cell on the other side of a line lies beyond it, seen from any q
pub side_positive_is_beyond : (a b v q : Point) → 𝟘 <ℤ side b a v → Beyond (minus a q) (minus b q) (minus v q)
unfolding cross minus side
side_positive_is_beyond a b v q h₁ =
    record {
      beyond = prove (coordinates (a ∷ b ∷ v ∷ q ∷ [])) ((𝟘ᵉ ≺ sideᵉ (pt 1) (pt 0) (pt 2)) ∷ []) (𝟘ᵉ ≺ crossᵉ (minusᵉ (pt 1) (pt 3)) (minusᵉ (pt 0) (pt 3)) ⊕ crossᵉ (minusᵉ (pt 0) (pt 3)) (minusᵉ (pt 2) (pt 3)) ⊕ crossᵉ (minusᵉ (pt 2) (pt 3)) (minusᵉ (pt 1) (pt 3))) (only (given 0 ⊞ given 1)) tt h₁;
    }

pub three_term_identity : (a b c d q : Point) → cross (minus a q) (minus b q) *ℤ cross (minus c q) (minus d q) +ℤ cross (minus a q) (minus c q) *ℤ cross (minus d q) (minus b q) +ℤ cross (minus a q) (minus d q) *ℤ cross (minus b q) (minus c q) ≡ 𝟘
unfolding cross minus
three_term_identity a b c d q = solve (coordinates (a ∷ b ∷ c ∷ d ∷ q ∷ [])) (crossᵉ (minusᵉ (pt 0) (pt 4)) (minusᵉ (pt 1) (pt 4)) ⊗ crossᵉ (minusᵉ (pt 2) (pt 4)) (minusᵉ (pt 3) (pt 4)) ⊕ crossᵉ (minusᵉ (pt 0) (pt 4)) (minusᵉ (pt 2) (pt 4)) ⊗ crossᵉ (minusᵉ (pt 3) (pt 4)) (minusᵉ (pt 1) (pt 4)) ⊕ crossᵉ (minusᵉ (pt 0) (pt 4)) (minusᵉ (pt 3) (pt 4)) ⊗ crossᵉ (minusᵉ (pt 1) (pt 4)) (minusᵉ (pt 2) (pt 4))) 𝟘ᵉ tt

pub order_in_a_cone_is_transitive : (a b u v w : Point) → 𝟘 <ℤ cross a b → Spanned a b u → Spanned a b v → Spanned a b w → 𝟘 <ℤ cross u v → 𝟘 <ℤ cross v w → 𝟘 <ℤ cross u w
unfolding cross
order_in_a_cone_is_transitive a b u v w h₁ h₂ h₃ h₄ h₅ h₆ = prove (coordinates (a ∷ b ∷ u ∷ v ∷ w ∷ [])) ((𝟘ᵉ ≺ crossᵉ (pt 0) (pt 1)) ∷ (𝟘ᵉ ≼ crossᵉ (pt 0) (pt 2)) ∷ (𝟘ᵉ ≼ crossᵉ (pt 0) (pt 3)) ∷ (𝟘ᵉ ≼ crossᵉ (pt 3) (pt 1)) ∷ (𝟘ᵉ ≼ crossᵉ (pt 4) (pt 1)) ∷ (𝟘ᵉ ≺ crossᵉ (pt 2) (pt 3)) ∷ (𝟘ᵉ ≺ crossᵉ (pt 3) (pt 4)) ∷ []) (𝟘ᵉ ≺ crossᵉ (pt 2) (pt 4)) (only (given 0 ⊠ given 3 ⊠ given 4 ⊞ given 1 ⊠ given 6 ⊠ given 7 ⊞ given 2 ⊠ given 4 ⊠ given 7 ⊞ given 3 ⊠ given 5 ⊠ given 6)) tt h₁ h₂.not_before h₃.not_before h₃.not_after h₄.not_after h₅ h₆

-- the apex strictly between the limits: its right line takes the limits r, v
pub between_keeps_the_right_cone : (a b r l v : Point) → Cone a b r l → Between r l v → Cone a v r v
unfolding cross
between_keeps_the_right_cone a b r l v h₁ h₂ =
    record {
      seen = prove (coordinates (a ∷ b ∷ r ∷ l ∷ v ∷ [])) ((𝟘ᵉ ≼ crossᵉ (pt 0) (pt 2)) ∷ (𝟘ᵉ ≺ crossᵉ (pt 2) (pt 3)) ∷ (𝟘ᵉ ≺ crossᵉ (pt 0) (pt 3)) ∷ (𝟘ᵉ ≺ crossᵉ (pt 2) (pt 4)) ∷ (𝟘ᵉ ≺ crossᵉ (pt 4) (pt 3)) ∷ []) (𝟘ᵉ ≺ crossᵉ (pt 0) (pt 4)) (only (given 0 ⊠ given 2 ⊞ given 1 ⊠ given 5 ⊞ given 3 ⊠ given 4)) tt h₁.right_from_a h₁.right_to_left h₁.left_from_a h₂.past_right h₂.short_of_left;
      right_from_a = h₁.right_from_a;
      right_to_b = h₂.past_right;
      right_to_left = h₂.past_right;
      left_from_a = prove (coordinates (a ∷ b ∷ r ∷ l ∷ v ∷ [])) ((𝟘ᵉ ≼ crossᵉ (pt 0) (pt 2)) ∷ (𝟘ᵉ ≺ crossᵉ (pt 2) (pt 3)) ∷ (𝟘ᵉ ≺ crossᵉ (pt 0) (pt 3)) ∷ (𝟘ᵉ ≺ crossᵉ (pt 2) (pt 4)) ∷ (𝟘ᵉ ≺ crossᵉ (pt 4) (pt 3)) ∷ []) (𝟘ᵉ ≺ crossᵉ (pt 0) (pt 4)) (only (given 0 ⊠ given 2 ⊞ given 1 ⊠ given 5 ⊞ given 3 ⊠ given 4)) tt h₁.right_from_a h₁.right_to_left h₁.left_from_a h₂.past_right h₂.short_of_left;
      left_to_b = prove (coordinates (a ∷ b ∷ r ∷ l ∷ v ∷ [])) [] (𝟘ᵉ ≼ crossᵉ (pt 4) (pt 4)) (only (given 0)) tt;
    }

-- and its left line the limits v, l
pub between_keeps_the_left_cone : (a b r l v : Point) → Cone a b r l → Between r l v → Cone v b v l
unfolding cross
between_keeps_the_left_cone a b r l v h₁ h₂ =
    record {
      seen = prove (coordinates (a ∷ b ∷ r ∷ l ∷ v ∷ [])) ((𝟘ᵉ ≺ crossᵉ (pt 2) (pt 1)) ∷ (𝟘ᵉ ≺ crossᵉ (pt 2) (pt 3)) ∷ (𝟘ᵉ ≼ crossᵉ (pt 3) (pt 1)) ∷ (𝟘ᵉ ≺ crossᵉ (pt 2) (pt 4)) ∷ (𝟘ᵉ ≺ crossᵉ (pt 4) (pt 3)) ∷ []) (𝟘ᵉ ≺ crossᵉ (pt 4) (pt 1)) (only (given 0 ⊠ given 2 ⊞ given 1 ⊠ given 5 ⊞ given 3 ⊠ given 4)) tt h₁.right_to_b h₁.right_to_left h₁.left_to_b h₂.past_right h₂.short_of_left;
      right_from_a = prove (coordinates (a ∷ b ∷ r ∷ l ∷ v ∷ [])) [] (𝟘ᵉ ≼ crossᵉ (pt 4) (pt 4)) (only (given 0)) tt;
      right_to_b = prove (coordinates (a ∷ b ∷ r ∷ l ∷ v ∷ [])) ((𝟘ᵉ ≺ crossᵉ (pt 2) (pt 1)) ∷ (𝟘ᵉ ≺ crossᵉ (pt 2) (pt 3)) ∷ (𝟘ᵉ ≼ crossᵉ (pt 3) (pt 1)) ∷ (𝟘ᵉ ≺ crossᵉ (pt 2) (pt 4)) ∷ (𝟘ᵉ ≺ crossᵉ (pt 4) (pt 3)) ∷ []) (𝟘ᵉ ≺ crossᵉ (pt 4) (pt 1)) (only (given 0 ⊠ given 2 ⊞ given 1 ⊠ given 5 ⊞ given 3 ⊠ given 4)) tt h₁.right_to_b h₁.right_to_left h₁.left_to_b h₂.past_right h₂.short_of_left;
      right_to_left = h₂.short_of_left;
      left_from_a = h₂.short_of_left;
      left_to_b = h₁.left_to_b;
    }

-- the apex on or right of the ray to r: its left line takes both limits
pub right_keeps_the_cone : (a b r l v : Point) → Cone a b r l → Beyond a b v → cross r v ≤ℤ 𝟘 → Cone v b r l
unfolding cross
right_keeps_the_cone a b r l v h₁ h₂ h₃ =
    record {
      seen = prove (coordinates (a ∷ b ∷ r ∷ l ∷ v ∷ [])) ((𝟘ᵉ ≺ crossᵉ (pt 0) (pt 1)) ∷ (𝟘ᵉ ≼ crossᵉ (pt 0) (pt 2)) ∷ (𝟘ᵉ ≺ crossᵉ (pt 2) (pt 1)) ∷ (𝟘ᵉ ≺ crossᵉ (pt 1) (pt 0) ⊕ crossᵉ (pt 0) (pt 4) ⊕ crossᵉ (pt 4) (pt 1)) ∷ (crossᵉ (pt 2) (pt 4) ≼ 𝟘ᵉ) ∷ []) (𝟘ᵉ ≺ crossᵉ (pt 4) (pt 1)) (only (given 0 ⊠ given 2 ⊞ given 0 ⊠ given 3 ⊞ given 1 ⊠ given 3 ⊞ given 1 ⊠ given 5 ⊞ given 3 ⊠ given 4)) tt h₁.seen h₁.right_from_a h₁.right_to_b h₂.beyond h₃;
      right_from_a = prove (coordinates (a ∷ b ∷ r ∷ l ∷ v ∷ [])) ((crossᵉ (pt 2) (pt 4) ≼ 𝟘ᵉ) ∷ []) (𝟘ᵉ ≼ crossᵉ (pt 4) (pt 2)) (only (given 0 ⊞ given 1)) tt h₃;
      right_to_b = h₁.right_to_b;
      right_to_left = h₁.right_to_left;
      left_from_a = prove (coordinates (a ∷ b ∷ r ∷ l ∷ v ∷ [])) ((𝟘ᵉ ≺ crossᵉ (pt 0) (pt 1)) ∷ (𝟘ᵉ ≼ crossᵉ (pt 0) (pt 2)) ∷ (𝟘ᵉ ≺ crossᵉ (pt 2) (pt 1)) ∷ (𝟘ᵉ ≺ crossᵉ (pt 2) (pt 3)) ∷ (𝟘ᵉ ≺ crossᵉ (pt 0) (pt 3)) ∷ (𝟘ᵉ ≼ crossᵉ (pt 3) (pt 1)) ∷ (𝟘ᵉ ≺ crossᵉ (pt 1) (pt 0) ⊕ crossᵉ (pt 0) (pt 4) ⊕ crossᵉ (pt 4) (pt 1)) ∷ (crossᵉ (pt 2) (pt 4) ≼ 𝟘ᵉ) ∷ []) (𝟘ᵉ ≺ crossᵉ (pt 4) (pt 3)) (only (given 0 ⊠ given 2 ⊞ given 0 ⊠ given 3 ⊞ given 1 ⊠ given 4 ⊞ given 4 ⊠ given 7 ⊞ given 5 ⊠ given 8 ⊞ given 6 ⊠ given 8)) tt h₁.seen h₁.right_from_a h₁.right_to_b h₁.right_to_left h₁.left_from_a h₁.left_to_b h₂.beyond h₃;
      left_to_b = h₁.left_to_b;
    }

-- the apex on or left of the ray to l: its right line takes both limits
pub left_keeps_the_cone : (a b r l v : Point) → Cone a b r l → Beyond a b v → cross v l ≤ℤ 𝟘 → Cone a v r l
unfolding cross
left_keeps_the_cone a b r l v h₁ h₂ h₃ =
    record {
      seen = prove (coordinates (a ∷ b ∷ r ∷ l ∷ v ∷ [])) ((𝟘ᵉ ≺ crossᵉ (pt 0) (pt 1)) ∷ (𝟘ᵉ ≺ crossᵉ (pt 0) (pt 3)) ∷ (𝟘ᵉ ≼ crossᵉ (pt 3) (pt 1)) ∷ (𝟘ᵉ ≺ crossᵉ (pt 1) (pt 0) ⊕ crossᵉ (pt 0) (pt 4) ⊕ crossᵉ (pt 4) (pt 1)) ∷ (crossᵉ (pt 4) (pt 3) ≼ 𝟘ᵉ) ∷ []) (𝟘ᵉ ≺ crossᵉ (pt 0) (pt 4)) (only (given 0 ⊠ given 2 ⊞ given 0 ⊠ given 3 ⊞ given 1 ⊠ given 2 ⊞ given 1 ⊠ given 5 ⊞ given 2 ⊠ given 4)) tt h₁.seen h₁.left_from_a h₁.left_to_b h₂.beyond h₃;
      right_from_a = h₁.right_from_a;
      right_to_b = prove (coordinates (a ∷ b ∷ r ∷ l ∷ v ∷ [])) ((𝟘ᵉ ≺ crossᵉ (pt 0) (pt 1)) ∷ (𝟘ᵉ ≼ crossᵉ (pt 0) (pt 2)) ∷ (𝟘ᵉ ≺ crossᵉ (pt 2) (pt 1)) ∷ (𝟘ᵉ ≺ crossᵉ (pt 2) (pt 3)) ∷ (𝟘ᵉ ≺ crossᵉ (pt 0) (pt 3)) ∷ (𝟘ᵉ ≼ crossᵉ (pt 3) (pt 1)) ∷ (𝟘ᵉ ≺ crossᵉ (pt 1) (pt 0) ⊕ crossᵉ (pt 0) (pt 4) ⊕ crossᵉ (pt 4) (pt 1)) ∷ (crossᵉ (pt 4) (pt 3) ≼ 𝟘ᵉ) ∷ []) (𝟘ᵉ ≺ crossᵉ (pt 2) (pt 4)) (only (given 0 ⊠ given 5 ⊞ given 0 ⊠ given 6 ⊞ given 1 ⊠ given 4 ⊞ given 2 ⊠ given 8 ⊞ given 3 ⊠ given 8 ⊞ given 4 ⊠ given 7)) tt h₁.seen h₁.right_from_a h₁.right_to_b h₁.right_to_left h₁.left_from_a h₁.left_to_b h₂.beyond h₃;
      right_to_left = h₁.right_to_left;
      left_from_a = h₁.left_from_a;
      left_to_b = prove (coordinates (a ∷ b ∷ r ∷ l ∷ v ∷ [])) ((crossᵉ (pt 4) (pt 3) ≼ 𝟘ᵉ) ∷ []) (𝟘ᵉ ≼ crossᵉ (pt 3) (pt 4)) (only (given 0 ⊞ given 1)) tt h₃;
    }

pub right_is_not_left : (a b r l v : Point) → Cone a b r l → Beyond a b v → cross r v ≤ℤ 𝟘 → cross v l ≤ℤ 𝟘 → ⊥
unfolding cross
right_is_not_left a b r l v h₁ h₂ h₃ h₄ = refute (coordinates (a ∷ b ∷ r ∷ l ∷ v ∷ [])) ((𝟘ᵉ ≺ crossᵉ (pt 0) (pt 1)) ∷ (𝟘ᵉ ≼ crossᵉ (pt 0) (pt 2)) ∷ (𝟘ᵉ ≺ crossᵉ (pt 2) (pt 1)) ∷ (𝟘ᵉ ≺ crossᵉ (pt 2) (pt 3)) ∷ (𝟘ᵉ ≺ crossᵉ (pt 0) (pt 3)) ∷ (𝟘ᵉ ≼ crossᵉ (pt 3) (pt 1)) ∷ (𝟘ᵉ ≺ crossᵉ (pt 1) (pt 0) ⊕ crossᵉ (pt 0) (pt 4) ⊕ crossᵉ (pt 4) (pt 1)) ∷ (crossᵉ (pt 2) (pt 4) ≼ 𝟘ᵉ) ∷ (crossᵉ (pt 4) (pt 3) ≼ 𝟘ᵉ) ∷ []) (given 1 ⊠ given 4 ⊞ given 2 ⊠ given 9 ⊞ given 3 ⊠ given 9 ⊞ given 4 ⊠ given 7 ⊞ given 5 ⊠ given 8 ⊞ given 6 ⊠ given 8) tt h₁.seen h₁.right_from_a h₁.right_to_b h₁.right_to_left h₁.left_from_a h₁.left_to_b h₂.beyond h₃ h₄

-- what is strictly between the right limit and v, itself strictly between the limits, is strictly inside
pub right_half_is_inside : (r l v d : Point) → 𝟘 <ℤ cross r l → Between r l v → Holds r v d → Holds r l d
unfolding cross
right_half_is_inside r l v d h₁ h₂ h₃ =
    record {
      right = h₃.right;
      left = prove (coordinates (r ∷ l ∷ v ∷ d ∷ [])) ((𝟘ᵉ ≺ crossᵉ (pt 0) (pt 1)) ∷ (𝟘ᵉ ≺ crossᵉ (pt 0) (pt 2)) ∷ (𝟘ᵉ ≺ crossᵉ (pt 2) (pt 1)) ∷ (𝟘ᵉ ≺ crossᵉ (pt 0) (pt 3)) ∷ (𝟘ᵉ ≺ crossᵉ (pt 3) (pt 2)) ∷ []) (𝟘ᵉ ≺ crossᵉ (pt 3) (pt 1)) (only (given 0 ⊠ given 2 ⊞ given 1 ⊠ given 5 ⊞ given 3 ⊠ given 4)) tt h₁ h₂.past_right h₂.short_of_left h₃.right h₃.left;
    }

pub left_half_is_inside : (r l v d : Point) → 𝟘 <ℤ cross r l → Between r l v → Holds v l d → Holds r l d
unfolding cross
left_half_is_inside r l v d h₁ h₂ h₃ =
    record {
      right = prove (coordinates (r ∷ l ∷ v ∷ d ∷ [])) ((𝟘ᵉ ≺ crossᵉ (pt 0) (pt 1)) ∷ (𝟘ᵉ ≺ crossᵉ (pt 0) (pt 2)) ∷ (𝟘ᵉ ≺ crossᵉ (pt 2) (pt 1)) ∷ (𝟘ᵉ ≺ crossᵉ (pt 2) (pt 3)) ∷ (𝟘ᵉ ≺ crossᵉ (pt 3) (pt 1)) ∷ []) (𝟘ᵉ ≺ crossᵉ (pt 0) (pt 3)) (only (given 0 ⊠ given 3 ⊞ given 1 ⊠ given 4 ⊞ given 2 ⊠ given 5)) tt h₁ h₂.past_right h₂.short_of_left h₃.right h₃.left;
      left = h₃.left;
    }

pub halves_share_nothing : (r v l d : Point) → Holds r v d → Holds v l d → ⊥
unfolding cross
halves_share_nothing r v l d h₁ h₂ = refute (coordinates (r ∷ v ∷ l ∷ d ∷ [])) ((𝟘ᵉ ≺ crossᵉ (pt 3) (pt 1)) ∷ (𝟘ᵉ ≺ crossᵉ (pt 1) (pt 3)) ∷ []) (given 1 ⊞ given 2) tt h₁.left h₂.right

pub right_half_does_not_hold_v : (r v : Point) → Holds r v v → ⊥
unfolding cross
right_half_does_not_hold_v r v h₁ = refute (coordinates (r ∷ v ∷ [])) ((𝟘ᵉ ≺ crossᵉ (pt 1) (pt 1)) ∷ []) (given 1) tt h₁.left

pub left_half_does_not_hold_v : (v l : Point) → Holds v l v → ⊥
unfolding cross
left_half_does_not_hold_v v l h₁ = refute (coordinates (v ∷ l ∷ [])) ((𝟘ᵉ ≺ crossᵉ (pt 0) (pt 0)) ∷ []) (given 1) tt h₁.right

pub right_turned_is_left : (u v : Point) → cross u v <ℤ 𝟘 → 𝟘 <ℤ cross v u
unfolding cross
right_turned_is_left u v h₁ = prove (coordinates (u ∷ v ∷ [])) ((crossᵉ (pt 0) (pt 1) ≺ 𝟘ᵉ) ∷ []) (𝟘ᵉ ≺ crossᵉ (pt 1) (pt 0)) (only (given 0 ⊞ given 1)) tt h₁

pub left_turned_is_right : (u v : Point) → 𝟘 <ℤ cross u v → cross v u <ℤ 𝟘
unfolding cross
left_turned_is_right u v h₁ = prove (coordinates (u ∷ v ∷ [])) ((𝟘ᵉ ≺ crossᵉ (pt 0) (pt 1)) ∷ []) (crossᵉ (pt 1) (pt 0) ≺ 𝟘ᵉ) (only (given 0 ⊞ given 1)) tt h₁

pub no_length_no_x : (d : Point) → dot d d ≤ℤ 𝟘 → d.x ≡ 𝟘
unfolding dot
no_length_no_x d h₁ = prove (coordinates (d ∷ [])) ((dotᵉ (pt 0) (pt 0) ≼ 𝟘ᵉ) ∷ []) ((pt 0).x ≈ 𝟘ᵉ) (both (given 1 ⊞ square (var 1) ⊞ given 0 ⊠ given 0) (given 1 ⊞ square (var 1) ⊞ given 0 ⊠ given 0)) (tt, tt) h₁

pub no_length_no_y : (d : Point) → dot d d ≤ℤ 𝟘 → d.y ≡ 𝟘
unfolding dot
no_length_no_y d h₁ = prove (coordinates (d ∷ [])) ((dotᵉ (pt 0) (pt 0) ≼ 𝟘ᵉ) ∷ []) ((pt 0).y ≈ 𝟘ᵉ) (both (given 1 ⊞ square (var 0) ⊞ given 0 ⊠ given 0) (given 1 ⊞ square (var 0) ⊞ given 0 ⊠ given 0)) (tt, tt) h₁

pub no_zero_limit : (r v : Point) → 𝟘 <ℤ cross r v → 𝟘 <ℤ dot v v
unfolding cross dot
no_zero_limit r v h₁ = prove (coordinates (r ∷ v ∷ [])) ((𝟘ᵉ ≺ crossᵉ (pt 0) (pt 1)) ∷ []) (𝟘ᵉ ≺ dotᵉ (pt 1) (pt 1)) (only (square (dotᵉ (pt 0) (pt 1)) ⊞ given 1 ⊠ given 1 ⊞ given 0 ⊠ square (var 0) ⊞ given 0 ⊠ square (var 1))) tt h₁

pub along_v_inside_is_ahead : (r l v d : Point) → 𝟘 <ℤ dot v v → Between r l v → Holds r l d → cross d v ≡ 𝟘 → 𝟘 <ℤ dot d v
unfolding cross dot
along_v_inside_is_ahead r l v d h₁ h₂ h₃ h₄ = prove (coordinates (r ∷ l ∷ v ∷ d ∷ [])) ((𝟘ᵉ ≺ dotᵉ (pt 2) (pt 2)) ∷ (𝟘ᵉ ≺ crossᵉ (pt 0) (pt 2)) ∷ (𝟘ᵉ ≺ crossᵉ (pt 0) (pt 3)) ∷ (crossᵉ (pt 3) (pt 2) ≈ 𝟘ᵉ) ∷ []) (𝟘ᵉ ≺ dotᵉ (pt 3) (pt 2)) (only (given 0 ⊠ given 2 ⊞ given 1 ⊠ given 3 ⊞ by (neg (dotᵉ (pt 0) (pt 2))) (given 4))) tt h₁ h₂.past_right h₃.right h₄

pub along_is_ahead_or_behind : (a d : Point) → 𝟘 <ℤ dot a a → 𝟘 <ℤ dot d d → cross d a ≡ 𝟘 → dot d a ≡ 𝟘 → ⊥
unfolding cross dot
along_is_ahead_or_behind a d h₁ h₂ h₃ h₄ = refute (coordinates (a ∷ d ∷ [])) ((𝟘ᵉ ≺ dotᵉ (pt 0) (pt 0)) ∷ (𝟘ᵉ ≺ dotᵉ (pt 1) (pt 1)) ∷ (crossᵉ (pt 1) (pt 0) ≈ 𝟘ᵉ) ∷ (dotᵉ (pt 1) (pt 0) ≈ 𝟘ᵉ) ∷ []) (given 1 ⊠ given 2 ⊞ by (neg (crossᵉ (pt 0) (pt 1))) (given 3) ⊞ by (dotᵉ (pt 0) (pt 1)) (given 4)) tt h₁ h₂ h₃ h₄

-- a cell entered by the line from a to b, with its apex beyond, is left by the line from a to v strictly later
pub left_later_by_the_right_line : (a b v d : Point) → 𝟘 <ℤ cross a d → Beyond a b v → Earlier d a b a v
unfolding cross
left_later_by_the_right_line a b v d h₁ h₂ =
    record {
      earlier = prove (coordinates (a ∷ b ∷ v ∷ d ∷ [])) ((𝟘ᵉ ≺ crossᵉ (pt 0) (pt 3)) ∷ (𝟘ᵉ ≺ crossᵉ (pt 1) (pt 0) ⊕ crossᵉ (pt 0) (pt 2) ⊕ crossᵉ (pt 2) (pt 1)) ∷ []) (crossᵉ (pt 0) (pt 1) ⊗ (crossᵉ (pt 0) (pt 3) ⊕ crossᵉ (pt 3) (pt 2)) ≺ crossᵉ (pt 0) (pt 2) ⊗ (crossᵉ (pt 0) (pt 3) ⊕ crossᵉ (pt 3) (pt 1))) (only (given 0 ⊞ given 1 ⊠ given 2)) tt h₁ h₂.beyond;
    }

pub left_later_by_the_left_line : (a b v d : Point) → 𝟘 <ℤ cross d b → Beyond a b v → Earlier d a b v b
unfolding cross
left_later_by_the_left_line a b v d h₁ h₂ =
    record {
      earlier = prove (coordinates (a ∷ b ∷ v ∷ d ∷ [])) ((𝟘ᵉ ≺ crossᵉ (pt 3) (pt 1)) ∷ (𝟘ᵉ ≺ crossᵉ (pt 1) (pt 0) ⊕ crossᵉ (pt 0) (pt 2) ⊕ crossᵉ (pt 2) (pt 1)) ∷ []) (crossᵉ (pt 0) (pt 1) ⊗ (crossᵉ (pt 2) (pt 3) ⊕ crossᵉ (pt 3) (pt 1)) ≺ crossᵉ (pt 2) (pt 1) ⊗ (crossᵉ (pt 0) (pt 3) ⊕ crossᵉ (pt 3) (pt 1))) (only (given 0 ⊞ given 1 ⊠ given 2)) tt h₁ h₂.beyond;
    }

-- neither half of a split cone is empty
pub right_half_is_not_empty : (r l v : Point) → Between r l v → Holds r v (plus r v)
unfolding cross plus
right_half_is_not_empty r l v h₁ =
    record {
      right = prove (coordinates (r ∷ l ∷ v ∷ [])) ((𝟘ᵉ ≺ crossᵉ (pt 0) (pt 2)) ∷ []) (𝟘ᵉ ≺ crossᵉ (pt 0) (plusᵉ (pt 0) (pt 2))) (only (given 0 ⊞ given 1)) tt h₁.past_right;
      left = prove (coordinates (r ∷ l ∷ v ∷ [])) ((𝟘ᵉ ≺ crossᵉ (pt 0) (pt 2)) ∷ []) (𝟘ᵉ ≺ crossᵉ (plusᵉ (pt 0) (pt 2)) (pt 2)) (only (given 0 ⊞ given 1)) tt h₁.past_right;
    }

pub left_half_is_not_empty : (r l v : Point) → Between r l v → Holds v l (plus v l)
unfolding cross plus
left_half_is_not_empty r l v h₁ =
    record {
      right = prove (coordinates (r ∷ l ∷ v ∷ [])) ((𝟘ᵉ ≺ crossᵉ (pt 2) (pt 1)) ∷ []) (𝟘ᵉ ≺ crossᵉ (pt 2) (plusᵉ (pt 2) (pt 1))) (only (given 0 ⊞ given 1)) tt h₁.short_of_left;
      left = prove (coordinates (r ∷ l ∷ v ∷ [])) ((𝟘ᵉ ≺ crossᵉ (pt 2) (pt 1)) ∷ []) (𝟘ᵉ ≺ crossᵉ (plusᵉ (pt 2) (pt 1)) (pt 1)) (only (given 0 ⊞ given 1)) tt h₁.short_of_left;
    }

-- so a cone is never empty of directions
pub cone_holds_the_sum_of_its_limits : (r l : Point) → 𝟘 <ℤ cross r l → Holds r l (plus r l)
unfolding cross plus
cone_holds_the_sum_of_its_limits r l h₁ =
    record {
      right = prove (coordinates (r ∷ l ∷ [])) ((𝟘ᵉ ≺ crossᵉ (pt 0) (pt 1)) ∷ []) (𝟘ᵉ ≺ crossᵉ (pt 0) (plusᵉ (pt 0) (pt 1))) (only (given 0 ⊞ given 1)) tt h₁;
      left = prove (coordinates (r ∷ l ∷ [])) ((𝟘ᵉ ≺ crossᵉ (pt 0) (pt 1)) ∷ []) (𝟘ᵉ ≺ crossᵉ (plusᵉ (pt 0) (pt 1)) (pt 1)) (only (given 0 ⊞ given 1)) tt h₁;
    }

-- what is strictly between the limits is strictly between the line's two ends
pub within_the_limits_is_within_the_line : (a b r l d : Point) → Cone a b r l → Holds r l d → Holds a b d
unfolding cross
within_the_limits_is_within_the_line a b r l d h₁ h₂ =
    record {
      right = prove (coordinates (a ∷ b ∷ r ∷ l ∷ d ∷ [])) ((𝟘ᵉ ≼ crossᵉ (pt 0) (pt 2)) ∷ (𝟘ᵉ ≺ crossᵉ (pt 2) (pt 3)) ∷ (𝟘ᵉ ≺ crossᵉ (pt 0) (pt 3)) ∷ (𝟘ᵉ ≺ crossᵉ (pt 2) (pt 4)) ∷ (𝟘ᵉ ≺ crossᵉ (pt 4) (pt 3)) ∷ []) (𝟘ᵉ ≺ crossᵉ (pt 0) (pt 4)) (only (given 0 ⊠ given 2 ⊞ given 1 ⊠ given 5 ⊞ given 3 ⊠ given 4)) tt h₁.right_from_a h₁.right_to_left h₁.left_from_a h₂.right h₂.left;
      left = prove (coordinates (a ∷ b ∷ r ∷ l ∷ d ∷ [])) ((𝟘ᵉ ≺ crossᵉ (pt 2) (pt 1)) ∷ (𝟘ᵉ ≺ crossᵉ (pt 2) (pt 3)) ∷ (𝟘ᵉ ≼ crossᵉ (pt 3) (pt 1)) ∷ (𝟘ᵉ ≺ crossᵉ (pt 2) (pt 4)) ∷ (𝟘ᵉ ≺ crossᵉ (pt 4) (pt 3)) ∷ []) (𝟘ᵉ ≺ crossᵉ (pt 4) (pt 1)) (only (given 0 ⊠ given 2 ⊞ given 1 ⊠ given 5 ⊞ given 3 ⊠ given 4)) tt h₁.right_to_b h₁.right_to_left h₁.left_to_b h₂.right h₂.left;
    }

pub no_line_is_earlier_than_itself : (d a b : Point) → Earlier d a b a b → ⊥
unfolding cross
no_line_is_earlier_than_itself d a b h₁ = refute (coordinates (d ∷ a ∷ b ∷ [])) ((crossᵉ (pt 1) (pt 2) ⊗ (crossᵉ (pt 1) (pt 0) ⊕ crossᵉ (pt 0) (pt 2)) ≺ crossᵉ (pt 1) (pt 2) ⊗ (crossᵉ (pt 1) (pt 0) ⊕ crossᵉ (pt 0) (pt 2))) ∷ []) (given 1) tt h₁.earlier

-- of the lines that a ray crosses
pub earlier_is_transitive : (d a b a' b' a'' b'' : Point) → Holds a b d → Holds a' b' d → Holds a'' b'' d → Earlier d a b a' b' → Earlier d a' b' a'' b'' → Earlier d a b a'' b''
unfolding cross
earlier_is_transitive d a b a' b' a'' b'' h₁ h₂ h₃ h₄ h₅ =
    record {
      earlier = prove (coordinates (d ∷ a ∷ b ∷ a' ∷ b' ∷ a'' ∷ b'' ∷ [])) ((𝟘ᵉ ≺ crossᵉ (pt 1) (pt 0)) ∷ (𝟘ᵉ ≺ crossᵉ (pt 0) (pt 2)) ∷ (𝟘ᵉ ≺ crossᵉ (pt 3) (pt 0)) ∷ (𝟘ᵉ ≺ crossᵉ (pt 0) (pt 4)) ∷ (𝟘ᵉ ≺ crossᵉ (pt 5) (pt 0)) ∷ (𝟘ᵉ ≺ crossᵉ (pt 0) (pt 6)) ∷ (crossᵉ (pt 1) (pt 2) ⊗ (crossᵉ (pt 3) (pt 0) ⊕ crossᵉ (pt 0) (pt 4)) ≺ crossᵉ (pt 3) (pt 4) ⊗ (crossᵉ (pt 1) (pt 0) ⊕ crossᵉ (pt 0) (pt 2))) ∷ (crossᵉ (pt 3) (pt 4) ⊗ (crossᵉ (pt 5) (pt 0) ⊕ crossᵉ (pt 0) (pt 6)) ≺ crossᵉ (pt 5) (pt 6) ⊗ (crossᵉ (pt 3) (pt 0) ⊕ crossᵉ (pt 0) (pt 4))) ∷ []) (crossᵉ (pt 1) (pt 2) ⊗ (crossᵉ (pt 5) (pt 0) ⊕ crossᵉ (pt 0) (pt 6)) ≺ crossᵉ (pt 5) (pt 6) ⊗ (crossᵉ (pt 1) (pt 0) ⊕ crossᵉ (pt 0) (pt 2))) (only (given 0 ⊠ given 3 ⊞ given 0 ⊠ given 4 ⊞ given 1 ⊠ given 8 ⊞ given 2 ⊠ given 8 ⊞ given 5 ⊠ given 7 ⊞ given 6 ⊠ given 7)) tt h₁.right h₁.left h₂.right h₂.left h₃.right h₃.left h₄.earlier h₅.earlier;
    }

-- with its own two ends as limits
pub a_seen_line_is_a_cone : (a b : Point) → 𝟘 <ℤ cross a b → Cone a b a b
unfolding cross
a_seen_line_is_a_cone a b h₁ =
    record {
      seen = h₁;
      right_from_a = prove (coordinates (a ∷ b ∷ [])) [] (𝟘ᵉ ≼ crossᵉ (pt 0) (pt 0)) (only (given 0)) tt;
      right_to_b = h₁;
      right_to_left = h₁;
      left_from_a = h₁;
      left_to_b = prove (coordinates (a ∷ b ∷ [])) [] (𝟘ᵉ ≼ crossᵉ (pt 1) (pt 1)) (only (given 0)) tt;
    }

pub turns_nowhere : (a : Point) → cross a a ≡ 𝟘
unfolding cross
turns_nowhere a = solve (coordinates (a ∷ [])) (crossᵉ (pt 0) (pt 0)) 𝟘ᵉ tt

-- what is on or left of v's ray does not have v on its left
pub not_left_both_ways : (v d : Point) → 𝟘 <ℤ cross d v → 𝟘 ≤ℤ cross v d → ⊥
unfolding cross
not_left_both_ways v d h₁ h₂ = refute (coordinates (v ∷ d ∷ [])) ((𝟘ᵉ ≺ crossᵉ (pt 1) (pt 0)) ∷ (𝟘ᵉ ≼ crossᵉ (pt 0) (pt 1)) ∷ []) (given 1 ⊞ given 2) tt h₁ h₂

pub no_zero_right_limit : (r v : Point) → 𝟘 <ℤ cross r v → 𝟘 <ℤ dot r r
unfolding cross dot
no_zero_right_limit r v h₁ = prove (coordinates (r ∷ v ∷ [])) ((𝟘ᵉ ≺ crossᵉ (pt 0) (pt 1)) ∷ []) (𝟘ᵉ ≺ dotᵉ (pt 0) (pt 0)) (only (square (dotᵉ (pt 0) (pt 1)) ⊞ given 1 ⊠ given 1 ⊞ given 0 ⊠ square (var 2) ⊞ given 0 ⊠ square (var 3))) tt h₁

-- a corner beyond a line: the three corners turn the same way from each of them
pub beyond_turns : (a b v : Point) → Beyond a b v → Beyond b v a
unfolding cross
beyond_turns a b v h₁ =
    record {
      beyond = prove (coordinates (a ∷ b ∷ v ∷ [])) ((𝟘ᵉ ≺ crossᵉ (pt 1) (pt 0) ⊕ crossᵉ (pt 0) (pt 2) ⊕ crossᵉ (pt 2) (pt 1)) ∷ []) (𝟘ᵉ ≺ crossᵉ (pt 2) (pt 1) ⊕ crossᵉ (pt 1) (pt 0) ⊕ crossᵉ (pt 0) (pt 2)) (only (given 0 ⊞ given 1)) tt h₁.beyond;
    }

pub not_beyond_both_ways : (a b v : Point) → Beyond a b v → Beyond a v b → ⊥
unfolding cross
not_beyond_both_ways a b v h₁ h₂ = refute (coordinates (a ∷ b ∷ v ∷ [])) ((𝟘ᵉ ≺ crossᵉ (pt 1) (pt 0) ⊕ crossᵉ (pt 0) (pt 2) ⊕ crossᵉ (pt 2) (pt 1)) ∷ (𝟘ᵉ ≺ crossᵉ (pt 2) (pt 0) ⊕ crossᵉ (pt 0) (pt 1) ⊕ crossᵉ (pt 1) (pt 2)) ∷ []) (given 1 ⊞ given 2) tt h₁.beyond h₂.beyond

-- two sides of a convex cell, each strictly left of the other, share no direction, even where a right end counts: the diagonals from a to a' and from b
-- to b' cross, and d would have one on its right and one on its left
pub opposite_sides_share_nothing : (a b a' b' d : Point) → Beyond b a a' → Beyond b a b' → Beyond b' a' a → Beyond b' a' b → 𝟘 ≤ℤ cross a d → 𝟘 <ℤ cross d b → 𝟘 ≤ℤ cross a' d → 𝟘 <ℤ cross d b' → ⊥
unfolding cross
opposite_sides_share_nothing a b a' b' d h₁ h₂ h₃ h₄ h₅ h₆ h₇ h₈ = refute (coordinates (a ∷ b ∷ a' ∷ b' ∷ d ∷ [])) ((𝟘ᵉ ≺ crossᵉ (pt 0) (pt 1) ⊕ crossᵉ (pt 1) (pt 2) ⊕ crossᵉ (pt 2) (pt 0)) ∷ (𝟘ᵉ ≺ crossᵉ (pt 0) (pt 1) ⊕ crossᵉ (pt 1) (pt 3) ⊕ crossᵉ (pt 3) (pt 0)) ∷ (𝟘ᵉ ≺ crossᵉ (pt 2) (pt 3) ⊕ crossᵉ (pt 3) (pt 0) ⊕ crossᵉ (pt 0) (pt 2)) ∷ (𝟘ᵉ ≺ crossᵉ (pt 2) (pt 3) ⊕ crossᵉ (pt 3) (pt 1) ⊕ crossᵉ (pt 1) (pt 2)) ∷ (𝟘ᵉ ≼ crossᵉ (pt 0) (pt 4)) ∷ (𝟘ᵉ ≺ crossᵉ (pt 4) (pt 1)) ∷ (𝟘ᵉ ≼ crossᵉ (pt 2) (pt 4)) ∷ (𝟘ᵉ ≺ crossᵉ (pt 4) (pt 3)) ∷ []) (given 1 ⊠ given 8 ⊞ given 2 ⊠ given 7 ⊞ given 3 ⊠ given 6 ⊞ given 4 ⊠ given 5) tt h₁.beyond h₂.beyond h₃.beyond h₄.beyond h₅ h₆ h₇ h₈

-- a cell entered by the line from a to b is left by a line with both ends beyond it strictly later
pub left_later_by_a_line_beyond : (a b a' b' d : Point) → Beyond a b a' → Beyond a b b' → Holds a' b' d → Earlier d a b a' b'
unfolding cross
left_later_by_a_line_beyond a b a' b' d h₁ h₂ h₃ =
    record {
      earlier = prove (coordinates (a ∷ b ∷ a' ∷ b' ∷ d ∷ [])) ((𝟘ᵉ ≺ crossᵉ (pt 1) (pt 0) ⊕ crossᵉ (pt 0) (pt 2) ⊕ crossᵉ (pt 2) (pt 1)) ∷ (𝟘ᵉ ≺ crossᵉ (pt 1) (pt 0) ⊕ crossᵉ (pt 0) (pt 3) ⊕ crossᵉ (pt 3) (pt 1)) ∷ (𝟘ᵉ ≺ crossᵉ (pt 2) (pt 4)) ∷ (𝟘ᵉ ≺ crossᵉ (pt 4) (pt 3)) ∷ []) (crossᵉ (pt 0) (pt 1) ⊗ (crossᵉ (pt 2) (pt 4) ⊕ crossᵉ (pt 4) (pt 3)) ≺ crossᵉ (pt 2) (pt 3) ⊗ (crossᵉ (pt 0) (pt 4) ⊕ crossᵉ (pt 4) (pt 1))) (only (given 0 ⊞ given 1 ⊠ given 4 ⊞ given 2 ⊠ given 3)) tt h₁.beyond h₂.beyond h₃.right h₃.left;
    }

-- d on the left of all three
pub order_right_of_a_direction_is_transitive : (u v w d : Point) → 𝟘 <ℤ cross u d → 𝟘 <ℤ cross v d → 𝟘 <ℤ cross w d → 𝟘 <ℤ cross u v → 𝟘 <ℤ cross v w → 𝟘 <ℤ cross u w
unfolding cross
order_right_of_a_direction_is_transitive u v w d h₁ h₂ h₃ h₄ h₅ = prove (coordinates (u ∷ v ∷ w ∷ d ∷ [])) ((𝟘ᵉ ≺ crossᵉ (pt 0) (pt 3)) ∷ (𝟘ᵉ ≺ crossᵉ (pt 1) (pt 3)) ∷ (𝟘ᵉ ≺ crossᵉ (pt 2) (pt 3)) ∷ (𝟘ᵉ ≺ crossᵉ (pt 0) (pt 1)) ∷ (𝟘ᵉ ≺ crossᵉ (pt 1) (pt 2)) ∷ []) (𝟘ᵉ ≺ crossᵉ (pt 0) (pt 2)) (only (given 0 ⊠ given 2 ⊞ given 1 ⊠ given 5 ⊞ given 3 ⊠ given 4)) tt h₁ h₂ h₃ h₄ h₅

-- d on the right of the first two and not on the left of the third
pub order_left_of_a_direction_is_transitive : (u v w d : Point) → cross u d <ℤ 𝟘 → cross v d <ℤ 𝟘 → cross w d ≤ℤ 𝟘 → 𝟘 <ℤ cross u v → 𝟘 <ℤ cross v w → 𝟘 <ℤ cross u w
unfolding cross
order_left_of_a_direction_is_transitive u v w d h₁ h₂ h₃ h₄ h₅ = prove (coordinates (u ∷ v ∷ w ∷ d ∷ [])) ((crossᵉ (pt 0) (pt 3) ≺ 𝟘ᵉ) ∷ (crossᵉ (pt 1) (pt 3) ≺ 𝟘ᵉ) ∷ (crossᵉ (pt 2) (pt 3) ≼ 𝟘ᵉ) ∷ (𝟘ᵉ ≺ crossᵉ (pt 0) (pt 1)) ∷ (𝟘ᵉ ≺ crossᵉ (pt 1) (pt 2)) ∷ []) (𝟘ᵉ ≺ crossᵉ (pt 0) (pt 2)) (only (given 0 ⊠ given 2 ⊞ given 1 ⊠ given 5 ⊞ given 3 ⊠ given 4)) tt h₁ h₂ h₃ h₄ h₅

-- straight away from a corner has the next corner around the stand on its right, and the corner before on its left
pub after_a_corner_behind : (a b d : Point) → 𝟘 <ℤ cross a b → cross d a ≡ 𝟘 → dot d a <ℤ 𝟘 → 𝟘 <ℤ cross b d
unfolding cross dot
after_a_corner_behind a b d h₁ h₂ h₃ = prove (coordinates (a ∷ b ∷ d ∷ [])) ((𝟘ᵉ ≺ crossᵉ (pt 0) (pt 1)) ∷ (crossᵉ (pt 2) (pt 0) ≈ 𝟘ᵉ) ∷ (dotᵉ (pt 2) (pt 0) ≺ 𝟘ᵉ) ∷ []) (𝟘ᵉ ≺ crossᵉ (pt 1) (pt 2)) (only (given 1 ⊠ given 3 ⊞ given 0 ⊠ square (var 0) ⊞ given 0 ⊠ square (var 1) ⊞ by (dotᵉ (pt 0) (pt 1)) (given 2))) tt h₁ h₂ h₃

pub before_a_corner_behind : (a b d : Point) → 𝟘 <ℤ cross a b → cross d b ≡ 𝟘 → dot d b <ℤ 𝟘 → 𝟘 <ℤ cross d a
unfolding cross dot
before_a_corner_behind a b d h₁ h₂ h₃ = prove (coordinates (a ∷ b ∷ d ∷ [])) ((𝟘ᵉ ≺ crossᵉ (pt 0) (pt 1)) ∷ (crossᵉ (pt 2) (pt 1) ≈ 𝟘ᵉ) ∷ (dotᵉ (pt 2) (pt 1) ≺ 𝟘ᵉ) ∷ []) (𝟘ᵉ ≺ crossᵉ (pt 2) (pt 0)) (only (given 1 ⊠ given 3 ⊞ given 0 ⊠ square (var 2) ⊞ given 0 ⊠ square (var 3) ⊞ by (neg (dotᵉ (pt 0) (pt 1))) (given 2))) tt h₁ h₂ h₃

-- corners on the line from a to b or beyond it, in their order around b
pub beyond_is_transitive_around_an_end : (a b u v w : Point) → 𝟘 ≤ℤ (cross b a +ℤ cross a u +ℤ cross u b) → 𝟘 ≤ℤ (cross b a +ℤ cross a v +ℤ cross v b) → Beyond a b w → Beyond u b v → Beyond v b w → Beyond u b w
unfolding cross
beyond_is_transitive_around_an_end a b u v w h₁ h₂ h₃ h₄ h₅ =
    record {
      beyond = prove (coordinates (a ∷ b ∷ u ∷ v ∷ w ∷ [])) ((𝟘ᵉ ≼ crossᵉ (pt 1) (pt 0) ⊕ crossᵉ (pt 0) (pt 2) ⊕ crossᵉ (pt 2) (pt 1)) ∷ (𝟘ᵉ ≼ crossᵉ (pt 1) (pt 0) ⊕ crossᵉ (pt 0) (pt 3) ⊕ crossᵉ (pt 3) (pt 1)) ∷ (𝟘ᵉ ≺ crossᵉ (pt 1) (pt 0) ⊕ crossᵉ (pt 0) (pt 4) ⊕ crossᵉ (pt 4) (pt 1)) ∷ (𝟘ᵉ ≺ crossᵉ (pt 1) (pt 2) ⊕ crossᵉ (pt 2) (pt 3) ⊕ crossᵉ (pt 3) (pt 1)) ∷ (𝟘ᵉ ≺ crossᵉ (pt 1) (pt 3) ⊕ crossᵉ (pt 3) (pt 4) ⊕ crossᵉ (pt 4) (pt 1)) ∷ []) (𝟘ᵉ ≺ crossᵉ (pt 1) (pt 2) ⊕ crossᵉ (pt 2) (pt 4) ⊕ crossᵉ (pt 4) (pt 1)) (only (given 0 ⊠ given 2 ⊞ given 1 ⊠ given 5 ⊞ given 3 ⊠ given 4)) tt h₁ h₂ h₃.beyond h₄.beyond h₅.beyond;
    }

pub start_of_a_line_is_on_it : (a b : Point) → 𝟘 ≤ℤ (cross b a +ℤ cross a a +ℤ cross a b)
unfolding cross
start_of_a_line_is_on_it a b = prove (coordinates (a ∷ b ∷ [])) [] (𝟘ᵉ ≼ crossᵉ (pt 1) (pt 0) ⊕ crossᵉ (pt 0) (pt 0) ⊕ crossᵉ (pt 0) (pt 1)) (only (given 0)) tt

-- four corners a, v, p and b of a convex cell in their order: where v and b are on or left of a ray and a is right of it, so p is left of it
pub later_corner_is_left_of_a_left_ray : (a v p b t : Point) → Beyond v a p → Beyond v b p → Beyond a b p → Beyond a b v → 𝟘 <ℤ cross a t → 𝟘 ≤ℤ cross t v → 𝟘 ≤ℤ cross t b → 𝟘 <ℤ cross t p
unfolding cross
later_corner_is_left_of_a_left_ray a v p b t h₁ h₂ h₃ h₄ h₅ h₆ h₇ = prove (coordinates (a ∷ v ∷ p ∷ b ∷ t ∷ [])) ((𝟘ᵉ ≺ crossᵉ (pt 0) (pt 1) ⊕ crossᵉ (pt 1) (pt 2) ⊕ crossᵉ (pt 2) (pt 0)) ∷ (𝟘ᵉ ≺ crossᵉ (pt 3) (pt 1) ⊕ crossᵉ (pt 1) (pt 2) ⊕ crossᵉ (pt 2) (pt 3)) ∷ (𝟘ᵉ ≺ crossᵉ (pt 3) (pt 0) ⊕ crossᵉ (pt 0) (pt 2) ⊕ crossᵉ (pt 2) (pt 3)) ∷ (𝟘ᵉ ≺ crossᵉ (pt 3) (pt 0) ⊕ crossᵉ (pt 0) (pt 1) ⊕ crossᵉ (pt 1) (pt 3)) ∷ (𝟘ᵉ ≺ crossᵉ (pt 0) (pt 4)) ∷ (𝟘ᵉ ≼ crossᵉ (pt 4) (pt 1)) ∷ (𝟘ᵉ ≼ crossᵉ (pt 4) (pt 3)) ∷ []) (𝟘ᵉ ≺ crossᵉ (pt 4) (pt 2)) (only (given 0 ⊠ given 4 ⊞ given 1 ⊠ given 7 ⊞ given 2 ⊠ given 5 ⊞ given 3 ⊠ given 6)) tt h₁.beyond h₂.beyond h₃.beyond h₄.beyond h₅ h₆ h₇

pub later_corner_is_left_of_a_right_ray : (a v p b t : Point) → Beyond v a p → Beyond v b p → Beyond a b p → Beyond a b v → 𝟘 ≤ℤ cross a t → 𝟘 <ℤ cross t v → 𝟘 <ℤ cross t b → 𝟘 <ℤ cross t p
unfolding cross
later_corner_is_left_of_a_right_ray a v p b t h₁ h₂ h₃ h₄ h₅ h₆ h₇ = prove (coordinates (a ∷ v ∷ p ∷ b ∷ t ∷ [])) ((𝟘ᵉ ≺ crossᵉ (pt 0) (pt 1) ⊕ crossᵉ (pt 1) (pt 2) ⊕ crossᵉ (pt 2) (pt 0)) ∷ (𝟘ᵉ ≺ crossᵉ (pt 3) (pt 1) ⊕ crossᵉ (pt 1) (pt 2) ⊕ crossᵉ (pt 2) (pt 3)) ∷ (𝟘ᵉ ≺ crossᵉ (pt 3) (pt 0) ⊕ crossᵉ (pt 0) (pt 2) ⊕ crossᵉ (pt 2) (pt 3)) ∷ (𝟘ᵉ ≺ crossᵉ (pt 3) (pt 0) ⊕ crossᵉ (pt 0) (pt 1) ⊕ crossᵉ (pt 1) (pt 3)) ∷ (𝟘ᵉ ≼ crossᵉ (pt 0) (pt 4)) ∷ (𝟘ᵉ ≺ crossᵉ (pt 4) (pt 1)) ∷ (𝟘ᵉ ≺ crossᵉ (pt 4) (pt 3)) ∷ []) (𝟘ᵉ ≺ crossᵉ (pt 4) (pt 2)) (only (given 0 ⊠ given 4 ⊞ given 1 ⊠ given 7 ⊞ given 2 ⊠ given 5 ⊞ given 3 ⊠ given 6)) tt h₁.beyond h₂.beyond h₃.beyond h₄.beyond h₅ h₆ h₇

pub left_turned_is_not_left : (u v : Point) → 𝟘 ≤ℤ cross u v → cross v u ≤ℤ 𝟘
unfolding cross
left_turned_is_not_left u v h₁ = prove (coordinates (u ∷ v ∷ [])) ((𝟘ᵉ ≼ crossᵉ (pt 0) (pt 1)) ∷ []) (crossᵉ (pt 1) (pt 0) ≼ 𝟘ᵉ) (only (given 0 ⊞ given 1)) tt h₁

-- a stand strictly within a line: its two ends lie in opposite directions, whichever is named first
pub opposite_turns : (a b : Point) → Opposite a b → Opposite b a
unfolding cross dot
opposite_turns a b h₁ =
    record {
      along = prove (coordinates (a ∷ b ∷ [])) ((crossᵉ (pt 0) (pt 1) ≈ 𝟘ᵉ) ∷ []) (crossᵉ (pt 1) (pt 0) ≈ 𝟘ᵉ) (both (given 0 ⊞ by (lit (pos 1)) (given 1)) (given 0 ⊞ by (neg (lit (pos 1))) (given 1))) (tt, tt) h₁.along;
      apart = prove (coordinates (a ∷ b ∷ [])) ((dotᵉ (pt 0) (pt 1) ≺ 𝟘ᵉ) ∷ []) (dotᵉ (pt 1) (pt 0) ≺ 𝟘ᵉ) (only (given 0 ⊞ given 1)) tt h₁.apart;
    }

pub opposite_has_length : (a b : Point) → Opposite a b → 𝟘 <ℤ dot a a
unfolding dot
opposite_has_length a b h₁ = prove (coordinates (a ∷ b ∷ [])) ((dotᵉ (pt 0) (pt 1) ≺ 𝟘ᵉ) ∷ []) (𝟘ᵉ ≺ dotᵉ (pt 0) (pt 0)) (only (square (crossᵉ (pt 0) (pt 1)) ⊞ given 1 ⊠ given 1 ⊞ given 0 ⊠ square (var 2) ⊞ given 0 ⊠ square (var 3))) tt h₁.apart

-- no direction is left of one end and not right of the other
pub not_left_of_both_ends : (a b d : Point) → Opposite a b → 𝟘 <ℤ cross b d → 𝟘 ≤ℤ cross a d → ⊥
unfolding cross dot
not_left_of_both_ends a b d h₁ h₂ h₃ = refute (coordinates (a ∷ b ∷ d ∷ [])) ((crossᵉ (pt 0) (pt 1) ≈ 𝟘ᵉ) ∷ (dotᵉ (pt 0) (pt 1) ≺ 𝟘ᵉ) ∷ (𝟘ᵉ ≺ crossᵉ (pt 1) (pt 2)) ∷ (𝟘ᵉ ≼ crossᵉ (pt 0) (pt 2)) ∷ []) (given 2 ⊠ given 3 ⊞ given 4 ⊠ square (var 2) ⊞ given 4 ⊠ square (var 3) ⊞ by (dotᵉ (pt 1) (pt 2)) (given 1)) tt h₁.along h₁.apart h₂ h₃

pub left_of_one_end_is_right_of_the_other : (a b d : Point) → Opposite a b → 𝟘 <ℤ cross b d → 𝟘 <ℤ cross d a
unfolding cross dot
left_of_one_end_is_right_of_the_other a b d h₁ h₂ = prove (coordinates (a ∷ b ∷ d ∷ [])) ((crossᵉ (pt 0) (pt 1) ≈ 𝟘ᵉ) ∷ (dotᵉ (pt 0) (pt 1) ≺ 𝟘ᵉ) ∷ (𝟘ᵉ ≺ crossᵉ (pt 1) (pt 2)) ∷ []) (𝟘ᵉ ≺ crossᵉ (pt 2) (pt 0)) (only (given 2 ⊠ given 3 ⊞ given 0 ⊠ square (var 2) ⊞ given 0 ⊠ square (var 3) ⊞ by (dotᵉ (pt 1) (pt 2)) (given 1))) tt h₁.along h₁.apart h₂

pub right_of_one_end_is_left_of_the_other : (a b d : Point) → Opposite a b → cross b d <ℤ 𝟘 → 𝟘 <ℤ cross a d
unfolding cross dot
right_of_one_end_is_left_of_the_other a b d h₁ h₂ = prove (coordinates (a ∷ b ∷ d ∷ [])) ((crossᵉ (pt 0) (pt 1) ≈ 𝟘ᵉ) ∷ (dotᵉ (pt 0) (pt 1) ≺ 𝟘ᵉ) ∷ (crossᵉ (pt 1) (pt 2) ≺ 𝟘ᵉ) ∷ []) (𝟘ᵉ ≺ crossᵉ (pt 0) (pt 2)) (only (given 2 ⊠ given 3 ⊞ given 0 ⊠ square (var 2) ⊞ given 0 ⊠ square (var 3) ⊞ by (neg (dotᵉ (pt 1) (pt 2))) (given 1))) tt h₁.along h₁.apart h₂

pub along_one_end_is_along_the_other : (a b d : Point) → Opposite a b → 𝟘 <ℤ dot b b → cross d b ≡ 𝟘 → cross d a ≡ 𝟘
unfolding cross dot
along_one_end_is_along_the_other a b d h₁ h₂ h₃ = prove (coordinates (a ∷ b ∷ d ∷ [])) ((crossᵉ (pt 0) (pt 1) ≈ 𝟘ᵉ) ∷ (𝟘ᵉ ≺ dotᵉ (pt 1) (pt 1)) ∷ (crossᵉ (pt 2) (pt 1) ≈ 𝟘ᵉ) ∷ []) (crossᵉ (pt 2) (pt 0) ≈ 𝟘ᵉ) (both (given 0 ⊠ given 2 ⊞ by (dotᵉ (pt 1) (pt 2)) (given 1) ⊞ by (neg (dotᵉ (pt 0) (pt 1))) (given 3)) (given 0 ⊠ given 2 ⊞ by (neg (dotᵉ (pt 1) (pt 2))) (given 1) ⊞ by (dotᵉ (pt 0) (pt 1)) (given 3))) (tt, tt) h₁.along h₂ h₃

pub away_from_one_end_is_towards_the_other : (a b d : Point) → Opposite a b → cross d b ≡ 𝟘 → dot d b <ℤ 𝟘 → 𝟘 <ℤ dot d a
unfolding cross dot
away_from_one_end_is_towards_the_other a b d h₁ h₂ h₃ = prove (coordinates (a ∷ b ∷ d ∷ [])) ((crossᵉ (pt 0) (pt 1) ≈ 𝟘ᵉ) ∷ (dotᵉ (pt 0) (pt 1) ≺ 𝟘ᵉ) ∷ (dotᵉ (pt 2) (pt 1) ≺ 𝟘ᵉ) ∷ []) (𝟘ᵉ ≺ dotᵉ (pt 2) (pt 0)) (only (given 2 ⊠ given 3 ⊞ given 0 ⊠ square (var 2) ⊞ given 0 ⊠ square (var 3) ⊞ by (crossᵉ (pt 1) (pt 2)) (given 1))) tt h₁.along h₁.apart h₃

-- a corner beyond a line that holds the stand is left of the ray to the line's left end
pub beyond_a_line_is_left_of_its_left_end : (a b v : Point) → Opposite a b → Beyond b a v → 𝟘 <ℤ cross b v
unfolding cross dot
beyond_a_line_is_left_of_its_left_end a b v h₁ h₂ = prove (coordinates (a ∷ b ∷ v ∷ [])) ((crossᵉ (pt 0) (pt 1) ≈ 𝟘ᵉ) ∷ (dotᵉ (pt 0) (pt 1) ≺ 𝟘ᵉ) ∷ (𝟘ᵉ ≺ crossᵉ (pt 0) (pt 1) ⊕ crossᵉ (pt 1) (pt 2) ⊕ crossᵉ (pt 2) (pt 0)) ∷ []) (𝟘ᵉ ≺ crossᵉ (pt 1) (pt 2)) (only (given 0 ⊠ given 2 ⊞ given 2 ⊠ given 3 ⊞ given 0 ⊠ square (var 0) ⊞ given 0 ⊠ square (var 1) ⊞ by (neg (dotᵉ (pt 0) (pt 1))) (given 1) ⊞ by (dotᵉ (pt 0) (pt 2)) (given 1))) tt h₁.along h₁.apart h₂.beyond

-- the line from r to l has both ends of a line that holds the stand strictly on its left: so it has the stand
pub sides_beyond_a_line_turn_left : (a b r l : Point) → Opposite a b → Beyond l r a → Beyond l r b → 𝟘 <ℤ cross r l
unfolding cross dot
sides_beyond_a_line_turn_left a b r l h₁ h₂ h₃ = prove (coordinates (a ∷ b ∷ r ∷ l ∷ [])) ((crossᵉ (pt 0) (pt 1) ≈ 𝟘ᵉ) ∷ (dotᵉ (pt 0) (pt 1) ≺ 𝟘ᵉ) ∷ (𝟘ᵉ ≺ crossᵉ (pt 2) (pt 3) ⊕ crossᵉ (pt 3) (pt 0) ⊕ crossᵉ (pt 0) (pt 2)) ∷ (𝟘ᵉ ≺ crossᵉ (pt 2) (pt 3) ⊕ crossᵉ (pt 3) (pt 1) ⊕ crossᵉ (pt 1) (pt 2)) ∷ []) (𝟘ᵉ ≺ crossᵉ (pt 2) (pt 3)) (only (given 0 ⊠ given 2 ⊞ given 2 ⊠ given 3 ⊞ given 0 ⊠ square (var 0) ⊞ given 0 ⊠ square (var 1) ⊞ given 4 ⊠ square (var 0) ⊞ given 4 ⊠ square (var 1) ⊞ by (neg (dotᵉ (pt 0) (pt 2))) (given 1) ⊞ by (dotᵉ (pt 0) (pt 3)) (given 1))) tt h₁.along h₁.apart h₂.beyond h₃.beyond

pub the_side_after_a_line_turns_left : (a r l : Point) → Opposite a r → Beyond l r a → 𝟘 <ℤ cross r l
unfolding cross dot
the_side_after_a_line_turns_left a r l h₁ h₂ = prove (coordinates (a ∷ r ∷ l ∷ [])) ((crossᵉ (pt 0) (pt 1) ≈ 𝟘ᵉ) ∷ (dotᵉ (pt 0) (pt 1) ≺ 𝟘ᵉ) ∷ (𝟘ᵉ ≺ crossᵉ (pt 1) (pt 2) ⊕ crossᵉ (pt 2) (pt 0) ⊕ crossᵉ (pt 0) (pt 1)) ∷ []) (𝟘ᵉ ≺ crossᵉ (pt 1) (pt 2)) (only (given 0 ⊠ given 2 ⊞ given 2 ⊠ given 3 ⊞ given 0 ⊠ square (var 0) ⊞ given 0 ⊠ square (var 1) ⊞ by (neg (dotᵉ (pt 0) (pt 1))) (given 1) ⊞ by (dotᵉ (pt 0) (pt 2)) (given 1))) tt h₁.along h₁.apart h₂.beyond

pub the_side_before_a_line_turns_left : (b r l : Point) → Opposite l b → Beyond l r b → 𝟘 <ℤ cross r l
unfolding cross dot
the_side_before_a_line_turns_left b r l h₁ h₂ = prove (coordinates (b ∷ r ∷ l ∷ [])) ((crossᵉ (pt 2) (pt 0) ≈ 𝟘ᵉ) ∷ (dotᵉ (pt 2) (pt 0) ≺ 𝟘ᵉ) ∷ (𝟘ᵉ ≺ crossᵉ (pt 1) (pt 2) ⊕ crossᵉ (pt 2) (pt 0) ⊕ crossᵉ (pt 0) (pt 1)) ∷ []) (𝟘ᵉ ≺ crossᵉ (pt 1) (pt 2)) (only (given 0 ⊠ given 2 ⊞ given 2 ⊠ given 3 ⊞ given 0 ⊠ square (var 0) ⊞ given 0 ⊠ square (var 1) ⊞ by (dotᵉ (pt 0) (pt 1)) (given 1) ⊞ by (neg (dotᵉ (pt 0) (pt 2))) (given 1))) tt h₁.along h₁.apart h₂.beyond

-- what is seen by a line on or left of a ray is not right of that ray
pub spanned_is_not_right : (u a b d : Point) → 𝟘 ≤ℤ cross u a → 𝟘 ≤ℤ cross u b → 𝟘 <ℤ cross a b → 𝟘 ≤ℤ cross a d → 𝟘 <ℤ cross d b → 𝟘 ≤ℤ cross u d
unfolding cross
spanned_is_not_right u a b d h₁ h₂ h₃ h₄ h₅ = prove (coordinates (u ∷ a ∷ b ∷ d ∷ [])) ((𝟘ᵉ ≼ crossᵉ (pt 0) (pt 1)) ∷ (𝟘ᵉ ≼ crossᵉ (pt 0) (pt 2)) ∷ (𝟘ᵉ ≺ crossᵉ (pt 1) (pt 2)) ∷ (𝟘ᵉ ≼ crossᵉ (pt 1) (pt 3)) ∷ (𝟘ᵉ ≺ crossᵉ (pt 3) (pt 2)) ∷ []) (𝟘ᵉ ≼ crossᵉ (pt 0) (pt 3)) (only (given 0 ⊠ given 3 ⊞ given 1 ⊠ given 5 ⊞ given 2 ⊠ given 4)) tt h₁ h₂ h₃ h₄ h₅

pub spanned_from_the_left_is_left : (u a b d : Point) → 𝟘 <ℤ cross u a → 𝟘 ≤ℤ cross u b → 𝟘 <ℤ cross a b → 𝟘 ≤ℤ cross a d → 𝟘 <ℤ cross d b → 𝟘 <ℤ cross u d
unfolding cross
spanned_from_the_left_is_left u a b d h₁ h₂ h₃ h₄ h₅ = prove (coordinates (u ∷ a ∷ b ∷ d ∷ [])) ((𝟘ᵉ ≺ crossᵉ (pt 0) (pt 1)) ∷ (𝟘ᵉ ≼ crossᵉ (pt 0) (pt 2)) ∷ (𝟘ᵉ ≺ crossᵉ (pt 1) (pt 2)) ∷ (𝟘ᵉ ≼ crossᵉ (pt 1) (pt 3)) ∷ (𝟘ᵉ ≺ crossᵉ (pt 3) (pt 2)) ∷ []) (𝟘ᵉ ≺ crossᵉ (pt 0) (pt 3)) (only (given 0 ⊠ given 3 ⊞ given 1 ⊠ given 5 ⊞ given 2 ⊠ given 4)) tt h₁ h₂ h₃ h₄ h₅

pub spanned_to_the_left_is_left : (u a b d : Point) → 𝟘 ≤ℤ cross u a → 𝟘 <ℤ cross u b → 𝟘 <ℤ cross a b → Holds a b d → 𝟘 <ℤ cross u d
unfolding cross
spanned_to_the_left_is_left u a b d h₁ h₂ h₃ h₄ = prove (coordinates (u ∷ a ∷ b ∷ d ∷ [])) ((𝟘ᵉ ≼ crossᵉ (pt 0) (pt 1)) ∷ (𝟘ᵉ ≺ crossᵉ (pt 0) (pt 2)) ∷ (𝟘ᵉ ≺ crossᵉ (pt 1) (pt 2)) ∷ (𝟘ᵉ ≺ crossᵉ (pt 1) (pt 3)) ∷ (𝟘ᵉ ≺ crossᵉ (pt 3) (pt 2)) ∷ []) (𝟘ᵉ ≺ crossᵉ (pt 0) (pt 3)) (only (given 0 ⊠ given 3 ⊞ given 1 ⊠ given 5 ⊞ given 2 ⊠ given 4)) tt h₁ h₂ h₃ h₄.right h₄.left

pub left_of_the_other_end_is_right : (a b v : Point) → Opposite a b → 𝟘 <ℤ cross a v → cross b v <ℤ 𝟘
unfolding cross dot
left_of_the_other_end_is_right a b v h₁ h₂ = prove (coordinates (a ∷ b ∷ v ∷ [])) ((crossᵉ (pt 0) (pt 1) ≈ 𝟘ᵉ) ∷ (dotᵉ (pt 0) (pt 1) ≺ 𝟘ᵉ) ∷ (𝟘ᵉ ≺ crossᵉ (pt 0) (pt 2)) ∷ []) (crossᵉ (pt 1) (pt 2) ≺ 𝟘ᵉ) (only (given 2 ⊠ given 3 ⊞ given 0 ⊠ square (var 0) ⊞ given 0 ⊠ square (var 1) ⊞ by (neg (dotᵉ (pt 0) (pt 2))) (given 1))) tt h₁.along h₁.apart h₂

pub a_ray_along_a_line_has_one_side_left : (u d b c : Point) → cross u d ≡ 𝟘 → 𝟘 <ℤ cross u b → 𝟘 <ℤ cross d b → cross u c <ℤ 𝟘 → 𝟘 <ℤ cross d c → ⊥
unfolding cross
a_ray_along_a_line_has_one_side_left u d b c h₁ h₂ h₃ h₄ h₅ = refute (coordinates (u ∷ d ∷ b ∷ c ∷ [])) ((crossᵉ (pt 0) (pt 1) ≈ 𝟘ᵉ) ∷ (𝟘ᵉ ≺ crossᵉ (pt 0) (pt 2)) ∷ (𝟘ᵉ ≺ crossᵉ (pt 1) (pt 2)) ∷ (crossᵉ (pt 0) (pt 3) ≺ 𝟘ᵉ) ∷ (𝟘ᵉ ≺ crossᵉ (pt 1) (pt 3)) ∷ []) (given 2 ⊠ given 5 ⊞ given 3 ⊠ given 4 ⊞ by (crossᵉ (pt 2) (pt 3)) (given 1)) tt h₁ h₂ h₃ h₄ h₅

-- from one direction to another on its left: the way there is left of both
pub the_way_to_the_left_is_left_of_the_first : (u v : Point) → 𝟘 <ℤ cross u v → 𝟘 <ℤ cross u (minus v u)
unfolding cross minus
the_way_to_the_left_is_left_of_the_first u v h₁ = prove (coordinates (u ∷ v ∷ [])) ((𝟘ᵉ ≺ crossᵉ (pt 0) (pt 1)) ∷ []) (𝟘ᵉ ≺ crossᵉ (pt 0) (minusᵉ (pt 1) (pt 0))) (only (given 0 ⊞ given 1)) tt h₁

pub the_way_to_the_left_is_left_of_the_second : (u v : Point) → 𝟘 <ℤ cross u v → 𝟘 <ℤ cross v (minus v u)
unfolding cross minus
the_way_to_the_left_is_left_of_the_second u v h₁ = prove (coordinates (u ∷ v ∷ [])) ((𝟘ᵉ ≺ crossᵉ (pt 0) (pt 1)) ∷ []) (𝟘ᵉ ≺ crossᵉ (pt 1) (minusᵉ (pt 1) (pt 0))) (only (given 0 ⊞ given 1)) tt h₁

pub a_line_against_goes_along_when_turned : (a b v : Point) → dot (minus b a) v <ℤ 𝟘 → 𝟘 <ℤ dot (minus a b) v
unfolding dot minus
a_line_against_goes_along_when_turned a b v h₁ = prove (coordinates (a ∷ b ∷ v ∷ [])) ((dotᵉ (minusᵉ (pt 1) (pt 0)) (pt 2) ≺ 𝟘ᵉ) ∷ []) (𝟘ᵉ ≺ dotᵉ (minusᵉ (pt 0) (pt 1)) (pt 2)) (only (given 0 ⊞ given 1)) tt h₁
