-- Laws of cones and rays that go by cases on signs; each branch is a certificate of `Found`.
use mathlib.Core.Path.{◌≡◌}
use mathlib.Core.Logic.{◌⊎◌, inl, inr}
use lib.Signed.{◌<ℤ◌, ◌≤ℤ◌, clash_ℤ}
use Rattle.exact.proofs.Order.{𝟘, less_or_not, trichotomy}
use Rattle.plane.specs.Side.{Point}
use Rattle.plane.specs.Cone.{cross, dot, plus, Holds, Between, Meets, Direction, Cone, Beyond}
use Rattle.plane.specs.One.{OneOfTwo, OneOfThree}
use Rattle.plane.proofs.Found.{right_turned_is_left, left_turned_is_right, no_length_no_x, no_length_no_y, no_zero_limit, along_v_inside_is_ahead, halves_share_nothing, right_is_not_left, along_is_ahead_or_behind, cone_holds_the_sum_of_its_limits}

-- ---- the hand-on

-- exactly one case applies: the apex strictly between the limits, on or right of the ray to r, or on or left of the ray to l
pub exactly_one_case_of_the_hand_on : (a b r l v : Point) → Cone a b r l → Beyond a b v → OneOfThree (Between r l v) (cross r v ≤ℤ 𝟘) (cross v l ≤ℤ 𝟘)
exactly_one_case_of_the_hand_on a b r l v c far = by_right (less_or_not 𝟘 (cross r v)) (less_or_not 𝟘 (cross v l))
  where
    by_right : (𝟘 <ℤ cross r v) ⊎ (cross r v ≤ℤ 𝟘) → (𝟘 <ℤ cross v l) ⊎ (cross v l ≤ℤ 𝟘) → OneOfThree (Between r l v) (cross r v ≤ℤ 𝟘) (cross v l ≤ℤ 𝟘)
    by_right (inl h) (inl k) =
        OneOfThree.first (record { past_right = h; short_of_left = k }) (λ n. clash_ℤ h n) (λ n. clash_ℤ k n)
    by_right (inl h) (inr k) = OneOfThree.third (λ b. clash_ℤ b.short_of_left k) (λ n. clash_ℤ h n) k
    by_right (inr h) k = OneOfThree.second (λ b. clash_ℤ b.past_right h) h (right_is_not_left a b r l v c far h)

-- ---- the split

-- a direction strictly inside, not on v's ray, is strictly inside exactly one half
pub split_at_a_corner : (r l v d : Point) → Between r l v → Holds r l d → ¬ Meets d v → OneOfTwo (Holds r v d) (Holds v l d)
split_at_a_corner r l v d hv hd off = by_side (trichotomy (cross d v) 𝟘)
  where
    by_side : (cross d v <ℤ 𝟘) ⊎ ((cross d v ≡ 𝟘) ⊎ (𝟘 <ℤ cross d v)) → OneOfTwo (Holds r v d) (Holds v l d)
    by_side (inl k) =
        let left : Holds v l d = record { right = right_turned_is_left d v k; left = hd.left } in
        OneOfTwo.second (λ h. halves_share_nothing r v l d h left) left
    by_side (inr (inl e)) =
        absurd (off (record { along = e; ahead = along_v_inside_is_ahead r l v d (no_zero_limit r v hv.past_right) hv hd e }))
    by_side (inr (inr k)) =
        let right : Holds r v d = record { right = hd.right; left = k } in
        OneOfTwo.first right (λ h. halves_share_nothing r v l d right h)

-- ---- the start

pub direction_has_length : (d : Point) → Direction d → 𝟘 <ℤ dot d d
direction_has_length d n = by_test (less_or_not 𝟘 (dot d d))
  where
    by_test : (𝟘 <ℤ dot d d) ⊎ (dot d d ≤ℤ 𝟘) → 𝟘 <ℤ dot d d
    by_test (inl h) = h
    by_test (inr h) = absurd (n.not_both_zero (no_length_no_x d h) (no_length_no_y d h))

-- where a direction goes that does not meet a corner: left of it, right of it, or straight away from it
pub data Passes (d a : Point) : Type 0 where
  left : 𝟘 <ℤ cross a d → Passes d a
  right : cross a d <ℤ 𝟘 → Passes d a
  away : cross d a ≡ 𝟘 → dot d a <ℤ 𝟘 → Passes d a

pub passes : (d a : Point) → 𝟘 <ℤ dot d d → 𝟘 <ℤ dot a a → ¬ Meets d a → Passes d a
passes d a long far off = by_side (trichotomy (cross d a) 𝟘)
  where
    by_length : cross d a ≡ 𝟘 → (dot d a <ℤ 𝟘) ⊎ ((dot d a ≡ 𝟘) ⊎ (𝟘 <ℤ dot d a)) → Passes d a
    by_length e (inl k) = away e k
    by_length e (inr (inl z)) = absurd (along_is_ahead_or_behind a d far long e z)
    by_length e (inr (inr k)) = absurd (off (record { along = e; ahead = k }))

    by_side : (cross d a <ℤ 𝟘) ⊎ ((cross d a ≡ 𝟘) ⊎ (𝟘 <ℤ cross d a)) → Passes d a
    by_side (inl k) = left (right_turned_is_left d a k)
    by_side (inr (inl e)) = by_length e (trichotomy (dot d a) 𝟘)
    by_side (inr (inr k)) = right (left_turned_is_right d a k)

-- ---- directions

-- a cone is never empty of directions
pub cone_is_never_empty : (a b r l : Point) → Cone a b r l → (d : Point) × Holds r l d
cone_is_never_empty a b r l c = (plus r l, cone_holds_the_sum_of_its_limits r l c.right_to_left)
