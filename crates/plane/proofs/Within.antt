-- Whether a point is strictly within a side: on its line, with the side's two ends in opposite directions.
use mathlib.Core.Bool.{true, false}
use mathlib.Core.Path.{◌≡◌, refl, sym, ◌∙◌}
use borrow.Author.Tests.{not-true}
use Rattle.std.proofs.lemmas.Bool.{false_from_ne_true}
use lib.Signed.{lt_z}
use Rattle.exact.proofs.Order.{𝟘, lt_ltZ, ltZ_true, ltZ_false, at_most_both_ways}
use Rattle.exact.proofs.Truth.{both_true}
use Rattle.plane.specs.Side.{Point, side}
use Rattle.plane.specs.Cone.{minus, cross, dot, Opposite}
use Rattle.plane.specs.Tests.{is_within}
use Rattle.plane.proofs.Found.{side_turns_with_its_corners, side_from_the_stand}

module _ (a b q : Point) where
  -- ---- by the side value

  pub on_its_line : side a b q ≡ 𝟘 → is_within a b q ≡ lt_z (dot (minus a q) (minus b q)) 𝟘
  unfolding is_within
  on_its_line e = rw e refl

  -- ---- in opposite directions

  pub seen_from_it : side a b q ≡ cross (minus a q) (minus b q)
  seen_from_it = sym (side_turns_with_its_corners q a b) ∙ side_from_the_stand q a b

  pub ends_are_opposite : is_within a b q ≡ true → Opposite (minus a q) (minus b q)
  unfolding is_within
  ends_are_opposite e =
      let t = both_true _ _ e in
      let u = both_true _ _ t.0 in
      record {
        along = sym seen_from_it ∙ at_most_both_ways (ltZ_false _ _ (not-true _ u.1)) (ltZ_false _ _ (not-true _ u.0));
        apart = ltZ_true _ _ t.1;
      }

  pub opposite_ends_hold_it : Opposite (minus a q) (minus b q) → is_within a b q ≡ true
  opposite_ends_hold_it o = on_its_line (seen_from_it ∙ o.along) ∙ lt_ltZ o.apart

  pub not_on_its_line : (side a b q ≡ 𝟘 → ⊥) → is_within a b q ≡ false
  not_on_its_line beside = false_from_ne_true (is_within a b q) (λ e. beside (seen_from_it ∙ (ends_are_opposite e).along))
