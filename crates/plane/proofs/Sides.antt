-- The containment test by the sign of a side value: what each sign answers.
use mathlib.Core.Path.{◌≡◌, ap₂}
use lib.IntN.{ℤ}
use lib.Signed.{◌<ℤ◌, ◌≤ℤ◌}
use Rattle.exact.proofs.Order.{𝟘, lt_ltZ, le_ltZ, le_leZ, lt_leZ, less_is_at_most}
use Rattle.plane.specs.Tests.{by_value, chosen}
use Rattle.plane.specs.declared.Containment.TheVariants.{Inside, Border, Outside}

module _ {s : ℤ} where
  pub negative_is_outside : s <ℤ 𝟘 → by_value s ≡ Outside
  unfolding by_value
  negative_is_outside h = ap₂ chosen (le_ltZ (less_is_at_most h)) (lt_leZ h)

  pub nought_is_border : 𝟘 ≤ℤ s → s ≤ℤ 𝟘 → by_value s ≡ Border
  unfolding by_value
  nought_is_border h k = ap₂ chosen (le_ltZ k) (le_leZ h)

  pub positive_is_inside : 𝟘 <ℤ s → by_value s ≡ Inside
  unfolding by_value
  positive_is_inside h = ap₂ chosen (lt_ltZ h) (le_leZ (less_is_at_most h))
