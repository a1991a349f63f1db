-- Which point of a line decides whether the line is in reach: an end, or else the foot of the perpendicular.
use mathlib.Core.Path.{◌≡◌}
use Prim.Native.Nat.{ℕ}
use lib.IntN.{◌*ℤ◌}
use lib.Signed.{le_z, ◌<ℤ◌, ◌≤ℤ◌}
use Rattle.exact.proofs.Order.{le_leZ, lt_leZ}
use Rattle.plane.specs.Side.{Point}
use Rattle.plane.specs.Cone.{minus, cross, dot}
use Rattle.reach.specs.Reach.{squared, in_reach}

module _ (R : ℕ) (a b : Point) where
  pub the_first_end_decides : dot a a ≤ℤ dot a b → in_reach R a b ≡ le_z (dot a a) (squared R)
  unfolding in_reach
  the_first_end_decides h = rw (le_leZ h, in_reach)

  pub the_second_end_decides : dot a b <ℤ dot a a → dot b b ≤ℤ dot a b → in_reach R a b ≡ le_z (dot b b) (squared R)
  unfolding in_reach
  the_second_end_decides h k = rw (lt_leZ h, le_leZ k, in_reach)

  pub the_foot_decides : dot a b <ℤ dot a a → dot a b <ℤ dot b b → in_reach R a b ≡ le_z (cross a b *ℤ cross a b) (squared R *ℤ dot (minus b a) (minus b a))
  unfolding in_reach
  the_foot_decides h k = rw (lt_leZ h, lt_leZ k, in_reach)
