-- The corners of a plan seen from a stand, two numbers each.
use Rattle.std.specs.Prelude.{List, ◌≡◌, ℕ, ◌<◌, length, ℤ}
use Rattle.plane.specs.Side.{Point}
use Rattle.plane.specs.Cone.{minus}
use Rattle.cells.specs.Lists.{corner_count, corner_at}
use Rattle.expand.specs.Floor.{seen_at}

-- the first n corners are there, less the stand
pub record SeenSoFar (cs : List ℤ) (q : Point) (n : ℕ) (zs : List ℤ) : Type 0 where
  pub whole : length zs ≡ length cs
  pub stands : (i : ℕ) → i < n → seen_at zs i ≡ minus (corner_at cs i) q

abbrev pub SeenFrom : List ℤ → Point → List ℤ → Type 0
SeenFrom cs q zs = SeenSoFar cs q (corner_count cs) zs
