-- Shapes, and points strictly inside them (document 02, A7). Whole numbers x, y and w, w positive, stand for the point (x/w, y/w), whole or fractional.
use Rattle.std.specs.Prelude.{◌≡◌, ℕ, suc, ◌<◌, ℤ, pos, ◌<ℤ◌, ◌≤ℤ◌}
use Rattle.plane.specs.Side.{Point, side}
use Rattle.plane.specs.Cone.{scaled}

-- so many sides; side i runs from one corner to another
pub record Shape : Type 0 where
  pub sides : ℕ
  pub start : ℕ → Point
  pub finish : ℕ → Point

-- (x/w, y/w) is strictly left of every side
pub record Inside (A : Shape) (x y w : ℤ) : Type 0 where
  pub left_of_each : (i : ℕ) → i < A.sides → pos 0 <ℤ side (scaled w (A.start i)) (scaled w (A.finish i)) (record { x = x; y = y })

-- no corner is right of a side, and some point is strictly inside
pub record Convex (A : Shape) : Type 0 where
  pub holds : (i k : ℕ) → i < A.sides → k < A.sides → pos 0 ≤ℤ side (A.start i) (A.finish i) (A.start k)
  pub x : ℤ
  pub y : ℤ
  pub w : ℤ
  pub positive : pos 0 <ℤ w
  pub inside : Inside A x y w

-- each side ends where the next one starts, and the last where the first one does
pub record Round (A : Shape) : Type 0 where
  pub goes_on : (i : ℕ) → i < A.sides → A.finish i ≡ A.start (suc i)
  pub comes_round : A.start A.sides ≡ A.start 0

-- some corner of B is strictly left of side i of A
pub record Reaches (A B : Shape) (i : ℕ) : Type 0 where
  pub k : ℕ
  pub exists : k < B.sides
  pub left : pos 0 <ℤ side (A.start i) (A.finish i) (B.start k)

-- some point is strictly inside both
pub record Common (A B : Shape) : Type 0 where
  pub x : ℤ
  pub y : ℤ
  pub w : ℤ
  pub positive : pos 0 <ℤ w
  pub in_one : Inside A x y w
  pub in_other : Inside B x y w
