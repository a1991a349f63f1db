-- Points and the side value (document 01, "Side value and plan check").
use Rattle.std.specs.Prelude.{List, [], ℕ, get_or, ℤ, pos, ◌-ℤ◌, ◌*ℤ◌}
use Rattle.exact.specs.Within.{Within}

-- a point, or the vector from one point to another, in whole millimetres
pub record Point : Type 0 where
  pub x : ℤ
  pub y : ℤ

-- positive when c is left of a→b, zero when on the line, negative when right
unfoldable pub side : Point → Point → Point → ℤ
side a b c = (b.x -ℤ a.x) *ℤ (c.y -ℤ a.y) -ℤ (b.y -ℤ a.y) *ℤ (c.x -ℤ a.x)

-- the point with these two coordinates, x then y
abbrev pub point : List ℤ → Point
point p = record { x = get_or p 0 (pos 0); y = get_or p 1 (pos 0) }

-- corner i of three corners, each with its two coordinates
abbrev pub corner : List (List ℤ) → ℕ → Point
corner c i = point (get_or c i [])

-- the side value of three corners in their order
abbrev pub side_of : List (List ℤ) → ℤ
side_of c = side (corner c 0) (corner c 1) (corner c 2)

-- coordinates go from −2^29 to 2^29
abbrev pub limit : ℕ
limit = 536870912

pub record Near (p : Point) : Type 0 where
  pub x_near : Within limit p.x
  pub y_near : Within limit p.y

pub record AllNear (c : List (List ℤ)) : Type 0 where
  pub near₀ : Near (corner c 0)
  pub near₁ : Near (corner c 1)
  pub near₂ : Near (corner c 2)
