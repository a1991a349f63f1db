-- Vectors, cones and rays, seen from the stand (document 01, "Expansion" and "Walk"). A vector is a corner less the stand, or a direction.
use Rattle.std.specs.Prelude.{◌≡◌, ℤ, pos, ◌+ℤ◌, ◌-ℤ◌, ◌*ℤ◌, ◌<ℤ◌, ◌≤ℤ◌}
use Rattle.plane.specs.Side.{Point}

-- from q to c
unfoldable pub minus : Point → Point → Point
minus c q = record { x = c.x -ℤ q.x; y = c.y -ℤ q.y }

unfoldable pub plus : Point → Point → Point
plus u v = record { x = u.x +ℤ v.x; y = u.y +ℤ v.y }

-- w times p
unfoldable pub scaled : ℤ → Point → Point
scaled w p = record { x = w *ℤ p.x; y = w *ℤ p.y }

-- the two-dimensional cross product: positive when v is left of u
unfoldable pub cross : Point → Point → ℤ
cross u v = u.x *ℤ v.y -ℤ u.y *ℤ v.x

unfoldable pub dot : Point → Point → ℤ
dot u v = u.x *ℤ v.x +ℤ u.y *ℤ v.y

-- the cone with right limit r and left limit l holds d: d is strictly between them
pub record Holds (r l d : Point) : Type 0 where
  pub right : pos 0 <ℤ cross r d
  pub left : pos 0 <ℤ cross d l

-- the corner v is strictly between the limits r and l
pub record Between (r l v : Point) : Type 0 where
  pub past_right : pos 0 <ℤ cross r v
  pub short_of_left : pos 0 <ℤ cross v l

-- the ray of direction d, the stand's own point not counted, meets the corner c
pub record Meets (d c : Point) : Type 0 where
  pub along : cross d c ≡ pos 0
  pub ahead : pos 0 <ℤ dot d c

-- a direction is not both zero
pub record Direction (d : Point) : Type 0 where
  pub not_both_zero : d.x ≡ pos 0 → d.y ≡ pos 0 → ⊥

-- u lies in the closed cone from a to b
pub record Spanned (a b u : Point) : Type 0 where
  pub not_before : pos 0 ≤ℤ cross a u
  pub not_after : pos 0 ≤ℤ cross u b

-- the line from its right end a to its left end b is seen, and the limits lie on it in their order: a ≤ r < l ≤ b
pub record Cone (a b r l : Point) : Type 0 where
  pub seen : pos 0 <ℤ cross a b
  pub right_from_a : pos 0 ≤ℤ cross a r
  pub right_to_b : pos 0 <ℤ cross r b
  pub right_to_left : pos 0 <ℤ cross r l
  pub left_from_a : pos 0 <ℤ cross a l
  pub left_to_b : pos 0 ≤ℤ cross l b

-- the apex v lies strictly beyond the line from a to b: the side value of b, a, v is positive
pub record Beyond (a b v : Point) : Type 0 where
  pub beyond : pos 0 <ℤ (cross b a +ℤ cross a v +ℤ cross v b)

-- the ray d crosses the line from a to b at the time (a×b) / (a×d + d×b): before the line from a' to b', cross-multiplied
pub record Earlier (d a b a' b' : Point) : Type 0 where
  pub earlier : (cross a b *ℤ (cross a' d +ℤ cross d b')) <ℤ (cross a' b' *ℤ (cross a d +ℤ cross d b))

-- a and b lie in opposite directions: the stand is strictly within the line from one to the other
pub record Opposite (a b : Point) : Type 0 where
  pub along : cross a b ≡ pos 0
  pub apart : dot a b <ℤ pos 0
