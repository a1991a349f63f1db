-- The reach (document 02, A5). A line's two ends a and b are seen from the stand: each is a corner less the stand.
use Rattle.std.specs.Prelude.{Bool, true, false, not, ◌&&◌, List, ℕ, zero, suc, ◌≤◌, leb, ℤ, pos, ◌*ℤ◌, ◌<ℤ◌, ◌≤ℤ◌, None, Option, Some}
use Rattle.std.specs.Int.Signed.{le_z}
use Rattle.exact.specs.Within.{Within}
use Rattle.plane.specs.Side.{Point, corner}
use Rattle.plane.specs.Cone.{minus, plus, scaled, cross, dot}
use Rattle.limits.specs.Limits.{least_reach, most_reach}

-- ---- in reach

-- n times the point that is m/n of the way from a to b
unfoldable pub on_the_way : ℤ → ℤ → Point → Point → Point
on_the_way n m a b = plus (scaled n a) (scaled m (minus b a))

-- the square of a length in millimetres
abbrev pub squared : ℕ → ℤ
squared R = pos R *ℤ pos R

-- some point of the whole line, whole or fractional, is at most R millimetres from the stand
pub record InReach (R : ℕ) (a b : Point) : Type 0 where
  pub n : ℤ
  pub m : ℤ
  pub positive : pos 0 <ℤ n
  pub not_before_a : pos 0 ≤ℤ m
  pub not_after_b : m ≤ℤ n
  pub near : dot (on_the_way n m a b) (on_the_way n m a b) ≤ℤ (squared R *ℤ (n *ℤ n))

-- the same by the nearest point: the end a or the end b, where the line goes away from the stand there; else the foot of the perpendicular
unfoldable pub in_reach : ℕ → Point → Point → Bool
in_reach R a b =
    elim (le_z (dot a a) (dot a b)) [
      | true ↦ le_z (dot a a) (squared R)
      | false ↦
          elim (le_z (dot b b) (dot a b)) [
            | true ↦ le_z (dot b b) (squared R)
            | false ↦ le_z (cross a b *ℤ cross a b) (squared R *ℤ dot (minus b a) (minus b a))
          ]
    ]

-- within a range of R millimetres, which 0 leaves unlimited: no point of the line
unfoldable pub out_of_reach : ℕ → Point → Point → Bool
out_of_reach zero a b = false
out_of_reach (suc r) a b = not (in_reach (suc r) a b)

-- some point of the line
abbrev pub Reaches : ℕ → Point → Point → Type 0
Reaches zero a b = Unit {0}
Reaches (suc r) a b = InReach (suc r) a b

-- a row's fourth number: 0 in reach, 1 out of reach
unfoldable pub far : ℕ → Point → Point → ℕ
far R a b = elim (out_of_reach R a b) [ true ↦ 1 | false ↦ 0 ]

-- the second range is at least as long
pub data Longer : ℕ → ℕ → Type 0 where
  unlimited : {R : ℕ} → Longer R zero
  at_least : {r r' : ℕ} → r ≤ r' → Longer (suc r) (suc r')

-- ---- what is stated

-- how far is seen, in millimetres: 0 is unlimited, and so is a reach that is not stated
abbrev pub range : Option ℕ → ℕ
range None = 0
range (Some n) = n

-- a number is stated that is not 1 to 262,144
unfoldable pub wrong_reach : Option ℕ → Bool
wrong_reach None = false
wrong_reach (Some n) = not (leb least_reach n && leb n most_reach)

-- ---- what the code is given

-- the coordinates of two corners less the stand: twice the coordinate limit
abbrev pub most_apart : ℕ
most_apart = 1073741824

pub record Apart (p : Point) : Type 0 where
  pub x_apart : Within most_apart p.x
  pub y_apart : Within most_apart p.y

-- a line's two ends, seen from the stand
pub record EndsSeen (ends : List (List ℤ)) : Type 0 where
  pub right : Apart (corner ends 0)
  pub left : Apart (corner ends 1)
