-- Two cells overlap (document 02, A7). Whole numbers x, y and w, w positive, stand for the point (x/w, y/w), whole or fractional.
use Rattle.std.specs.Prelude.{List, ◌≡◌, ℕ, suc, ◌<◌, ◌≤◌, ℤ, pos, ◌<ℤ◌}
use Rattle.plane.specs.Side.{side}
use Rattle.plane.specs.Cone.{scaled}
use Rattle.cells.specs.Lists.{Cells, corner_at, cell_count, first, next, start}

-- (x/w, y/w) lies strictly inside cell c: it is strictly left of every side
pub record StrictlyIn (cs : List ℤ) (T : Cells) (c : ℕ) (x y w : ℤ) : Type 0 where
  pub exists : c < cell_count T
  pub left_of_each : (f : ℕ) → first T c ≤ f → f < first T (suc c) → pos 0 <ℤ side (scaled w (corner_at cs (start T f))) (scaled w (corner_at cs (start T (next T f)))) (record { x = x; y = y })

-- some point lies strictly inside both of two different cells
pub record Overlap (cs : List ℤ) (T : Cells) (c e : ℕ) : Type 0 where
  pub different : c ≡ e → ⊥
  pub x : ℤ
  pub y : ℤ
  pub w : ℤ
  pub positive : pos 0 <ℤ w
  pub in_one : StrictlyIn cs T c x y w
  pub in_other : StrictlyIn cs T e x y w
