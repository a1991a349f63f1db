-- `stand::spot::offset_spot` meets its contract.
use mathlib.Core.List.{List}
use mathlib.Core.Path.{◌≡◌, sym, ◌∙◌, ap, subst}
use Prim.Native.Nat.{ℕ, ◌<◌}
use native.Mathlib.Omega.{arith}
use lib.Ieee.{Float}
use lib.IntN.{ℤ, pos, ◌+ℤ◌}
use lib.ListN.{get_or}
use mir.Syntax.{w64}
use mir.Val.{to_z, of_z}
use Rattle.exact.specs.Within.{Within}
use Rattle.exact.proofs.Bounds.{Exactly, plus, coordinate, reads_back, fits}
use Rattle.plane.specs.Side.{Point, point, limit}
use Rattle.cells.specs.Lists.{corner_count, corner_at}
use Rattle.cells.specs.Sound.{CornersNear}
use Rattle.stand.specs.Spot.{whole_point, within_limits, stood}
use Rattle.stand.specs.declared.spot.Stand.TheVariants.{Offset}
use Rattle.stand.proofs.Spots.{no_such_corner, offset_refused, offset_stands, point_is_near}
use Rattle.stand.proofs.spot.offset_spot.Goals as goal
use Rattle.std.specs.Prelude.{Option, Some}

pub returns-then-corners-i : goal.returns-then-corners-i
returns-then-corners-i c = no_such_corner c.args.corners.now c.args.i c.args.dx c.args.dy (omega arith)

-- a corner's coordinate and an accepted offset, and their sum as the code has it
module _ (cs : List ℤ) (i : ℕ) (p : List ℤ) (x y : Float) {u v : ℤ} (h : i < corner_count cs) (near : CornersNear cs) (is_p : point p ≡ corner_at cs i) (whole : whole_point x y ≡ Some (u, v)) where
  sum_x : Exactly (to_z w64 (of_z w64 (get_or p 0 (pos 0))) +ℤ to_z w64 (of_z w64 u)) (get_or p 0 (pos 0) +ℤ u) 1073741824
  sum_x =
      plus (coordinate w64 tt (subst (λ (q : Point). Within limit q.x) (sym is_p) (near.near i h).x_near))
      (coordinate w64 tt (point_is_near x y whole).x_near)

  sum_y : Exactly (to_z w64 (of_z w64 (get_or p 1 (pos 0))) +ℤ to_z w64 (of_z w64 v)) (get_or p 1 (pos 0) +ℤ v) 1073741824
  sum_y =
      plus (coordinate w64 tt (subst (λ (q : Point). Within limit q.y) (sym is_p) (near.near i h).y_near))
      (coordinate w64 tt (point_is_near x y whole).y_near)

  stands : {r : Option (ℤ × ℤ)} → r ≡ within_limits (to_z w64 (of_z w64 (to_z w64 (of_z w64 (get_or p 0 (pos 0))) +ℤ to_z w64 (of_z w64 u)))) (to_z w64 (of_z w64 (to_z w64 (of_z w64 (get_or p 1 (pos 0))) +ℤ to_z w64 (of_z w64 v)))) → r ≡ stood cs (Offset i x y)
  stands e =
      e
      ∙ offset_stands cs i x y h whole
      ((reads_back w64 tt sum_x).is ∙ ap (λ (q : Point). q.x +ℤ u) is_p)
      ((reads_back w64 tt sum_y).is ∙ ap (λ (q : Point). q.y +ℤ v) is_p)

pub returns-in_err-u : goal.returns-in_err-u
returns-in_err-u c = c.from_residual.ensures ∙ offset_refused c.args.corners.now c.args.i c.args.dx c.args.dy (omega arith) (sym c.whole_spot.ensures ∙ c.in_err-u.was)

pub overflow_add-x : goal.overflow_add-x
overflow_add-x c = fits w64 tt (sum_x c.args.corners.now c.args.i c.at-from.result c.args.dx c.args.dy c.if-corners-i.false c.requires c.at-from.ensures (sym c.whole_spot.ensures ∙ c.in_ok-u.was))

pub overflow_add-y : goal.overflow_add-y
overflow_add-y c = fits w64 tt (sum_y c.args.corners.now c.args.i c.at-from.result c.args.dx c.args.dy c.if-corners-i.false c.requires c.at-from.ensures (sym c.whole_spot.ensures ∙ c.in_ok-u.was))

pub returns : goal.returns
returns c = stands c.args.corners.now c.args.i c.at-from.result c.args.dx c.args.dy c.if-corners-i.false c.requires c.at-from.ensures (sym c.whole_spot.ensures ∙ c.in_ok-u.was) c.bounded.ensures
