-- `plane::side_value` meets its contract: each difference is at most 2^30, each product 2^60, and the side value 2^61.
use mir.Syntax.{w64}
use Rattle.plane.specs.Side.{side}
use Rattle.exact.proofs.Bounds.{fits, reads_back, minus}
use Rattle.plane.proofs.Differences.{apart, crossed}
use Rattle.plane.proofs.side_value.Goals as goal

pub overflow_sub-ux : goal.overflow_sub-ux
overflow_sub-ux c = let n = c.requires in
    fits w64 tt (apart n.near₁.x_near n.near₀.x_near)

pub overflow_sub-uy : goal.overflow_sub-uy
overflow_sub-uy c = let n = c.requires in
    fits w64 tt (apart n.near₁.y_near n.near₀.y_near)

pub overflow_sub-vx : goal.overflow_sub-vx
overflow_sub-vx c = let n = c.requires in
    fits w64 tt (apart n.near₂.x_near n.near₀.x_near)

pub overflow_sub-vy : goal.overflow_sub-vy
overflow_sub-vy c = let n = c.requires in
    fits w64 tt (apart n.near₂.y_near n.near₀.y_near)

pub overflow_mul-left : goal.overflow_mul-left
overflow_mul-left c = let n = c.requires in
    fits w64 tt (crossed n.near₁.x_near n.near₀.x_near n.near₂.y_near n.near₀.y_near)

pub overflow_mul-right : goal.overflow_mul-right
overflow_mul-right c = let n = c.requires in
    fits w64 tt (crossed n.near₁.y_near n.near₀.y_near n.near₂.x_near n.near₀.x_near)

pub overflow_sub-result : goal.overflow_sub-result
overflow_sub-result c = let n = c.requires in
    fits w64 tt (minus (reads_back w64 tt (crossed n.near₁.x_near n.near₀.x_near n.near₂.y_near n.near₀.y_near)) (reads_back w64 tt (crossed n.near₁.y_near n.near₀.y_near n.near₂.x_near n.near₀.x_near)))

pub returns : goal.returns
unfolding side
returns c = let n = c.requires in
    (reads_back w64 tt (minus (reads_back w64 tt (crossed n.near₁.x_near n.near₀.x_near n.near₂.y_near n.near₀.y_near)) (reads_back w64 tt (crossed n.near₁.y_near n.near₀.y_near n.near₂.x_near n.near₀.x_near)))).is
