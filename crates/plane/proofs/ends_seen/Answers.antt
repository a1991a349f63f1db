-- `plane::ends_seen` meets its contract: each difference is at most 2^30, each product 2^60, and the dot product 2^61.
use mir.Syntax.{w64}
use Rattle.plane.specs.Cone.{minus, dot}
use Rattle.exact.proofs.Bounds.{fits, reads_back, plus}
use Rattle.plane.proofs.Differences.{apart, crossed}
use Rattle.plane.proofs.ends_seen.Goals as goal

pub overflow_sub-ux : goal.overflow_sub-ux
overflow_sub-ux c = let n = c.requires in
    fits w64 tt (apart n.near₀.x_near n.near₂.x_near)

pub overflow_sub-uy : goal.overflow_sub-uy
overflow_sub-uy c = let n = c.requires in
    fits w64 tt (apart n.near₀.y_near n.near₂.y_near)

pub overflow_sub-vx : goal.overflow_sub-vx
overflow_sub-vx c = let n = c.requires in
    fits w64 tt (apart n.near₁.x_near n.near₂.x_near)

pub overflow_sub-vy : goal.overflow_sub-vy
overflow_sub-vy c = let n = c.requires in
    fits w64 tt (apart n.near₁.y_near n.near₂.y_near)

pub overflow_mul-across : goal.overflow_mul-across
overflow_mul-across c = let n = c.requires in
    fits w64 tt (crossed n.near₀.x_near n.near₂.x_near n.near₁.x_near n.near₂.x_near)

pub overflow_mul-up : goal.overflow_mul-up
overflow_mul-up c = let n = c.requires in
    fits w64 tt (crossed n.near₀.y_near n.near₂.y_near n.near₁.y_near n.near₂.y_near)

pub overflow_add-result : goal.overflow_add-result
overflow_add-result c = let n = c.requires in
    fits w64 tt (plus (reads_back w64 tt (crossed n.near₀.x_near n.near₂.x_near n.near₁.x_near n.near₂.x_near)) (reads_back w64 tt (crossed n.near₀.y_near n.near₂.y_near n.near₁.y_near n.near₂.y_near)))

pub returns : goal.returns
unfolding dot minus
returns c = let n = c.requires in
    (reads_back w64 tt (plus (reads_back w64 tt (crossed n.near₀.x_near n.near₂.x_near n.near₁.x_near n.near₂.x_near)) (reads_back w64 tt (crossed n.near₀.y_near n.near₂.y_near n.near₁.y_near n.near₂.y_near)))).is
