-- `sight::seen::difference` meets its contract: a difference of two coordinates is at most 2^30.
use mathlib.Core.List.{[], ◌∷◌}
use mathlib.Core.Path.{ap, ap₂, subst, sym, ◌∙◌}
use lib.IntN.{ℤ}
use mir.Syntax.{w64}
use Rattle.exact.proofs.Bounds.{reads_back, minus, coordinate}
use Rattle.plane.specs.Side.{Point, point, Near}
use Rattle.plane.specs.Cone as Cone
use Rattle.sight.proofs.seen.difference.Goals as goal

pub returns : goal.returns
unfolding Cone.minus
returns c = let corner = subst Near (sym c.at-p.ensures) (c.requires.corners_near.0.near _ c.requires.i_bound) in
    let stand = c.requires.corners_near.1 in
    ap₂ (λ (x y : ℤ). point (x ∷ y ∷ []))
    (reads_back w64 tt (minus (coordinate w64 tt corner.x_near) (coordinate w64 tt stand.x_near))).is
    (reads_back w64 tt (minus (coordinate w64 tt corner.y_near) (coordinate w64 tt stand.y_near))).is
    ∙ ap (λ (p : Point). Cone.minus p (point c.args.q)) c.at-p.ensures
