-- The corners of a plan less the stand: how large the differences are.
use mathlib.Core.List.{List}
use mathlib.Core.Path.{◌≡◌, ap, sym, subst, ◌∙◌}
use Prim.Native.Nat.{ℕ, ◌<◌}
use lib.IntN.{ℤ}
use mir.Syntax.{w64}
use mir.Val.{to_z, of_z}
use Rattle.exact.specs.Within.{Within}
use Rattle.exact.proofs.Bounds as Bounds
use Rattle.exact.proofs.Bounds.{Exactly, itself, coordinate}
use Rattle.plane.specs.Side.{Point, point, Near}
use Rattle.plane.specs.Cone.{minus}
use Rattle.cells.specs.Lists.{corner_count, corner_at}
use Rattle.cells.specs.Sound.{CornersNear}

-- a difference of two coordinates is at most 2^30
seen_within : {cs : List ℤ} {q : Point} {i : ℕ} → CornersNear cs → Near q → i < corner_count cs → Within 1073741824 (minus (corner_at cs i) q).x × Within 1073741824 (minus (corner_at cs i) q).y
unfolding minus
seen_within {cs} {q} {i} corners near h =
    let p = corners.near i h in
    (record { size = (Bounds.minus (itself p.x_near) (itself near.x_near)).size }, record { size = (Bounds.minus (itself p.y_near) (itself near.y_near)).size })

-- and the code reads it as it is
pub seen_as_read : {cs : List ℤ} {q : Point} {i : ℕ} → CornersNear cs → Near q → i < corner_count cs → (r : List ℤ) → point r ≡ minus (corner_at cs i) q → Exactly (to_z w64 (of_z w64 (point r).x)) (minus (corner_at cs i) q).x 1073741824 × Exactly (to_z w64 (of_z w64 (point r).y)) (minus (corner_at cs i) q).y 1073741824
seen_as_read corners near h r e =
    let w = seen_within corners near h in (
      record { is = (coordinate w64 tt (subst (λ (p : Point). Within 1073741824 p.x) (sym e) w.0)).is ∙ ap (λ (p : Point). p.x) e; size = w.0.size },
      record { is = (coordinate w64 tt (subst (λ (p : Point). Within 1073741824 p.y) (sym e) w.1)).is ∙ ap (λ (p : Point). p.y) e; size = w.1.size },
    )
