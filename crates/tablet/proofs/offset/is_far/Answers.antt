-- `tablet::offset::is_far` meets its contract.
use Rattle.std.proofs.Common.{rules}
use mathlib.Core.Bool.{not, ◌||◌}
use mathlib.Core.Path.{◌≡◌, ◌∙◌}
use mir.Syntax.{w64}
use mir.Val.{to_z, of_z}
use Rattle.plane.specs.Side.{point}
use Rattle.sight.proofs.Corners.{seen_as_read}
use Rattle.tablet.proofs.Fars.{outside, far_is_outside}
use Rattle.tablet.proofs.offset.is_far.Goals as goal

pub returns-then-not-contains : goal.returns-then-not-contains
returns-then-not-contains c =
    let d = point c.difference-d.result in
    let seen = seen_as_read c.requires.corners_near.0 c.requires.corners_near.1 c.requires.i_bound c.difference-d.result c.difference-d.ensures in
    let tests : not c.contains.result ≡ (outside (to_z w64 (of_z w64 d.x)) || outside (to_z w64 (of_z w64 d.y))) = search rules in
    tests ∙ far_is_outside _ seen.0.is seen.1.is

pub returns-else-not-contains : goal.returns-else-not-contains
returns-else-not-contains c =
    let d = point c.difference-d.result in
    let seen = seen_as_read c.requires.corners_near.0 c.requires.corners_near.1 c.requires.i_bound c.difference-d.result c.difference-d.ensures in
    let tests : not c.contains-else-not-contains.result ≡ (outside (to_z w64 (of_z w64 d.x)) || outside (to_z w64 (of_z w64 d.y))) = search rules in
    tests ∙ far_is_outside _ seen.0.is seen.1.is
