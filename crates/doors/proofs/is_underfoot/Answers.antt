-- `doors::is_underfoot` meets its contract.
use mathlib.Core.Path.{sym, subst}
use Prim.Native.Nat.{ℕ, ◌*◌, ◌<◌}
use native.Mathlib.Omega.{arith}
use lib.ListN.{get_or}
use Rattle.plane.specs.Side.{point}
use Rattle.cells.specs.Lists.{tabled, corner_count}
use Rattle.cells.proofs.Plans.{door_is_free}
use Rattle.doors.proofs.Underfoot.{not_from_inside, no_door_is_none_underfoot, face_exists, other_exists, starts_at_a_corner, line_is_near, underfoot_read}
use Rattle.doors.proofs.is_underfoot.Goals as goal

pub returns-then-doors-door : goal.returns-then-doors-door
returns-then-doors-door c = let a = c.args in
    no_door_is_none_underfoot a.corners.now (tabled a.faces.now a.firsts.now) a.doors.now a.door (point a.q) c.in-Side.is c.if-doors-door.true

pub bounds-doors-door : goal.bounds-doors-door
bounds-doors-door c = c.if-doors-door.false

pub offset_bounds-backs-f : goal.offset_bounds-backs-f
offset_bounds-backs-f c = omega (arith, face_exists c.requires.sound.0 c.if-doors-door.false, c.requires.sound.1.whole)

pub bounds-backs-f : goal.bounds-backs-f
bounds-backs-f c = omega (arith, face_exists c.requires.sound.0 c.if-doors-door.false, c.requires.sound.1.whole)

pub overflow_mul-f : goal.overflow_mul-f
overflow_mul-f c = omega (arith, face_exists c.requires.sound.0 c.if-doors-door.false)

pub offset_bounds-faces-f : goal.offset_bounds-faces-f
offset_bounds-faces-f c = omega (arith, face_exists c.requires.sound.0 c.if-doors-door.false)

pub bounds-faces-f : goal.bounds-faces-f
bounds-faces-f c = omega (arith, face_exists c.requires.sound.0 c.if-doors-door.false)

pub at-right-requires : goal.at-right-requires
at-right-requires c = starts_at_a_corner c.requires.sound.0 c.if-doors-door.false (face_exists c.requires.sound.0 c.if-doors-door.false)

pub overflow_mul-g : goal.overflow_mul-g
overflow_mul-g c = omega (arith, other_exists c.requires.sound.0 c.if-doors-door.false, c.requires.sound.1.stands _ (face_exists c.requires.sound.0 c.if-doors-door.false) (door_is_free c.requires.sound.0 _ c.if-doors-door.false))

pub offset_bounds-faces-g : goal.offset_bounds-faces-g
offset_bounds-faces-g c = omega (arith, other_exists c.requires.sound.0 c.if-doors-door.false, c.requires.sound.1.stands _ (face_exists c.requires.sound.0 c.if-doors-door.false) (door_is_free c.requires.sound.0 _ c.if-doors-door.false))

pub bounds-faces-g : goal.bounds-faces-g
bounds-faces-g c = omega (arith, other_exists c.requires.sound.0 c.if-doors-door.false, c.requires.sound.1.stands _ (face_exists c.requires.sound.0 c.if-doors-door.false) (door_is_free c.requires.sound.0 _ c.if-doors-door.false))

pub at-left-requires : goal.at-left-requires
at-left-requires c = subst (λ (g : ℕ). get_or c.args.faces.now (2 * g) 0 < corner_count c.args.corners.now) (sym (c.requires.sound.1.stands _ (face_exists c.requires.sound.0 c.if-doors-door.false) (door_is_free c.requires.sound.0 _ c.if-doors-door.false))) (starts_at_a_corner c.requires.sound.0 c.if-doors-door.false (other_exists c.requires.sound.0 c.if-doors-door.false))

pub is_within-requires : goal.is_within-requires
is_within-requires c = line_is_near c.requires.sound.0 c.if-doors-door.false (c.requires.sound.1.stands _ (face_exists c.requires.sound.0 c.if-doors-door.false) (door_is_free c.requires.sound.0 _ c.if-doors-door.false)) c.at-right.result c.at-left.result c.at-right.ensures c.at-left.ensures c.requires.near

pub returns-in-Inside : goal.returns-in-Inside
returns-in-Inside c = let a = c.args in
    not_from_inside a.corners.now (tabled a.faces.now a.firsts.now) a.doors.now a.door (point a.q) c.in-Inside.is

pub returns-else-doors-door : goal.returns-else-doors-door
returns-else-doors-door c = underfoot_read c.requires.sound.0 c.if-doors-door.false (c.requires.sound.1.stands _ (face_exists c.requires.sound.0 c.if-doors-door.false) (door_is_free c.requires.sound.0 _ c.if-doors-door.false)) c.at-right.result c.at-left.result c.at-right.ensures c.at-left.ensures (point c.args.q) c.in-Side.is c.is_within.ensures
