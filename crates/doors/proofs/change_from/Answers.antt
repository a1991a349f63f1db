-- `doors::change_from` meets its contract.
use mathlib.Core.Bool.{not}
use mathlib.Core.Path.{sym, ◌∙◌, ap}
use Prim.Native.Nat.{ℕ}
use native.Mathlib.Omega.{arith}
use Rattle.plane.specs.Side.{point}
use Rattle.cells.specs.Lists.{tabled}
use Rattle.cells.proofs.Plans.{counts}
use Rattle.stand.specs.Find.{located}
use Rattle.doors.proofs.SameFooting.{located_under_the_wished}
use Rattle.doors.proofs.Changes.{no_such_door, already_so, not_true, change_made}
use Rattle.doors.proofs.change_from.Goals as goal

pub returns-then-doors-door : goal.returns-then-doors-door
returns-then-doors-door c = no_such_door c.args.corners.now (tabled c.args.faces.now c.args.firsts.now) c.args.doors.now c.args.setting c.args.reach c.args.given.now c.args.door c.args.shut c.args.table.now (point c.args.q) c.args.p c.if-doors-door.true

pub is_in_wished_state-requires : goal.is_in_wished_state-requires
is_in_wished_state-requires c = let exists = c.if-doors-door.false in
    let few = (counts _ _ _ c.requires.sound.0.in_size).doors_at_most in
    omega arith

pub returns-then-is_in_wished_state : goal.returns-then-is_in_wished_state
returns-then-is_in_wished_state c = already_so c.args.corners.now (tabled c.args.faces.now c.args.firsts.now) c.args.doors.now c.args.setting c.args.reach c.args.given.now c.args.door c.args.shut c.args.table.now (point c.args.q) c.args.p c.if-doors-door.false (sym c.if-is_in_wished_state.true ∙ c.is_in_wished_state.ensures)

pub is_true_list-requires : goal.is_true_list-requires
is_true_list-requires c = record { sound = c.requires.sound; near = c.requires.near; reach_le_most_reach = c.requires.corners_in_bounds.1; lines_len = c.requires.lines_len }

pub returns-then-not-is_true_list : goal.returns-then-not-is_true_list
returns-then-not-is_true_list c = not_true c.args.corners.now (tabled c.args.faces.now c.args.firsts.now) c.args.doors.now c.args.setting c.args.reach c.args.given.now c.args.door c.args.shut c.args.table.now (point c.args.q) c.args.p c.if-doors-door.false (sym c.if-is_in_wished_state.false ∙ c.is_in_wished_state.ensures) c.is_true_list.ensures (ap not c.if-not-is_true_list.true)

pub wished-requires : goal.wished-requires
wished-requires c = let exists = c.if-doors-door.false in
    let few = (counts _ _ _ c.requires.sound.0.in_size).doors_at_most in
    omega arith

pub list_from-counts-requires : goal.list_from-counts-requires
list_from-counts-requires c = let a = c.args in
    let drawn = c.is_true_list.auto in
    let place = located_under_the_wished c.requires.sound.0 (point a.q) a.door c.if-doors-door.false a.setting a.shut c.requires.near.1 c.requires.p_value in
    record { sound = c.requires.sound; near = (c.requires.near.0, ap (λ (v : ℕ). located a.corners.now (tabled a.faces.now a.firsts.now) a.doors.now v (point a.q)) c.wished.ensures ∙ place); corners_in_bounds = c.requires.corners_in_bounds; lines_len = (drawn.lines ∙ c.requires.lines_len.0, drawn.seen ∙ c.requires.lines_len.1) }

pub returns : goal.returns
returns c = change_made c.args.corners.now (tabled c.args.faces.now c.args.firsts.now) c.args.doors.now c.args.setting c.args.reach c.args.given.now c.args.door c.args.shut c.args.table.now (point c.args.q) c.args.p c.if-doors-door.false (sym c.if-is_in_wished_state.false ∙ c.is_in_wished_state.ensures) c.is_true_list.ensures (ap not c.if-not-is_true_list.false) c.wished.ensures (c.list_from-counts.ensures.rows_value, (c.list_from-counts.ensures.crossings_value, c.list_from-counts.ensures.table_after))
