-- `lines::shut_doors` meets its contract.
use mathlib.Core.Path.{sym, ◌∙◌, subst}
use Prim.Native.Nat.{◌+◌}
use native.Mathlib.Omega.{arith}
use Rattle.cells.proofs.Plans.{counts, back_exists, door_exists, door_is_free}
use Rattle.face.specs.Tables.{tables}
use Rattle.lines.proofs.Marks.{Marked, marks_begin, marks_end, past_an_open_door, past_a_shut_door}
use Rattle.lines.proofs.shut_doors.Goals.{then-is_shut, else-is_shut}
use Rattle.lines.proofs.shut_doors.Goals as goal

pub loop-i-init : goal.loop-i-init
loop-i-init c = marks_begin _ _ c.requires.lined

pub is_shut-requires : goal.is_shut-requires
is_shut-requires c = omega (arith, (counts _ _ _ c.requires.sound_cells.sound.in_size).doors_at_most)

pub shut-requires : goal.shut-requires
shut-requires c = let sound = c.requires.sound_cells.sound in
    let exists = door_exists sound _ c.loop-i-test.true in
    let free = door_is_free sound _ c.loop-i-test.true in
    record { backed = c.requires.backed; f_bound = exists; no_wall = free; back_bound = back_exists sound _ exists free; lines_len = c.loop-i.invariant.whole }

pub loop-i-preserved : goal.loop-i-preserved
loop-i-preserved c = let marked = c.loop-i.invariant in
    let passed = Marked (tables c.args.cells.now) c.args.doors.now c.args.setting (c.loop-i.i + 1) in
    elim c.if-is_shut.branch [
      | then-is_shut w ↦ subst passed (sym (w.lines-is ∙ w.shut.ensures)) (past_a_shut_door c.args.setting c.loop-i.i c.requires.sound_cells.sound c.loop-i-test.true marked (sym c.is_shut.ensures ∙ w.if-is_shut.true))
      | else-is_shut w ↦ subst passed (sym w.lines-is) (past_an_open_door c.args.doors.now c.args.setting c.loop-i.i marked (sym c.is_shut.ensures ∙ w.if-is_shut.false))
    ]

pub returns : goal.returns
returns c = marks_end _ _ _ c.loop-i.invariant (omega arith)
