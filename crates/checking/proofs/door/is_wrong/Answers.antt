-- `checking::door::is_wrong` meets its contract.
use mathlib.Core.Path.{sym, ◌∙◌}
use native.Mathlib.Omega.{arith}
use borrow.Author.Tests.{eq-eqb, eqb-true, le-leb}
use Rattle.cells.proofs.Least.{not_both}
use Rattle.face.specs.Tables.{tables}
use Rattle.checking.proofs.Doors.{no_such_face, on_a_wall, by_earlier}
use Rattle.checking.proofs.door.is_wrong.Goals as goal
use Rattle.checking.proofs.door.is_wrong.Goals.{then-backs-f, else-backs-f}

pub returns-then-neighbour : goal.returns-then-neighbour
returns-then-neighbour c = c.if-neighbour.true
    ∙ (elim c.if-backs-f.branch [
      | then-backs-f w ↦ no_such_face (tables c.args.cells.now) c.args.doors.now c.args.i (omega (arith, c.requires.backed.whole, w.if-backs-f.true))
      | else-backs-f w ↦ on_a_wall (tables c.args.cells.now) c.args.doors.now c.args.i (omega (arith, c.requires.backed.whole, w.if-backs-f.false)) w.neighbour.ensures (eqb-true _ _ (sym w.value-is ∙ c.if-neighbour.true))
    ])

pub returns-else-neighbour : goal.returns-else-neighbour
returns-else-neighbour c =
    elim c.if-backs-f.branch [
      | then-backs-f w ↦ absurd (not_both (le-leb _ _ w.if-backs-f.true) (sym w.value-is ∙ c.if-neighbour.false))
      | else-backs-f w ↦ by_earlier (tables c.args.cells.now) c.args.doors.now c.args.i (omega (arith, c.requires.backed.whole, w.if-backs-f.false)) w.neighbour.ensures (λ e. not_both (eq-eqb _ _ e) (sym w.value-is ∙ c.if-neighbour.false)) c.requires.backed (omega arith) c.is_named.ensures
    ]
