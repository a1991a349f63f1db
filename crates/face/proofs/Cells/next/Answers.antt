-- `Cells::next` meets its contract.
use mathlib.Core.Path.{sym, ◌∙◌}
use native.Mathlib.Omega.{arith}
use Rattle.face.proofs.Tables.{comes_round, goes_on, read_next}
use Rattle.face.proofs.Cells.next.Goals as goal

pub overflow_add-f : goal.overflow_add-f
overflow_add-f c = omega (arith, c.end.ensures, c.requires.f_bound)

pub returns-then-end-f-clause-value : goal.returns-then-end-f-clause-value
returns-then-end-f-clause-value c = c.first.ensures ∙ sym (comes_round _ _ _ (sym c.if-end-f.true ∙ c.end.ensures))

pub returns-then-end-f-clause-of_a_side : goal.returns-then-end-f-clause-of_a_side
returns-then-end-f-clause-of_a_side c s = read_next c.args.self.now.numbered c.requires.c_bound s (returns-then-end-f-clause-value c)

pub returns-else-end-f-clause-value : goal.returns-else-end-f-clause-value
returns-else-end-f-clause-value c = sym (goes_on _ _ _ (λ e. c.if-end-f.false (c.end.ensures ∙ sym e)))

pub returns-else-end-f-clause-of_a_side : goal.returns-else-end-f-clause-of_a_side
returns-else-end-f-clause-of_a_side c s = read_next c.args.self.now.numbered c.requires.c_bound s (returns-else-end-f-clause-value c)
