-- `setting::is_free` meets its contract.
use mathlib.Core.Bool.{not}
use mathlib.Core.Path.{◌≡◌, ap, sym, ◌∙◌}
use borrow.Author.Tests.{eq-eqb}
use Rattle.limits.specs.Limits.{wall}
use Rattle.cells.specs.Lists.{tabled, neighbour}
use Rattle.setting.proofs.Settings.{sight_ends_at_a_wall, the_doors_decide}
use Rattle.setting.proofs.is_free.Goals as goal

pub returns-then-faces-f : goal.returns-then-faces-f
unfolding neighbour
returns-then-faces-f c = let a = c.args in
    let free : neighbour (tabled a.faces.now a.firsts.now) a.f ≡ wall → ⊥ = c.if-faces-f.true in
    the_doors_decide _ a.doors.now a.setting a.f free (c.requires.backed.stands a.f c.requires.f_bound free) c.is_barred.ensures

pub returns-else-faces-f : goal.returns-else-faces-f
unfolding neighbour
returns-else-faces-f c = ap not (eq-eqb _ _ c.if-faces-f.false ∙ sym (sight_ends_at_a_wall (tabled c.args.faces.now c.args.firsts.now) c.args.doors.now c.args.setting c.args.f c.if-faces-f.false))
