-- `lines::beyond` meets its contract.
use mathlib.Core.List.{[]}
use mathlib.Core.Path.{◌≡◌, sym, ◌∙◌}
use Rattle.limits.specs.Limits.{wall}
use Rattle.cells.specs.Lists.{neighbour}
use Rattle.face.specs.Tables.{tables}
use Rattle.lines.proofs.Marks.{across_a_wall, across_without_doors}
use Rattle.lines.proofs.beyond.Goals as goal

pub returns-then-neighbour : goal.returns-then-neighbour
returns-then-neighbour c = sym (across_a_wall (tables c.args.cells.now) [] 0 c.args.f (sym c.neighbour.ensures ∙ c.if-neighbour.true))

pub returns-else-neighbour : goal.returns-else-neighbour
returns-else-neighbour c = let T = tables c.args.cells.now in
    let free : neighbour T c.args.f ≡ wall → ⊥ = λ e. c.if-neighbour.false (c.neighbour.ensures ∙ e) in
    c.requires.backed.stands c.args.f c.requires.f_bound free ∙ sym (across_without_doors T c.args.f free)
