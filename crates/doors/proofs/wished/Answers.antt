-- `doors::wished` meets its contract.
use mathlib.Core.Bool.{Bool}
use mathlib.Core.Path.{sym, ap, ◌∙◌}
use Rattle.doors.specs.Change.{wished}
use Rattle.doors.proofs.wished.Goals as goal

pub returns-then-shut : goal.returns-then-shut
returns-then-shut c = c.shut.ensures ∙ ap (λ (b : Bool). wished b c.args.setting c.args.i) (sym c.if-shut.true)

pub returns : goal.returns
returns c = c.«open».ensures ∙ ap (λ (b : Bool). wished b c.args.setting c.args.i) (sym c.if-shut.false)
