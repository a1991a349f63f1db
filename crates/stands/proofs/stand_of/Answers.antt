-- `stands::stand_of` meets its contract.
use mathlib.Core.Path.{ap, sym, ◌∙◌}
use Prim.Native.Nat.{ℕ}
use Rattle.stand.specs.declared.spot.Stand.TheVariants.{Offset}
use Rattle.stands.proofs.Tests.{refused, passed_first, passed_second}
use Rattle.stands.proofs.stand_of.Goals as goal

pub returns-in_default : goal.returns-in_default
returns-in_default c = let a = c.args in
    refused a.corner a.x a.y (sym c.whole_millimetres.ensures ∙ c.in_default.is)

pub returns-then-u : goal.returns-then-u
returns-then-u c = let a = c.args in
    passed_first a.corner a.x a.y (sym c.whole_millimetres.ensures ∙ c.in-Some.is)
    c.if-u.true

pub returns : goal.returns
returns c = let a = c.args in
    ap (λ (u : ℕ). Offset u a.x a.y) c.unwrap_or.ensures
    ∙ passed_second a.corner a.x a.y (sym c.whole_millimetres.ensures ∙ c.in-Some.is) c.try_from.result c.if-u.false c.try_from.ensures
