-- `plane::is_within` meets its contract: on the side's line the dot product decides, and beside it no point is within.
use mathlib.Core.Path.{sym, ◌∙◌, ap}
use lib.IntN.{ℤ}
use lib.Signed.{lt_z}
use mir.Syntax.{w64}
use mir.Val.{to_z, of_z}
use borrow.Author.Tests.{ne_eqb}
use Rattle.exact.proofs.Order.{𝟘}
use Rattle.exact.proofs.Bounds.{handed}
use Rattle.plane.proofs.Within.{on_its_line, not_on_its_line}
use Rattle.plane.proofs.is_within.Goals as goal

pub returns-then-side_value-eq0 : goal.returns-then-side_value-eq0
returns-then-side_value-eq0 c =
    let nought = sym (handed w64 c.side_value.type_inv c.side_value.ensures) ∙ ap (to_z w64) c.if-side_value-eq0.true in
    ap (λ (z : ℤ). lt_z z 𝟘) (handed w64 c.ends_seen.type_inv c.ends_seen.ensures) ∙ sym (on_its_line _ _ _ nought)

pub returns-else-side_value-eq0 : goal.returns-else-side_value-eq0
returns-else-side_value-eq0 c =
    ne_eqb _ _ c.if-side_value-eq0.false ∙ sym (not_on_its_line _ _ _ (λ e. c.if-side_value-eq0.false (ap (of_z w64) (c.side_value.ensures ∙ e))))
