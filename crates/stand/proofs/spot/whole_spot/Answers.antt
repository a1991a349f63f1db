-- `stand::spot::whole_spot` meets its contract.
use mathlib.Core.Path.{sym, ◌∙◌}
use Rattle.stand.proofs.Spots.{first_refused, second_refused, both_whole}
use Rattle.stand.proofs.spot.whole_spot.Goals as goal

pub returns-in_err-u : goal.returns-in_err-u
returns-in_err-u c = c.from_residual.ensures ∙ first_refused c.args.x c.args.y (sym c.whole_millimetres.ensures ∙ c.in_err-u.was)

pub returns-in_err-v : goal.returns-in_err-v
returns-in_err-v c = c.from_residual-in_err-v.ensures ∙ second_refused c.args.x c.args.y (sym c.whole_millimetres.ensures ∙ c.in_ok-u.was) (sym c.whole_millimetres-2.ensures ∙ c.in_err-v.was)

pub returns : goal.returns
returns c = both_whole c.args.x c.args.y (sym c.whole_millimetres.ensures ∙ c.in_ok-u.was) (sym c.whole_millimetres-2.ensures ∙ c.in_ok-v.was)
