-- `stand::spot::stand_spot` meets its contract.
use mathlib.Core.Path.{sym, ◌∙◌, ap}
use Rattle.stand.specs.Spot.{stood}
use Rattle.stand.proofs.spot.stand_spot.Goals as goal

pub returns-in-Point : goal.returns-in-Point
unfolding stood
returns-in-Point c = c.whole_spot.ensures ∙ ap (stood c.args.corners.now) (sym c.in-Point.is)

pub returns-in-Offset : goal.returns-in-Offset
returns-in-Offset c = c.offset_spot.ensures ∙ ap (stood c.args.corners.now) (sym c.in-Offset.is)
