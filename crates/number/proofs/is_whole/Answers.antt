-- A double is whole exactly when it is itself without its fraction.
use Rattle.std.proofs.Common.{ap, ◌∙◌}
use lib.Ieee.{Float, eq}
use Rattle.number.proofs.Back.{decided_by_cutting}
use Rattle.number.proofs.is_whole.Goals as goal

pub returns : goal.returns
returns c = ap (λ (y : Float). eq y c.args.x) c.trunc.ensures ∙ decided_by_cutting c.args.x c.well_formed.0.1 c.requires
