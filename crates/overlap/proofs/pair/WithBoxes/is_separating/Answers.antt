-- `overlap::pair::WithBoxes::is_separating` meets its contract.
use mathlib.Core.Path.{◌∙◌}
use Rattle.overlap.proofs.Pairs.{separates_by_ends}
use Rattle.overlap.proofs.pair.WithBoxes.is_separating.Goals as goal

pub returns : goal.returns
returns c = c.is_cut_off.ensures ∙ separates_by_ends c.ends.ensures _
