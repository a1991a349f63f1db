use mathlib.Core.Path.{refl, ◌∙◌}
use borrow.Author.Rules.{rules}
use lib.ListN.{get_or}
use lib.IntN.{pos}
use Rattle.records.specs.Bytes.{all_bytes}
use Rattle.records.proofs.Signs.{complement_told}
use Rattle.records.proofs.Spelled.{complement_there, complements_below}
use Rattle.records.proofs.Stores.{number_put}
use Rattle.records.proofs.list.put_corners.Goals as goal

pub loop-i-init : goal.loop-i-init
unfolding all_bytes
loop-i-init c = refl

pub loop-i-preserved : goal.loop-i-preserved
loop-i-preserved c =
    number_put 4 _ _ _ _ (complements_below c.args.corners.now _ c.loop-i-test.true) c.loop-i.invariant
    (complement_told (get_or c.args.corners.now c.loop-i.i (pos 0)) (search rules) c.cast_unsigned.ensures ∙ complement_there c.args.corners.now c.loop-i.i) c.put_four.ensures
