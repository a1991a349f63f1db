use mathlib.Core.Path.{◌≡◌, refl, sym, ap, ◌∙◌}
use native.Mathlib.Omega.{arith}
use lib.ListN.{length, length-map}
use mir.Syntax.{w32}
use Rattle.exact.proofs.Bounds.{handed}
use Rattle.records.specs.Bytes.{numbers_at, signed}
use Rattle.records.proofs.Signs.{signed_is}
use Rattle.records.proofs.Spelled.{length_numbers_at}
use Rattle.records.proofs.Stores.{corner_got, sets_all}
use Rattle.records.proofs.list.get_corners.Goals as goal

pub loop-i-init : goal.loop-i-init
unfolding numbers_at
loop-i-init c = refl

pub loop-i-preserved : goal.loop-i-preserved
loop-i-preserved c = corner_got 4 _ _ _ _ c.loop-i.invariant (handed w32 c.cast_signed.type_inv (c.cast_signed.ensures ∙ signed_is c.four.result ∙ ap signed c.four.ensures))

pub returns : goal.returns
returns c =
    let all : length c.args.corners.now ≡ c.loop-i.i = omega arith in
    rw all (c.loop-i.invariant ∙ sets_all _ _ (all ∙ sym (length-map _ signed ∙ length_numbers_at 4 _ _ _)))
