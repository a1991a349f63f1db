-- `boxes::around` meets its contract.
use Prim.Native.Nat.{◌*◌, ◌+◌}
use borrow.Author.Rules.{rules}
use lib.IntN.{pos}
use lib.ListN.{get_or}
use lib.Signed.{≤ℤ_refl}
use Rattle.boxes.proofs.Numbers.{Fits32, back_is_at_most, back_is_at_least}
use Rattle.boxes.proofs.around.Goals as goal

pub returns : goal.returns
returns c = let x : Fits32 (get_or c.args.corners.now (2 * c.args.i) (pos 0)) = search rules in
    let y : Fits32 (get_or c.args.corners.now (2 * c.args.i + 1) (pos 0)) = search rules in
    record {
      not_left = back_is_at_most x (≤ℤ_refl _);
      not_right = back_is_at_least x (≤ℤ_refl _);
      not_below = back_is_at_most y (≤ℤ_refl _);
      not_above = back_is_at_least y (≤ℤ_refl _);
    }
