-- `reach::cross_size` meets its contract: each product is at most 2^60, and the cross product 2^61.
use mathlib.Core.Path.{◌∙◌, ap}
use lib.IntN.{nat_abs}
use mir.Syntax.{w64}
use Rattle.exact.proofs.Bounds.{fits, reads_back}
use Rattle.reach.proofs.Sizes.{multiplied, cross_is}
use Rattle.reach.proofs.cross_size.Goals as goal

pub overflow_mul-a : goal.overflow_mul-a
overflow_mul-a c = let seen = c.requires in
    fits w64 tt (multiplied seen.right.x_apart seen.left.y_apart)

pub overflow_mul-a-2 : goal.overflow_mul-a-2
overflow_mul-a-2 c = let seen = c.requires in
    fits w64 tt (multiplied seen.right.y_apart seen.left.x_apart)

pub overflow_sub-a : goal.overflow_sub-a
overflow_sub-a c = let seen = c.requires in
    fits w64 tt (cross_is _ _ seen.right seen.left)

pub returns : goal.returns
returns c = let seen = c.requires in
    c.unsigned_abs.ensures.value ∙ ap nat_abs (reads_back w64 tt (cross_is _ _ seen.right seen.left)).is
