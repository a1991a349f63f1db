-- `reach::dot_of` meets its contract: each product is at most 2^60, and the dot product 2^61.
use mir.Syntax.{w64}
use Rattle.exact.proofs.Bounds.{fits, reads_back}
use Rattle.reach.proofs.Sizes.{multiplied, dot_is}
use Rattle.reach.proofs.dot_of.Goals as goal

pub overflow_mul-result : goal.overflow_mul-result
overflow_mul-result c = let seen = c.requires in
    fits w64 tt (multiplied seen.right.x_apart seen.left.x_apart)

pub overflow_mul-result-2 : goal.overflow_mul-result-2
overflow_mul-result-2 c = let seen = c.requires in
    fits w64 tt (multiplied seen.right.y_apart seen.left.y_apart)

pub overflow_add-result : goal.overflow_add-result
overflow_add-result c = let seen = c.requires in
    fits w64 tt (dot_is _ _ seen.right seen.left)

pub returns : goal.returns
returns c = let seen = c.requires in
    (reads_back w64 tt (dot_is _ _ seen.right seen.left)).is
