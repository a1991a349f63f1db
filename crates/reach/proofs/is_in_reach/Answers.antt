-- `reach::is_in_reach` meets its contract: an end in reach is a point in reach, and else the nearest point decides.
use native.Mathlib.Nat.{mul-le-mul}
use native.Mathlib.Omega.{arith}
use mathlib.Core.Path.{ap₂, sym, ◌∙◌}
use lib.Dec.{leb}
use lib.Signed.{◌<ℤ◌}
use mir.Syntax.{w64}
use Rattle.exact.proofs.Order.{lt_leZ}
use Rattle.exact.proofs.Bounds.{Exactly, fits, minus}
use Rattle.plane.specs.Side.{corner}
use Rattle.plane.specs.Cone.{dot}
use Rattle.reach.proofs.Nearest.{the_first_end, the_second_end}
use Rattle.reach.proofs.Deciding.{the_first_end_decides, the_second_end_decides}
use Rattle.reach.proofs.Reaching.{in_reach_is_found, the_foot_decides_by_sizes}
use Rattle.reach.proofs.Sizes.{back, most_product, dot_handed, square_read, found_at_most, found_less, gap_size, gap_unsigned, gap_cast}
use Rattle.reach.proofs.is_in_reach.Goals as goal
use Rattle.reach.proofs.is_in_reach.Goals.{After-dot_of-both, After-dot_of-far_a, After-dot_of-far_b, Else-far_a-both, Else-far_b-both}

-- the three dot products, as the code has them
far_a : (c : After-dot_of-far_a) → let ends = c.args.ends in Exactly (back c.dot_of-far_a.result) (dot (corner ends 0) (corner ends 0)) most_product
far_a c =
    let seen = c.requires.0 in
    dot_handed _ _ seen.right seen.right c.dot_of-far_a.type_inv c.dot_of-far_a.ensures

far_b : (c : After-dot_of-far_b) → let ends = c.args.ends in Exactly (back c.dot_of-far_b.result) (dot (corner ends 1) (corner ends 1)) most_product
far_b c =
    let seen = c.requires.0 in
    dot_handed _ _ seen.left seen.left c.dot_of-far_b.type_inv c.dot_of-far_b.ensures

both : (c : After-dot_of-both) → let ends = c.args.ends in Exactly (back c.dot_of-both.result) (dot (corner ends 0) (corner ends 1)) most_product
both c =
    let seen = c.requires.0 in
    dot_handed _ _ seen.right seen.left c.dot_of-both.type_inv c.dot_of-both.ensures

-- from each end, if neither is nearest, the line comes nearer
nearer_from_a : (c : Else-far_a-both) → let ends = c.args.ends in
    Exactly (back c.dot_of-far_a.result) (dot (corner ends 0) (corner ends 0)) most_product →
    Exactly (back c.dot_of-both.result) (dot (corner ends 0) (corner ends 1)) most_product →
    dot (corner ends 0) (corner ends 1) <ℤ dot (corner ends 0) (corner ends 0)
nearer_from_a c a ab = found_less a ab c.if-far_a-both.false

nearer_from_b : (c : Else-far_b-both) → let ends = c.args.ends in
    Exactly (back c.dot_of-far_b.result) (dot (corner ends 1) (corner ends 1)) most_product →
    Exactly (back c.dot_of-both.result) (dot (corner ends 0) (corner ends 1)) most_product →
    dot (corner ends 0) (corner ends 1) <ℤ dot (corner ends 1) (corner ends 1)
nearer_from_b c b ab = found_less b ab c.if-far_b-both.false

pub overflow_mul-square : goal.overflow_mul-square
overflow_mul-square c = let h = c.requires.1 in
    record { fits = omega (arith, mul-le-mul h h) }

pub overflow_cast-near : goal.overflow_cast-near
overflow_cast-near c = let h = c.requires.1 in
    record { sfits = omega (arith, mul-le-mul h h) }

pub returns-then-far_a-near : goal.returns-then-far_a-near
returns-then-far_a-near c = sym (in_reach_is_found (the_first_end _ _ _ (found_at_most (far_a (goal.at.returns-then-far_a-near c).After-dot_of-far_a) (square_read c.args.reach c.requires.1) c.if-far_a-near.true)))

pub returns-then-far_b-near : goal.returns-then-far_b-near
returns-then-far_b-near c = sym (in_reach_is_found (the_second_end _ _ _ (found_at_most (far_b (goal.at.returns-then-far_b-near c).After-dot_of-far_b) (square_read c.args.reach c.requires.1) c.if-far_b-near.true)))

pub returns-then-far_a-both : goal.returns-then-far_a-both
returns-then-far_a-both c = let a = far_a (goal.at.returns-then-far_a-both c).After-dot_of-far_a in
    sym (the_first_end_decides _ _ _ (found_at_most a (both (goal.at.returns-then-far_a-both c).After-dot_of-both) c.if-far_a-both.true) ∙ lt_leZ (found_less a (square_read c.args.reach c.requires.1) c.if-far_a-near.false))

pub returns-then-far_b-both : goal.returns-then-far_b-both
returns-then-far_b-both c = let at = goal.at.returns-then-far_b-both c in
    let a = far_a at.After-dot_of-far_a in
    let b = far_b at.After-dot_of-far_b in
    let ab = both at.After-dot_of-both in
    sym (the_second_end_decides _ _ _ (nearer_from_a at.Else-far_a-both a ab) (found_at_most b ab c.if-far_b-both.true) ∙ lt_leZ (found_less b (square_read c.args.reach c.requires.1) c.if-far_b-near.false))

pub overflow_sub-length : goal.overflow_sub-length
overflow_sub-length c = let at = goal.at.overflow_sub-length c in
    fits w64 tt (minus (far_a at.After-dot_of-far_a) (both at.After-dot_of-both))

pub overflow_cast-length : goal.overflow_cast-length
overflow_cast-length c = let at = goal.at.overflow_cast-length c in
    let a = far_a at.After-dot_of-far_a in
    let ab = both at.After-dot_of-both in
    gap_unsigned a ab (nearer_from_a at.Else-far_a-both a ab)

pub overflow_sub-length-2 : goal.overflow_sub-length-2
overflow_sub-length-2 c = let at = goal.at.overflow_sub-length-2 c in
    fits w64 tt (minus (far_b at.After-dot_of-far_b) (both at.After-dot_of-both))

pub overflow_cast-length-2 : goal.overflow_cast-length-2
overflow_cast-length-2 c = let at = goal.at.overflow_cast-length-2 c in
    let b = far_b at.After-dot_of-far_b in
    let ab = both at.After-dot_of-both in
    gap_unsigned b ab (nearer_from_b at.Else-far_b-both b ab)

pub overflow_add-length : goal.overflow_add-length
overflow_add-length c = let at = goal.at.overflow_add-length c in
    let ab = both at.After-dot_of-both in
    record { fits = omega (arith, gap_size (far_a at.After-dot_of-far_a) ab, gap_size (far_b at.After-dot_of-far_b) ab) }

pub returns : goal.returns
returns c = let at = goal.at.returns c in
    let a = far_a at.After-dot_of-far_a in
    let b = far_b at.After-dot_of-far_b in
    let ab = both at.After-dot_of-both in
    let h = nearer_from_a at.Else-far_a-both a ab in
    let k = nearer_from_b at.Else-far_b-both b ab in
    c.is_at_most.ensures
    ∙ ap₂ leb c.product.ensures c.product-2.ensures
    ∙ the_foot_decides_by_sizes _ _ _ c.cross_size-size.ensures (gap_cast a ab h) (gap_cast b ab k) h k
