-- `stand::locate::containment` meets its contract: after each side the least of the side values so far, and after the last the least of all.
use mathlib.Core.Path.{refl, ◌∙◌}
use Prim.Native.Nat.{◌+◌}
use native.Mathlib.Numerals.{add-one}
use native.Mathlib.Omega.{arith}
use mir.Syntax.{w64}
use Rattle.exact.proofs.Bounds.{handed}
use Rattle.plane.specs.Side.{point}
use Rattle.cells.proofs.Faces.{side_exists}
use Rattle.stand.proofs.Against.{least_decides}
use Rattle.stand.proofs.Sides.{one_more, after_the_last, ends_near, value_read, first_is_a_side, second_is_a_side, third_is_a_side, first_side, second_side, begins, still_a_side, further_side, at_the_end, last_side}
use Rattle.stand.proofs.locate.containment.Goals as goal

pub start-begin-requires-clause-f_bound : goal.start-begin-requires-clause-f_bound
start-begin-requires-clause-f_bound c = let N = c.args.cells.now.numbered in
    side_exists N c.requires.c_bound (first_is_a_side N c.requires.c_bound c.first-first.ensures)

pub overflow_add-first : goal.overflow_add-first
overflow_add-first c = let N = c.args.cells.now.numbered in
    omega (arith, side_exists N c.requires.c_bound (first_is_a_side N c.requires.c_bound c.first-first.ensures))

pub start-second-requires-clause-f_bound : goal.start-second-requires-clause-f_bound
start-second-requires-clause-f_bound c = let N = c.args.cells.now.numbered in
    side_exists N c.requires.c_bound (second_is_a_side N c.requires.c_bound c.first-first.ensures)

pub overflow_add-first-2 : goal.overflow_add-first-2
overflow_add-first-2 c = let N = c.args.cells.now.numbered in
    omega (arith, side_exists N c.requires.c_bound (first_is_a_side N c.requires.c_bound c.first-first.ensures))

pub start-from-requires-clause-f_bound : goal.start-from-requires-clause-f_bound
start-from-requires-clause-f_bound c = let N = c.args.cells.now.numbered in
    side_exists N c.requires.c_bound (third_is_a_side N c.requires.c_bound c.first-first.ensures)

pub side_value-one-requires : goal.side_value-one-requires
side_value-one-requires c = let N = c.args.cells.now.numbered in
    let h = c.requires.c_bound in
    ends_near (first_side N h c.first-first.ensures c.start-begin.result c.start-second.result c.start-begin.ensures c.start-second.ensures) N h c.requires.corners.0 c.requires.corners.1 c.requires.near

pub side_value-two-requires : goal.side_value-two-requires
side_value-two-requires c = let N = c.args.cells.now.numbered in
    let h = c.requires.c_bound in
    ends_near (second_side N h c.first-first.ensures c.start-second.result c.start-from.result c.start-second.ensures c.start-from.ensures) N h c.requires.corners.0 c.requires.corners.1 c.requires.near

pub overflow_step-n : goal.overflow_step-n
overflow_step-n c = let N = c.args.cells.now.numbered in
    omega (arith, side_exists N c.requires.c_bound (first_is_a_side N c.requires.c_bound c.first-first.ensures))

pub loop-n-init : goal.loop-n-init
loop-n-init c = let N = c.args.cells.now.numbered in
    let h = c.requires.c_bound in
    let is_a = c.first-first.ensures in
    let one = first_side N h is_a c.start-begin.result c.start-second.result c.start-begin.ensures c.start-second.ensures in
    let two = second_side N h is_a c.start-second.result c.start-from.result c.start-second.ensures c.start-from.ensures in
    let u = c.side_value-one in
    let v = c.side_value-two in
    record {
      side = c.first-first.result + 2;
      is_after = omega arith;
      here = third_is_a_side N h is_a;
      from_there = c.start-from.ensures;
      so_far =
          one_more (begins N h is_a (value_read one (point c.args.q) u.type_inv u.ensures)) (second_is_a_side N h is_a) (omega arith)
          (value_read two (point c.args.q) v.type_inv v.ensures) (handed w64 c.min-least.type_inv refl) c.min-least.ensures.value;
    }

pub start-to-requires-clause-f_bound : goal.start-to-requires-clause-f_bound
start-to-requires-clause-f_bound c = let N = c.args.cells.now.numbered in
    side_exists N c.requires.c_bound (still_a_side N c.requires.c_bound c.loop-n.invariant c.end-n-end.ensures c.loop-n-test.true)

pub side_value-value-requires : goal.side_value-value-requires
side_value-value-requires c = let N = c.args.cells.now.numbered in
    let h = c.requires.c_bound in
    ends_near (further_side N h c.loop-n.invariant c.end-n-end.ensures c.start-to.result c.loop-n-test.true c.start-to.ensures) N h c.requires.corners.0 c.requires.corners.1 c.requires.near

pub loop-n-preserved : goal.loop-n-preserved
loop-n-preserved c = let N = c.args.cells.now.numbered in
    let h = c.requires.c_bound in
    let p = c.loop-n.invariant in
    let v = c.side_value-value in
    let side = further_side N h p c.end-n-end.ensures c.start-to.result c.loop-n-test.true c.start-to.ensures in
    record {
      side = c.loop-n.n;
      is_after = add-one _;
      here = still_a_side N h p c.end-n-end.ensures c.loop-n-test.true;
      from_there = c.start-to.ensures;
      so_far =
          one_more p.so_far p.here p.is_after (value_read side (point c.args.q) v.type_inv v.ensures)
          (handed w64 c.min-least-in-loop-n.type_inv refl) c.min-least-in-loop-n.ensures.value;
    }

pub side_value-value-requires-2 : goal.side_value-value-requires-2
side_value-value-requires-2 c = let N = c.args.cells.now.numbered in
    let h = c.requires.c_bound in
    ends_near (last_side N h c.loop-n.invariant c.end-n-end.ensures c.start-begin.result c.first-first.ensures c.loop-n-test.false c.start-begin.ensures) N h c.requires.corners.0 c.requires.corners.1 c.requires.near

pub returns : goal.returns
returns c = let N = c.args.cells.now.numbered in
    let h = c.requires.c_bound in
    let p = c.loop-n.invariant in
    let v = c.side_value-value-2 in
    let side = last_side N h p c.end-n-end.ensures c.start-begin.result c.first-first.ensures c.loop-n-test.false c.start-begin.ensures in
    c.placed.ensures
    ∙ least_decides c.args.corners.now N (point c.args.q) h
    (after_the_last
    (one_more p.so_far p.here p.is_after (value_read side (point c.args.q) v.type_inv v.ensures) (handed w64 c.min.type_inv refl) c.min.ensures.value)
    (at_the_end N h p c.end-n-end.ensures c.loop-n-test.false))
