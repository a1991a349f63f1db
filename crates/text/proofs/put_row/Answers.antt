use native.Mathlib.Omega.{arith}
use Rattle.text.specs.Text.{row_line}
use Rattle.text.proofs.Decimals.{at_most_five}
use Rattle.text.proofs.Texts.{joined, number_ends}
use Rattle.text.proofs.put_row.Goals as goal

pub put_number-a-requires : goal.put_number-a-requires
put_number-a-requires c = omega (arith, at_most_five _ c.ranges.f)

pub put_number-b-requires : goal.put_number-b-requires
put_number-b-requires c = let first = number_ends _ _ c.put_number-a.ensures in
    omega (arith, first.0, first.1, at_most_five _ c.ranges.f, at_most_five _ c.ranges.r)

pub put_number-c-requires : goal.put_number-c-requires
put_number-c-requires c = let first = number_ends _ _ c.put_number-a.ensures in
    let second = number_ends _ _ c.put_number-b.ensures in
    omega (arith, first.0, first.1, second.0, second.1, at_most_five _ c.ranges.f, at_most_five _ c.ranges.r, at_most_five _ c.ranges.l)

pub put_number-requires : goal.put_number-requires
put_number-requires c = let first = number_ends _ _ c.put_number-a.ensures in
    let second = number_ends _ _ c.put_number-b.ensures in
    let third = number_ends _ _ c.put_number-c.ensures in
    omega (arith, first.0, first.1, second.0, second.1, third.0, third.1, at_most_five _ c.ranges.f, at_most_five _ c.ranges.r, at_most_five _ c.ranges.l, at_most_five _ c.ranges.k)

pub returns : goal.returns
unfolding row_line
returns c = let first = c.put_number-a.ensures in
    let second = c.put_number-b.ensures in
    let third = c.put_number-c.ensures in
    let fourth = c.put_number.ensures in
    record { wrote = joined (joined (joined first second) third) fourth; upper_bound = omega (arith, (number_ends _ _ first).0, (number_ends _ _ second).0, (number_ends _ _ third).0, (number_ends _ _ fourth).0, at_most_five _ c.ranges.f, at_most_five _ c.ranges.r, at_most_five _ c.ranges.l, at_most_five _ c.ranges.k) }
