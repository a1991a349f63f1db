use native.Mathlib.Omega.{arith}
use Rattle.text.specs.Text.{count_line}
use Rattle.text.proofs.Decimals.{at_most_twenty}
use Rattle.text.proofs.Texts.{joined, word_ends, number_ends}
use Rattle.text.proofs.put_counts.Goals as goal

pub put_number-b-requires : goal.put_number-b-requires
put_number-b-requires c = let said = word_ends c.put-a.ensures in
    omega (arith, said.0, said.1, at_most_twenty _ c.ranges.n)

pub put-c-requires : goal.put-c-requires
put-c-requires c = let said = word_ends c.put-a.ensures in
    let first = number_ends _ _ c.put_number-b.ensures in
    omega (arith, said.0, said.1, first.0, first.1, at_most_twenty _ c.ranges.n)

pub put_number-requires : goal.put_number-requires
put_number-requires c = let said = word_ends c.put-a.ensures in
    let first = number_ends _ _ c.put_number-b.ensures in
    let again = word_ends c.put-c.ensures in
    omega (arith, said.0, said.1, first.0, first.1, again.0, again.1, at_most_twenty _ c.ranges.n, at_most_twenty _ c.ranges.k)

pub returns : goal.returns
unfolding count_line
returns c = let said = c.put-a.ensures in
    let first = c.put_number-b.ensures in
    let again = c.put-c.ensures in
    let second = c.put_number.ensures in
    record { wrote = joined (joined (joined said first) again) second; upper_bound = omega (arith, (word_ends said).0, (number_ends _ _ first).0, (word_ends again).0, (number_ends _ _ second).0, at_most_twenty _ c.ranges.n, at_most_twenty _ c.ranges.k) }
