use native.Mathlib.Omega.{arith}
use Rattle.text.specs.Text.{refusal_line}
use Rattle.text.proofs.Decimals.{at_most_twenty}
use Rattle.text.proofs.Texts.{joined, word_ends, number_ends}
use Rattle.text.proofs.put_refusal.Goals as goal

pub put_number-b-requires : goal.put_number-b-requires
put_number-b-requires c = let said = word_ends c.put-a.ensures in
    omega (arith, said.0, said.1, at_most_twenty _ (record { fits = c.number.type_inv }))

pub put_number-requires : goal.put_number-requires
put_number-requires c = let said = word_ends c.put-a.ensures in
    let first = number_ends _ _ c.put_number-b.ensures in
    omega (arith, said.0, said.1, first.0, first.1, at_most_twenty _ (record { fits = c.number.type_inv }), at_most_twenty _ (record { fits = c.place.type_inv }))

pub returns : goal.returns
unfolding refusal_line
returns c = let said = c.put-a.ensures in
    let first = c.put_number-b.ensures in
    let second = c.put_number.ensures in
    rw (← c.number.ensures, ← c.place.ensures) (joined (joined said first) second)
