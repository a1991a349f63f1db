-- `text::put_decimal` meets its contract.
use Prim.Native.Nat.{ℕ, ◌<◌}
use native.Mathlib.Nat.{le_of_lt}
use native.Mathlib.Omega.{arith}
use lib.ListN.{length}
use Rattle.text.proofs.Texts.{digit_has_room, digit_written, above_has_room, last_digit_written}
use Rattle.text.proofs.+put_decimal.Goals as goal
use Rattle.text.proofs.+put_decimal.Goals.{After-put_decimal-end}

pub bounds-text-at : goal.bounds-text-at
bounds-text-at t c = digit_has_room _ _ c.requires c.if-n-lt10.true

pub returns-then-n-lt10 : goal.returns-then-n-lt10
returns-then-n-lt10 t c = digit_written c.if-n-lt10.true (digit_has_room _ _ c.requires c.if-n-lt10.true)

pub put_decimal-end-requires : goal.put_decimal-end-requires
put_decimal-end-requires t c = (omega (arith, c.decreases), le_of_lt (above_has_room _ _ c.requires c.if-n-lt10.false))

-- where the digits above the last end there is room for one more
last-has-room : (t : ℕ) (c : After-put_decimal-end t) → c.put_decimal-end.result < length c.put_decimal-end.new.text
last-has-room t c =
    let above = above_has_room _ _ c.requires c.if-n-lt10.false in
    let ends = c.put_decimal-end.ensures.ends in
    let kept = c.put_decimal-end.auto.text in
    omega arith

pub bounds-text-end : goal.bounds-text-end
bounds-text-end t c = last-has-room t (goal.at.bounds-text-end t c).After-put_decimal-end

pub returns : goal.returns
returns t c = last_digit_written c.if-n-lt10.false c.put_decimal-end.ensures (last-has-room t (goal.at.returns t c).After-put_decimal-end)
