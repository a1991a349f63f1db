-- `sight::list::list_all` meets its contract.
use native.Mathlib.Omega.{arith}
use Rattle.sight.proofs.list.list_all.Goals as goal

pub list_over-all-requires : goal.list_over-all-requires
list_over-all-requires c = record { lines = c.requires.lines; stands_in = (c.requires.stands_in.0, c.requires.stands_in.1, omega arith); whole = c.requires.whole; p_in_bounds = c.requires.p_in_bounds }

pub overflow_sub-result : goal.overflow_sub-result
overflow_sub-result c = omega (arith, c.list_over-all.ensures.passages)

pub returns : goal.returns
returns c = let w = c.list_over-all.ensures in
    let few = c.requires.p_bound in
    record { rows_value = w.rows (omega (arith, few, w.passages)); crossings_value = omega (arith, few, w.passages); table_after = w.same (omega (arith, few, w.passages)) }
