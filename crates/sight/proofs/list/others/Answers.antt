-- `sight::list::others` meets its contract.
use native.Mathlib.Omega.{arith}
use Rattle.sight.proofs.list.others.Goals as goal

pub overflow_mul-more : goal.overflow_mul-more
overflow_mul-more c = omega (arith, c.requires.g_in_bounds.0)

pub overflow_add-more : goal.overflow_add-more
overflow_add-more c = omega (arith, c.requires.g_in_bounds.0)

pub offset_bounds-lines-g : goal.offset_bounds-lines-g
offset_bounds-lines-g c = omega (arith, c.requires.g_in_bounds.0)

pub bounds-lines-g : goal.bounds-lines-g
bounds-lines-g c = omega (arith, c.requires.g_in_bounds.0)

pub overflow_mul-next : goal.overflow_mul-next
overflow_mul-next c = omega (arith, c.requires.g_in_bounds.0)

pub overflow_add-next : goal.overflow_add-next
overflow_add-next c = omega (arith, c.requires.g_in_bounds.0)

pub offset_bounds-lines-g-2 : goal.offset_bounds-lines-g-2
offset_bounds-lines-g-2 c = omega (arith, c.requires.g_in_bounds.0)

pub bounds-lines-g-2 : goal.bounds-lines-g-2
bounds-lines-g-2 c = omega (arith, c.requires.g_in_bounds.0)

pub sides-requires : goal.sides-requires
sides-requires c = record { lines = c.requires.lines; f_in_bounds = (c.requires.lines.0.next_exists _ c.requires.g_in_bounds.0, c.requires.g_in_bounds.1); whole = c.requires.whole; f_in_bounds_2 = c.requires.g_in_bounds_2 }

pub returns : goal.returns
returns c = c.sides.ensures
