-- `sight::list::list_inside` meets its contract.
use mathlib.Core.Path.{refl}
use native.Mathlib.Numerals.{add-one}
use native.Mathlib.Omega.{arith}
use Rattle.cells.proofs.Faces.{bounds}
use Rattle.sight.proofs.list.list_inside.Goals as goal

pub offset_bounds-firsts-c : goal.offset_bounds-firsts-c
offset_bounds-firsts-c c = omega (arith, (bounds c.requires.lines.3 c.requires.c_bound.0 refl).begin_stands)

pub bounds-firsts-c : goal.bounds-firsts-c
bounds-firsts-c c = omega (arith, (bounds c.requires.lines.3 c.requires.c_bound.0 refl).begin_stands)

pub overflow_add-end : goal.overflow_add-end
overflow_add-end c = omega (arith, (bounds c.requires.lines.3 c.requires.c_bound.0 refl).end_stands)

pub offset_bounds-firsts-c-2 : goal.offset_bounds-firsts-c-2
offset_bounds-firsts-c-2 c = omega (arith, (bounds c.requires.lines.3 c.requires.c_bound.0 refl).end_stands)

pub bounds-firsts-c-2 : goal.bounds-firsts-c-2
bounds-firsts-c-2 c = omega (arith, (bounds c.requires.lines.3 c.requires.c_bound.0 refl).end_stands)

pub overflow_sub-cells : goal.overflow_sub-cells
overflow_sub-cells c = omega (arith, c.requires.lines.3.firsts_stand)

pub overflow_sub-end : goal.overflow_sub-end
overflow_sub-end c = omega (arith, (bounds c.requires.lines.3 c.requires.c_bound.0 refl).three_sides)

pub overflow_sub-end-2 : goal.overflow_sub-end-2
overflow_sub-end-2 c = omega (arith, (bounds c.requires.lines.3 c.requires.c_bound.0 refl).three_sides)

pub overflow_sub-cells-2 : goal.overflow_sub-cells-2
overflow_sub-cells-2 c = omega (arith, c.requires.c_bound.0)

pub sides-requires : goal.sides-requires
sides-requires c = let b = bounds c.requires.lines.3 c.requires.c_bound.0 refl in
    record { lines = (c.requires.lines.0, c.requires.lines.1, c.requires.lines.2); f_in_bounds = (omega (arith, c.requires.c_bound.1, b.within, b.three_sides), c.requires.c_bound.2); whole = rw (add-one c.args.c) c.requires.whole; f_in_bounds_2 = rw (add-one c.args.c) (omega (arith, c.requires.c_in_bounds)) }

pub shape_of-table : goal.shape_of-table
shape_of-table c = c.sides.auto.table

pub returns : goal.returns
returns c = rw (← add-one c.args.c) c.sides.ensures
