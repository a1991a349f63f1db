-- `sight::list::list_over` meets its contract.
use mathlib.Core.Path.{refl}
use native.Mathlib.Omega.{arith}
use Rattle.cells.proofs.Faces.{bounds}
use Rattle.sight.proofs.list.list_over.Goals as goal

pub list_inside-requires : goal.list_inside-requires
list_inside-requires c = record { lines = c.requires.lines; c_bound = rw c.in-Inside.is at c.requires.stands_in; whole = rw c.in-Inside.is at c.requires.whole; c_in_bounds = rw c.in-Inside.is at c.requires.p_in_bounds }

pub offset_bounds-firsts-c : goal.offset_bounds-firsts-c
offset_bounds-firsts-c c = let h = rw c.in-Side.is at c.requires.stands_in.0 in omega (arith, (bounds c.requires.lines.3 h.0 refl).begin_stands)

pub bounds-firsts-c : goal.bounds-firsts-c
bounds-firsts-c c = let h = rw c.in-Side.is at c.requires.stands_in.0 in omega (arith, (bounds c.requires.lines.3 h.0 refl).begin_stands)

pub overflow_add-f : goal.overflow_add-f
overflow_add-f c = let h = rw c.in-Side.is at c.requires.stands_in.0 in omega (arith, h.1, c.requires.lines.0.few_faces)

pub overflow_sub-firsts : goal.overflow_sub-firsts
overflow_sub-firsts c = omega (arith, c.requires.lines.3.firsts_stand)

pub list_within-requires : goal.list_within-requires
list_within-requires c = let h = rw c.in-Side.is at c.requires.stands_in in
    record { lines = (c.requires.lines.0, c.requires.lines.1, c.requires.lines.2); f_in_bounds = (h.0.1, h.0.2, h.0.3, h.2); whole = rw c.in-Side.is at c.requires.whole; f_in_bounds_2 = rw c.in-Side.is at c.requires.p_in_bounds }

pub returns-in-Inside : goal.returns-in-Inside
returns-in-Inside c = rw c.in-Inside.is c.list_inside.ensures

pub returns-in-Side : goal.returns-in-Side
returns-in-Side c = rw c.in-Side.is c.list_within.ensures
