-- `morning::list_sized` meets its contract.
use mathlib.Core.Path.{sym}
use native.Mathlib.Omega.{arith}
use Rattle.std.proofs.Common.{rules}
use Rattle.checking.proofs.Measures.{cells_fit}
use Rattle.checking.proofs.Parts.{firsts_part}
use Rattle.checking.proofs.Rooms.{lent, few_coordinates}
use Rattle.morning.proofs.list_sized.Goals as goal

pub whole_as_front-as_flattened_mut : goal.whole_as_front-as_flattened_mut
whole_as_front-as_flattened_mut g c = (c.requires.room.0, omega (arith, c.requires.room.1))

pub overflow_add-firsts : goal.overflow_add-firsts
overflow_add-firsts g c = omega (arith, cells_fit c.requires.fit)

pub slice_bounds-firsts-end : goal.slice_bounds-firsts-end
slice_bounds-firsts-end g c = omega (arith, cells_fit c.requires.fit)

pub slice_bounds-list_in-end : goal.slice_bounds-list_in-end
slice_bounds-list_in-end g c = lent _ _ (omega (arith, cells_fit c.requires.fit))

pub whole_as_front-list_in : goal.whole_as_front-list_in
whole_as_front-list_in g c = (c.requires.room.0, omega (arith, c.requires.room.1))

pub whole_as_front-as_flattened_mut-2 : goal.whole_as_front-as_flattened_mut-2
whole_as_front-as_flattened_mut-2 g c = (c.requires.room.0, omega (arith, c.requires.room.1))

pub slice_bounds-seen-end : goal.slice_bounds-seen-end
slice_bounds-seen-end g c = few_coordinates c.requires.fit

pub slice_bounds-list_in-end-3 : goal.slice_bounds-list_in-end-3
slice_bounds-list_in-end-3 g c = lent _ _ (omega (arith, few_coordinates c.requires.fit))

pub list_in-requires-clause-firsts_len : goal.list_in-requires-clause-firsts_len
list_in-requires-clause-firsts_len g c = firsts_part c.requires.fit _ (omega arith)

pub list_in-requires-clause-lines_len : goal.list_in-requires-clause-lines_len
list_in-requires-clause-lines_len g c = (search rules, sym (lent _ _ (omega (arith, few_coordinates c.requires.fit))))
