-- `find::find_sized` meets its contract.
use native.Mathlib.Omega.{arith}
use Rattle.checking.proofs.Measures.{cells_fit}
use Rattle.checking.proofs.Parts.{firsts_part}
use Rattle.checking.proofs.Rooms.{lent}
use Rattle.find.proofs.find_sized.Goals as goal

pub whole_as_front-as_flattened_mut : goal.whole_as_front-as_flattened_mut
whole_as_front-as_flattened_mut g c = (c.requires.room.0, omega (arith, c.requires.room.1))

pub overflow_add-firsts : goal.overflow_add-firsts
overflow_add-firsts g c = omega (arith, cells_fit c.requires.fit)

pub slice_bounds-firsts-end : goal.slice_bounds-firsts-end
slice_bounds-firsts-end g c = omega (arith, cells_fit c.requires.fit)

pub slice_bounds-find_in-end : goal.slice_bounds-find_in-end
slice_bounds-find_in-end g c = lent _ _ (omega (arith, cells_fit c.requires.fit))

pub whole_as_front-find_in : goal.whole_as_front-find_in
whole_as_front-find_in g c = (c.requires.room.0, omega (arith, c.requires.room.1))

pub find_in-requires-clause-firsts_len : goal.find_in-requires-clause-firsts_len
find_in-requires-clause-firsts_len g c = firsts_part c.requires.fit _ (omega arith)
