-- `checking::check_sized` meets its contract.
use native.Mathlib.Omega.{arith}
use Rattle.cells.proofs.Plans.{counts}
use Rattle.checking.proofs.Measures.{cells_fit}
use Rattle.checking.proofs.Parts.{firsts_part}
use Rattle.checking.proofs.Rooms.{lent}
use Rattle.checking.proofs.check_sized.Goals as goal

pub whole_as_front-as_flattened_mut : goal.whole_as_front-as_flattened_mut
whole_as_front-as_flattened_mut g c = (c.requires.room.0, omega (arith, c.requires.room.1))

pub overflow_add-firsts : goal.overflow_add-firsts
overflow_add-firsts g c = omega (arith, cells_fit c.requires.fit)

pub slice_bounds-firsts-end : goal.slice_bounds-firsts-end
slice_bounds-firsts-end g c = omega (arith, cells_fit c.requires.fit)

pub slice_bounds-check_into-end : goal.slice_bounds-check_into-end
slice_bounds-check_into-end g c = lent _ _ (omega (arith, cells_fit c.requires.fit))

pub whole_as_front-check_into : goal.whole_as_front-check_into
whole_as_front-check_into g c = (c.requires.room.0, omega (arith, c.requires.room.1))

pub check_into-requires-clause-firsts_len : goal.check_into-requires-clause-firsts_len
check_into-requires-clause-firsts_len g c = firsts_part c.requires.fit _ (omega arith)

pub check_into-requires-clause-cells_in_bounds : goal.check_into-requires-clause-cells_in_bounds
check_into-requires-clause-cells_in_bounds g c = omega (arith, (counts _ _ _ c.requires.fit.in_size).cells_at_most)
