-- `boxes::write` meets its contract.
use Prim.Native.Nat.{◌*◌}
use native.Mathlib.Omega.{arith}
use lib.ListN.{length-set}
use Rattle.boxes.proofs.Noted.{four_stored}
use Rattle.boxes.proofs.write.Goals as goal

pub bounds-boxes-at-2 : goal.bounds-boxes-at-2
bounds-boxes-at-2 c = rw length-set (omega arith)

pub bounds-boxes-at-3 : goal.bounds-boxes-at-3
bounds-boxes-at-3 c = rw length-set (rw length-set (omega arith))

pub bounds-boxes-at-4 : goal.bounds-boxes-at-4
bounds-boxes-at-4 c = rw length-set (rw length-set (rw length-set (omega arith)))

pub returns : goal.returns
returns c = let b = c.well_formed.1.1.0.1.1 in
    four_stored c.args.boxes.now (4 * c.args.c) c.args.b b.0.1 b.1.0.1 b.1.1.0.1 b.1.1.1.0.1
