-- `sight::list::list_within` meets its contract.
use mathlib.Core.Path.{refl}
use Prim.Native.Nat.{◌-◌}
use native.Mathlib.Omega.{arith}
use Rattle.expand.proofs.Expansion.{Room, room_for_the_first, none_remains, ends_in_the_first}
use lib.ListN.{length}
use Rattle.sight.specs.CellTree.{others_tree}
use Rattle.sight.proofs.CellTree.{second_part_remains, second_part_fits}
use Rattle.sight.proofs.list.list_within.Goals as goal

pub overflow_mul-g : goal.overflow_mul-g
overflow_mul-g c = omega (arith, c.requires.f_in_bounds.0)

pub overflow_add-g : goal.overflow_add-g
overflow_add-g c = omega (arith, c.requires.f_in_bounds.0)

pub offset_bounds-lines-f : goal.offset_bounds-lines-f
offset_bounds-lines-f c = omega (arith, c.requires.f_in_bounds.0)

pub bounds-lines-f : goal.bounds-lines-f
bounds-lines-f c = omega (arith, c.requires.f_in_bounds.0)

pub overflow_sub-cells : goal.overflow_sub-cells
overflow_sub-cells c = c.requires.f_in_bounds.2

pub others-own-requires : goal.others-own-requires
others-own-requires c =
    let cells = c.args.cells - 2 in
    let r : Room 0 (length c.args.table.now) (others_tree c.args.seen.now c.args.lines.now c.args.faces.now c.args.reach cells c.args.f) = room_for_the_first 0 _ refl (c.requires.whole, omega (arith, c.requires.f_in_bounds_2)) in
    record { lines = c.requires.lines; g_in_bounds = (c.requires.f_in_bounds.0, c.requires.f_in_bounds.3); whole = r.0; g_in_bounds_2 = r.1 }

pub returns-then-own-eq0 : goal.returns-then-own-eq0
returns-then-own-eq0 c = ends_in_the_first refl c.others-own.ensures c.if-own-eq0.true

pub overflow_mul-after : goal.overflow_mul-after
overflow_mul-after c = let x = c.others-own in
    let none = c.if-own-eq0.false in
    omega (arith, (second_part_fits _ _ _ (c.requires.whole, omega (arith, c.requires.f_in_bounds_2)) x.ensures (omega arith) x.auto.table).1, x.auto.table, c.well_formed.1.1.1.1.0.0)

pub overflow_sub-cells-2 : goal.overflow_sub-cells-2
overflow_sub-cells-2 c = c.requires.f_in_bounds.2

pub others-theirs-requires : goal.others-theirs-requires
others-theirs-requires c = let x = c.others-own in
    let none = c.if-own-eq0.false in
    let parts = second_part_fits _ _ _ (c.requires.whole, omega (arith, c.requires.f_in_bounds_2)) x.ensures (omega arith) x.auto.table in
    record { lines = c.requires.lines; g_in_bounds = (c.requires.lines.0.across_exists _ c.requires.f_in_bounds.0 c.requires.f_in_bounds.1, omega arith); whole = parts.0; g_in_bounds_2 = parts.1 }

pub overflow_add-result : goal.overflow_add-result
overflow_add-result c = let x = c.others-own in
    let none = c.if-own-eq0.false in
    omega (arith, c.well_formed.1.1.1.1.0.0, x.auto.table, (second_part_fits _ _ _ (c.requires.whole, omega (arith, c.requires.f_in_bounds_2)) x.ensures (omega arith) x.auto.table).1, c.others-theirs.ensures.no_more)

pub returns : goal.returns
returns c = let x = c.others-own in
    let none = c.if-own-eq0.false in
    none_remains _ _ _ _ _ _ _ _ (second_part_remains _ _ _ (c.requires.whole, omega (arith, c.requires.f_in_bounds_2)) x.ensures (omega arith) x.auto.table) c.others-theirs.ensures refl
