-- The proof of the cycle of calls {sides}: each call has one side fewer to follow.
use mathlib.Core.Path.{refl, sym, subst, ◌∙◌}
use Prim.Native.Nat.{ℕ, ◌+◌, ◌*◌, ◌-◌, ◌<◌, ◌≤◌}
use native.Mathlib.Omega.{arith}
use lib.ListN.{length, get_or}
use Rattle.fan.specs.Sight.{Sight}
use Rattle.expand.specs.Remains.{Remains, Follows}
use Rattle.expand.proofs.Expansion.{Room, all_remains, second_remains, none_remains, room_remains, ends_in_the_first}
use Rattle.sight.specs.CellTree.{cell_tree}
use Rattle.sight.proofs.CellTree.{the_last_side, one_side_and_more, room_for_a_side}
use Rattle.sight.proofs.list.+sides.Goals as goal
use Rattle.sight.proofs.list.+sides.Goals.{Else-first-eq0, Else-more-eq0, Start}

there : (t : ℕ) (s : Start t) → 4 * s.args.f + 3 < length s.args.lines.now
there t s = s.requires.f_in_bounds.0

starts : (t : ℕ) (s : Start t) → 2 * s.args.f < length s.args.faces.now
starts t s = s.requires.lines.1.stands s.args.f (there t s)

pub overflow_mul-r : goal.overflow_mul-r
overflow_mul-r t c = omega (arith, starts t (goal.at.overflow_mul-r t c).Start)

pub offset_bounds-faces-f : goal.offset_bounds-faces-f
offset_bounds-faces-f t c = omega (arith, starts t (goal.at.offset_bounds-faces-f t c).Start)

pub bounds-faces-f : goal.bounds-faces-f
bounds-faces-f t c = starts t (goal.at.bounds-faces-f t c).Start

pub overflow_mul-l : goal.overflow_mul-l
overflow_mul-l t c = omega (arith, there t (goal.at.overflow_mul-l t c).Start)

pub offset_bounds-lines-f : goal.offset_bounds-lines-f
offset_bounds-lines-f t c = omega (arith, there t (goal.at.offset_bounds-lines-f t c).Start)

pub bounds-lines-f : goal.bounds-lines-f
bounds-lines-f t c = omega (arith, there t (goal.at.bounds-lines-f t c).Start)

pub cross-first-requires : goal.cross-first-requires
cross-first-requires t c = let h = there t (goal.at.cross-first-requires t c).Start in
    let parts = room_for_a_side _ _ _ _ _ _ _ _ c.args.more (c.requires.whole, c.requires.f_in_bounds_2) in
    record { lines = c.requires.lines; f_in_bounds = (h, c.requires.lines.1.exists _ h, c.requires.lines.0.end_exists _ h, c.requires.f_in_bounds.1); whole = parts.0; l_in_bounds = parts.1 }

pub shape_of-table-then-more-eq0 : goal.shape_of-table-then-more-eq0
shape_of-table-then-more-eq0 t c = c.cross-first.auto.table

pub returns-then-more-eq0 : goal.returns-then-more-eq0
returns-then-more-eq0 t c = let x = c.cross-first in
    subst
    (λ (t : Sight). Follows c.args.table.now c.args.at c.args.left t x.new.table x.result.rows x.result.left)
    (sym (the_last_side c.args.seen.now c.args.lines.now c.args.faces.now c.args.reach c.args.unentered c.args.f c.if-more-eq0.true))
    x.ensures

pub shape_of-table-then-first-eq0 : goal.shape_of-table-then-first-eq0
shape_of-table-then-first-eq0 t c = c.cross-first.auto.table

pub returns-then-first-eq0 : goal.returns-then-first-eq0
returns-then-first-eq0 t c = ends_in_the_first (one_side_and_more c.args.seen.now c.args.lines.now c.args.faces.now c.args.reach c.args.unentered c.args.f c.args.more c.if-more-eq0.false) c.cross-first.ensures c.if-first-eq0.true

-- the first side's line is followed to its rows
rest_remains : (t : ℕ) (c : Else-first-eq0 t) →
    let x = c.cross-first in
    Remains c.args.table.now c.args.at c.args.left (cell_tree c.args.seen.now c.args.lines.now c.args.faces.now c.args.reach c.args.unentered c.args.more c.args.f) x.new.table (c.args.at + 4 * x.result.rows) x.result.rows x.result.left (cell_tree c.args.seen.now c.args.lines.now c.args.faces.now c.args.reach c.args.unentered (c.args.more - 1) (get_or c.args.lines.now (4 * c.args.f + 3) 0))
rest_remains t c =
    let x = c.cross-first in
    let none = c.if-first-eq0.false in
    second_remains _ _ _ _ _ _ _ _ (all_remains _ _ _ _ c.args.at refl c.requires.whole) (one_side_and_more c.args.seen.now c.args.lines.now c.args.faces.now c.args.reach c.args.unentered c.args.f c.args.more c.if-more-eq0.false) x.ensures (omega arith) x.auto.table (omega arith) refl

rest_fits : (t : ℕ) (c : Else-first-eq0 t) →
    let x = c.cross-first in
    Room (c.args.at + 4 * x.result.rows) (length x.new.table) (cell_tree c.args.seen.now c.args.lines.now c.args.faces.now c.args.reach c.args.unentered (c.args.more - 1) (get_or c.args.lines.now (4 * c.args.f + 3) 0))
rest_fits t c = room_remains _ _ _ _ _ _ _ _ (rest_remains t c) (c.requires.whole, c.requires.f_in_bounds_2)

some_follow : (t : ℕ) (c : Else-more-eq0 t) → 1 ≤ c.args.more
some_follow t c = let none = c.if-more-eq0.false in omega arith

pub overflow_mul-after : goal.overflow_mul-after
overflow_mul-after t c = omega (arith, (rest_fits t (goal.at.overflow_mul-after t c).Else-first-eq0).1, c.cross-first.auto.table)

pub overflow_add-after : goal.overflow_add-after
overflow_add-after t c = omega (arith, (rest_fits t (goal.at.overflow_add-after t c).Else-first-eq0).1, c.cross-first.auto.table)

pub overflow_mul-next : goal.overflow_mul-next
overflow_mul-next t c = omega (arith, there t (goal.at.overflow_mul-next t c).Start)

pub overflow_add-next : goal.overflow_add-next
overflow_add-next t c = omega (arith, there t (goal.at.overflow_add-next t c).Start)

pub offset_bounds-lines-f-2 : goal.offset_bounds-lines-f-2
offset_bounds-lines-f-2 t c = omega (arith, there t (goal.at.offset_bounds-lines-f-2 t c).Start)

pub bounds-lines-f-2 : goal.bounds-lines-f-2
bounds-lines-f-2 t c = there t (goal.at.bounds-lines-f-2 t c).Start

pub overflow_sub-more : goal.overflow_sub-more
overflow_sub-more t c = some_follow t (goal.at.overflow_sub-more t c).Else-more-eq0

pub sides-second-requires : goal.sides-second-requires
sides-second-requires t c = let none = c.if-first-eq0.false in
    (omega (arith, c.decreases, some_follow t (goal.at.sides-second-requires t c).Else-more-eq0), (c.requires.lines, ((c.requires.lines.0.next_exists _ (there t (goal.at.sides-second-requires t c).Start), omega arith), rest_fits t (goal.at.sides-second-requires t c).Else-first-eq0)))

pub overflow_add-result : goal.overflow_add-result
overflow_add-result t c = omega (arith, c.well_formed.1.1.1.1.0.0, c.cross-first.auto.table, (rest_fits t (goal.at.overflow_add-result t c).Else-first-eq0).1, c.sides-second.ensures.no_more)

pub shape_of-table : goal.shape_of-table
shape_of-table t c = c.sides-second.auto.table ∙ c.cross-first.auto.table

pub returns : goal.returns
returns t c = none_remains _ _ _ _ _ _ _ _ (rest_remains t (goal.at.returns t c).Else-first-eq0) c.sides-second.ensures refl
