-- `sight::list::list_apart` meets its contract.
use Prim.Native.Nat.{◌*◌, ◌≤◌}
use native.Mathlib.Omega.{arith}
use lib.ListN.{take}
use lib.Seq.{length-take-le}
use Rattle.records.proofs.Stores.{part_copied}
use Rattle.cells.specs.Lists.{tabled}
use Rattle.fan.specs.Sight.{Sight}
use Rattle.sight.specs.CellTree.{stand_tree}
use Rattle.sight.proofs.UpTo.{some_allowed, ceiling_passed, ceiling_kept}
use Rattle.sight.proofs.list.list_apart.Goals as goal
use Rattle.sight.proofs.list.list_apart.Goals.{Else-followed-eq0, Start}

-- what is followed
abbrev tree : Start → Sight
tree s = stand_tree s.args.seen.now s.args.lines.now (tabled s.args.faces.now s.args.firsts.now) s.args.reach s.args.p

pub list_over-followed-requires : goal.list_over-followed-requires
list_over-followed-requires c = record { lines = c.requires.lines; stands_in = (c.requires.stands_in.0, c.requires.stands_in.1, omega (arith, some_allowed c.args.n, c.allowance-left.ensures)); whole = c.requires.whole; p_in_bounds = omega (arith, c.requires.p_bound.0) }

pub returns-then-followed-eq0 : goal.returns-then-followed-eq0
returns-then-followed-eq0 c = ceiling_passed c.args.n c.allowance-left.ensures c.args.table.now (tree (goal.at.returns-then-followed-eq0 c).Start) c.list_over-followed.ensures c.requires.p_bound.1 c.if-followed-eq0.true

pub overflow_mul-numbers : goal.overflow_mul-numbers
overflow_mul-numbers c = omega (arith, c.list_over-followed.ensures.no_more, c.requires.p_bound.0)

fits : (c : Else-followed-eq0) → 4 * c.list_over-followed.result.rows ≤ 8192
fits c = omega (arith, c.list_over-followed.ensures.no_more, c.requires.p_bound.0)

pub slice_bounds-apart-end : goal.slice_bounds-apart-end
slice_bounds-apart-end c = omega (arith, fits (goal.at.slice_bounds-apart-end c).Else-followed-eq0, c.list_over-followed.auto.table)

pub overflow_sub-result : goal.overflow_sub-result
overflow_sub-result c = omega (arith, c.list_over-followed.ensures.passages)

pub returns : goal.returns
returns c = let x = c.list_over-followed in
    let none = c.if-followed-eq0.false in
    let long = length-take-le (4 * x.result.rows) x.new.table (omega (arith, fits (goal.at.returns c).Else-followed-eq0, x.auto.table)) in
    let copied = part_copied c.args.table.now 0 (4 * x.result.rows) (take (4 * x.result.rows) x.new.table) c.copy_from_slice.ensures.after long (omega (arith, x.ensures.no_more, c.requires.p_in_bounds)) in
    ceiling_kept c.args.n c.allowance-left.ensures c.args.table.now (tree (goal.at.returns c).Start) x.ensures c.requires.p_bound.1 (omega arith) (omega (arith, c.requires.p_bound.0)) copied
