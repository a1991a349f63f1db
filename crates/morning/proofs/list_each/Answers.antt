-- `morning::list_each` meets its contract.
use mathlib.Core.Path.{◌≡◌}
use Prim.Native.Nat.{◌*◌, ◌≤◌}
use native.Mathlib.Omega.{arith}
use lib.ListN.{length}
use borrow.Author.Rules.{rules}
use Rattle.limits.specs.Limits.{most_corners, most_cells}
use Rattle.face.specs.Tables.{tables}
use Rattle.sight.proofs.Lined.{sound_cells}
use Rattle.morning.specs.OverLines.{single_on}
use Rattle.morning.proofs.Each.{none_yet, Next, next, part_has_room, table_keeps_its_length, replies_keep_their_length, all_listed, few_here, one_more}
use Rattle.morning.proofs.list_each.Goals as goal
use Rattle.morning.proofs.list_each.Goals.{After-list_stand-counts, In-loop-i}

pub lines_of-requires : goal.lines_of-requires
lines_of-requires c = record { sound_cells = sound_cells c.args.plan.now.sound; backed = c.args.plan.now.backed; lines_len = c.requires.lines_len.0 }

pub loop-i-init : goal.loop-i-init
loop-i-init c = (omega arith, (none_yet (single_on c.args.plan.now.corners.now (tables c.args.plan.now.cells) c.args.plan.now.doors.now c.args.setting c.args.reach c.args.ceiling) c.args.stands c.args.table.now c.args.replies.now, c.requires.lines_len.1))

-- the array has a place for each stand
in_array : (c : In-loop-i) → c.args.count ≤ length c.args.stands
in_array c =
    let whole : length c.args.stands ≡ 32 = search rules in
    omega (arith, c.requires.room_for.few_stands)

next_at : (c : In-loop-i) → Next c.args.plan.now.corners.now c.loop-i.i c.loop-i.rows c.loop-i.crossings c.loop-i.table c.loop-i.replies
next_at c =
    next c.args.plan.now.sound c.args.setting c.args.reach c.args.ceiling c.loop-i.invariant.1.0 c.requires.room_for c.loop-i-test.true (in_array c)

pub offset_bounds-stands-i : goal.offset_bounds-stands-i
offset_bounds-stands-i c = omega (arith, c.requires.room_for.few_stands)

pub bounds-stands-i : goal.bounds-stands-i
bounds-stands-i c = omega (arith, in_array (goal.at.bounds-stands-i c).In-loop-i)

pub overflow_mul-rows : goal.overflow_mul-rows
overflow_mul-rows c = omega (arith, (next_at (goal.at.overflow_mul-rows c).In-loop-i).few_rows, c.requires.room_for.few_stands)

pub offset_bounds-table-rows : goal.offset_bounds-table-rows
offset_bounds-table-rows c = omega (arith, (next_at (goal.at.offset_bounds-table-rows c).In-loop-i).few_rows, c.requires.room_for.few_stands)

pub slice_bounds-list_stand-count : goal.slice_bounds-list_stand-count
slice_bounds-list_stand-count c = omega (arith, (next_at (goal.at.slice_bounds-list_stand-count c).In-loop-i).room_left)

pub slice_bounds-list_stand-start : goal.slice_bounds-list_stand-start
slice_bounds-list_stand-start c = omega (arith, (next_at (goal.at.slice_bounds-list_stand-start c).In-loop-i).room_left)

pub overflow_mul-i : goal.overflow_mul-i
overflow_mul-i c = omega (arith, c.requires.room_for.few_stands)

pub list_stand-counts-requires : goal.list_stand-counts-requires
list_stand-counts-requires c = record { lined = c.lines_of.ensures; corners_in_bounds = (part_has_room c.args.plan.now.sound c.args.setting c.args.reach c.args.ceiling c.loop-i.invariant.1.0 c.requires.room_for c.loop-i-test.true (in_array (goal.at.list_stand-counts-requires c).In-loop-i), (next_at (goal.at.list_stand-counts-requires c).In-loop-i).places_left); seen_len = c.loop-i.invariant.1.1 }

-- the stand adds few rows and crossings
few_at : (c : After-list_stand-counts) → (c.list_stand-counts.result.rows ≤ most_corners) × (c.list_stand-counts.result.crossings ≤ most_corners * most_cells)
few_at c =
    few_here c.args.plan.now.sound c.args.setting c.args.reach c.args.ceiling c.loop-i.invariant.1.0 c.requires.room_for c.loop-i-test.true (let whole : length c.args.stands ≡ 32 = search rules in omega (arith, c.requires.room_for.few_stands)) _ c.list_stand-counts.ensures.rows_value c.list_stand-counts.ensures.crossings_value

pub overflow_add-rows : goal.overflow_add-rows
overflow_add-rows c = omega (arith, (next_at (goal.at.overflow_add-rows c).In-loop-i).few_rows, c.requires.room_for.few_stands, (few_at (goal.at.overflow_add-rows c).After-list_stand-counts).0)

pub overflow_add-crossings : goal.overflow_add-crossings
overflow_add-crossings c = omega (arith, (next_at (goal.at.overflow_add-crossings c).In-loop-i).few_crossings, c.requires.room_for.few_stands, (few_at (goal.at.overflow_add-crossings c).After-list_stand-counts).1)

pub loop-i-preserved : goal.loop-i-preserved
loop-i-preserved c = (omega arith, (one_more c.args.plan.now.sound c.args.setting c.args.reach c.args.ceiling c.loop-i.invariant.1.0 c.requires.room_for c.loop-i-test.true (in_array (goal.at.loop-i-preserved c).In-loop-i) _ (c.list_stand-counts.ensures.rows_value, (c.list_stand-counts.ensures.crossings_value, (c.list_stand-counts.ensures.table_after, c.list_stand-counts.ensures.replies_after))), search rules))

pub shape_of-table : goal.shape_of-table
shape_of-table c = table_keeps_its_length c.loop-i.invariant.1.0

pub shape_of-replies : goal.shape_of-replies
shape_of-replies c = replies_keep_their_length c.loop-i.invariant.1.0

pub returns : goal.returns
returns c =
    let all = all_listed c.loop-i.invariant.1.0 c.args.count (omega (arith, c.loop-i.invariant.0, c.loop-i-test.false)) in
    record { rows_value = all.0; crossings_value = all.1.0; table_after = all.1.1.0; replies_after = all.1.1.1 }
