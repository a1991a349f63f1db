-- `doors::is_true_list_with_room` meets its contract.
use mathlib.Core.Path.{ap, ◌∙◌}
use native.Mathlib.Omega.{arith}
use Rattle.plane.specs.Side.{point}
use Rattle.doors.specs.Change.{same_list}
use Rattle.doors.proofs.Changes.{numbers_fit, few_numbers, listed_anew}
use Rattle.doors.proofs.is_true_list_with_room.Goals as goal

pub overflow_mul-n : goal.overflow_mul-n
overflow_mul-n c = let fit = numbers_fit c.requires.sound.0 c.args.setting c.args.reach (point c.args.q) c.args.p c.requires.near.1 c.list_from-counts.ensures.rows_value in
    let few = few_numbers c.requires.sound.0 in
    record { fits = omega arith }

pub is_same_list-requires : goal.is_same_list-requires
is_same_list-requires c = let fit = numbers_fit c.requires.sound.0 c.args.setting c.args.reach (point c.args.q) c.args.p c.requires.near.1 c.list_from-counts.ensures.rows_value in
    let room = c.requires.corners_in_bounds.0 in
    let kept = c.list_from-counts.auto.table in
    omega arith

pub returns : goal.returns
returns c = c.is_same_list.ensures
    ∙ ap (same_list c.args.given.now) (listed_anew c.requires.sound.0 c.args.setting c.args.reach (point c.args.q) c.args.p c.requires.near.1 c.args.table.now c.list_from-counts.ensures.rows_value c.requires.corners_in_bounds.0 c.list_from-counts.ensures.table_after)
