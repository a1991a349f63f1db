-- `morning::list_stand` meets its contract.
use Rattle.morning.proofs.OverLines.{refusal_left, rows_left}
use Rattle.morning.proofs.list_stand.Goals as goal

pub list_one-requires : goal.list_one-requires
list_one-requires c = record { lined = c.requires.lined; corners_in_bounds = c.requires.corners_in_bounds.0; seen_len = c.requires.seen_len }

pub put-requires : goal.put-requires
put-requires c = c.requires.corners_in_bounds.1

pub put-requires-in-Ok : goal.put-requires-in-Ok
put-requires-in-Ok c = c.requires.corners_in_bounds.1

pub returns-in-Err : goal.returns-in-Err
returns-in-Err c =
    let left = refusal_left c.args.at c.args.replies.now c.list_one.ensures c.in-Err.is c.number.ensures c.put.ensures in
    record { rows_value = left.0; crossings_value = left.1.0; table_after = left.1.1.0; replies_after = left.1.1.1 }

pub returns-in-Ok : goal.returns-in-Ok
returns-in-Ok c =
    let left = rows_left c.args.at c.args.replies.now c.list_one.ensures c.in-Ok.is c.put-in-Ok.ensures in
    record { rows_value = left.0; crossings_value = left.1.0; table_after = left.1.1.0; replies_after = left.1.1.1 }
