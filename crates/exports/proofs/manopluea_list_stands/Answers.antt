-- `exports::manopluea_list_stands` meets its contract.
use mathlib.Core.Path.{◌∙◌}
use Rattle.exports.specs.Reply.{list_stands_left}
use Rattle.std.specs.Bool.{then_some}
use Rattle.exports.proofs.Numbered.{said, not_of_three, of_three}
use Rattle.exports.proofs.Replies.{none_left, all_left}
use Rattle.exports.proofs.manopluea_list_stands.Goals as goal

pub returns-then-reply-lt7 : goal.returns-then-reply-lt7
unfolding list_stands_left
returns-then-reply-lt7 c = none_left (c.args.table.now, c.args.replies.now) c.args.reply.now (said c.args.kind c.args.corners.now c.args.cells.now c.args.doors.now c.args.setting c.args.stands.now (then_some c.args.stated c.args.reach) (then_some c.args.limited c.args.ceiling) c.args.table.now c.args.replies.now) c.if-reply-lt7.true

pub returns-then-stands-ne0 : goal.returns-then-stands-ne0
unfolding list_stands_left
returns-then-stands-ne0 c = all_left (c.args.table.now, c.args.replies.now) c.args.reply.now c.if-reply-lt7.false (not_of_three c.args.kind c.args.corners.now c.args.cells.now c.args.doors.now c.args.setting c.args.stands.now (then_some c.args.stated c.args.reach) (then_some c.args.limited c.args.ceiling) c.args.table.now c.args.replies.now c.if-stands-ne0.true) c.put.ensures

pub returns : goal.returns
unfolding list_stands_left
returns c = all_left (c.args.table.now, c.args.replies.now) c.args.reply.now c.if-reply-lt7.false
    (c.list_stands-answer.ensures.numbers
    ∙ of_three c.args.kind c.args.corners.now c.args.cells.now c.args.doors.now c.args.setting c.args.stands.now (then_some c.args.stated c.args.reach) (then_some c.args.limited c.args.ceiling) c.args.table.now c.args.replies.now c.if-stands-ne0.false c.then_some-reach.ensures c.then_some-ceiling.ensures _ c.stands_of-given.ensures)
    c.put-2.ensures
