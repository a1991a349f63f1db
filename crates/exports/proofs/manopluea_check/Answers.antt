-- `exports::manopluea_check` meets its contract.
use Rattle.manopluea.specs.Calls.{check_replies}
use Rattle.exports.specs.Reply.{check_left}
use Rattle.exports.proofs.Replies.{none_replied, all_replied}
use Rattle.exports.proofs.manopluea_check.Goals as goal

pub returns-then-reply-lt7 : goal.returns-then-reply-lt7
unfolding check_left
returns-then-reply-lt7 c = none_replied c.args.reply.now (check_replies c.args.kind c.args.corners.now c.args.cells.now c.args.doors.now) c.if-reply-lt7.true

pub returns : goal.returns
unfolding check_left
returns c = all_replied c.args.reply.now c.if-reply-lt7.false c.check-answer.ensures.numbers c.put.ensures
