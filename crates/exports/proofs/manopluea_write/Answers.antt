-- `exports::manopluea_write` meets its contract.
use Rattle.manopluea.specs.Calls.{write_replies}
use Rattle.exports.specs.Reply.{write_left}
use Rattle.exports.proofs.Replies.{none_left, all_left}
use Rattle.exports.proofs.manopluea_write.Goals as goal

pub returns-then-reply-lt7 : goal.returns-then-reply-lt7
unfolding write_left
returns-then-reply-lt7 c = none_left c.args.file.now c.args.reply.now (write_replies c.args.kind c.args.corners.now c.args.cells.now c.args.doors.now c.args.file.now) c.if-reply-lt7.true

pub returns : goal.returns
unfolding write_left
returns c = all_left c.args.file.now c.args.reply.now c.if-reply-lt7.false c.write-answer.ensures.numbers c.put.ensures
