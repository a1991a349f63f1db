-- `exports::manopluea_read` meets its contract.
use Rattle.manopluea.specs.Calls.{read_replies}
use Rattle.exports.specs.Reply.{read_left}
use Rattle.exports.proofs.Replies.{none_left, all_left}
use Rattle.exports.proofs.manopluea_read.Goals as goal

pub returns-then-reply-lt7 : goal.returns-then-reply-lt7
unfolding read_left
returns-then-reply-lt7 c = none_left (c.args.corners.now, (c.args.cells.now, c.args.doors.now)) c.args.reply.now (read_replies c.args.file.now c.args.corners.now c.args.cells.now c.args.doors.now) c.if-reply-lt7.true

pub returns : goal.returns
unfolding read_left
returns c = all_left (c.args.corners.now, (c.args.cells.now, c.args.doors.now)) c.args.reply.now c.if-reply-lt7.false c.read-answer.ensures.numbers c.put.ensures
