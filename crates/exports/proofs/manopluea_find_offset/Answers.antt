-- `exports::manopluea_find_offset` meets its contract.
use Rattle.manopluea.specs.Calls.{find_replies}
use Rattle.stand.specs.declared.spot.Stand.TheVariants.{Offset}
use Rattle.exports.specs.Reply.{find_left}
use Rattle.exports.proofs.Replies.{none_replied, all_replied}
use Rattle.exports.proofs.manopluea_find_offset.Goals as goal

pub returns-then-reply-lt7 : goal.returns-then-reply-lt7
unfolding find_left
returns-then-reply-lt7 c = none_replied c.args.reply.now (find_replies c.args.kind c.args.corners.now c.args.cells.now c.args.doors.now c.args.setting (Offset c.args.corner c.args.dx c.args.dy)) c.if-reply-lt7.true

pub returns : goal.returns
unfolding find_left
returns c = all_replied c.args.reply.now c.if-reply-lt7.false c.find-answer.ensures.numbers c.put.ensures
