-- `exports::manopluea_print` meets its contract.
use Rattle.printing.specs.Reply.{print_replies}
use Rattle.exports.specs.Reply.{print_left}
use Rattle.exports.proofs.Replies.{none_left, all_left}
use Rattle.exports.proofs.manopluea_print.Goals as goal

pub returns-then-reply-lt7 : goal.returns-then-reply-lt7
unfolding print_left
returns-then-reply-lt7 c = none_left c.args.text.now c.args.reply.now (print_replies c.args.input.now c.args.text.now) c.if-reply-lt7.true

pub returns : goal.returns
unfolding print_left
returns c = all_left c.args.text.now c.args.reply.now c.if-reply-lt7.false c.print-answer.ensures.numbers c.put.ensures
