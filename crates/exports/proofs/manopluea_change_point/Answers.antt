-- `exports::manopluea_change_point` meets its contract.
use mathlib.Core.Path.{ap, ◌∙◌}
use Rattle.stand.specs.declared.spot.Stand.TheVariants.{Point}
use Rattle.sight.specs.declared.view.Query.{Query}
use Rattle.manopluea.specs.Calls.{change_replies}
use Rattle.exports.specs.Reply.{query, change_left}
use Rattle.exports.proofs.Replies.{none_left, all_left}
use Rattle.exports.proofs.manopluea_change_point.Goals as goal

pub returns-then-reply-lt7 : goal.returns-then-reply-lt7
unfolding change_left
returns-then-reply-lt7 c = none_left c.args.table.now c.args.reply.now (change_replies c.args.kind c.args.corners.now c.args.cells.now c.args.doors.now (query c.args.setting (Point c.args.x c.args.y) c.args.stated c.args.reach) c.args.given.now c.args.door c.args.shut c.args.table.now) c.if-reply-lt7.true

pub returns : goal.returns
unfolding change_left
returns c = all_left c.args.table.now c.args.reply.now c.if-reply-lt7.false
    (c.change-answer.ensures.numbers
    ∙ ap (λ (q : Query). change_replies c.args.kind c.args.corners.now c.args.cells.now c.args.doors.now q c.args.given.now c.args.door c.args.shut c.args.table.now) c.query_of.ensures)
    c.put.ensures
