-- `exports::manopluea_draw_offset` meets its contract.
use mathlib.Core.Path.{ap, ◌∙◌}
use Rattle.stand.specs.declared.spot.Stand.TheVariants.{Offset}
use Rattle.sight.specs.declared.view.Query.{Query}
use Rattle.manopluea.specs.Calls.{draw_replies}
use Rattle.exports.specs.Reply.{query, draw_left}
use Rattle.exports.proofs.Replies.{none_left, all_left}
use Rattle.exports.proofs.manopluea_draw_offset.Goals as goal

pub returns-then-reply-lt7 : goal.returns-then-reply-lt7
unfolding draw_left
returns-then-reply-lt7 c = none_left c.args.offsets.now c.args.reply.now (draw_replies c.args.kind c.args.corners.now c.args.cells.now c.args.doors.now (query c.args.setting (Offset c.args.corner c.args.dx c.args.dy) c.args.stated c.args.reach) c.args.offsets.now) c.if-reply-lt7.true

pub returns : goal.returns
unfolding draw_left
returns c = all_left c.args.offsets.now c.args.reply.now c.if-reply-lt7.false
    (c.draw-answer.ensures.numbers
    ∙ ap (λ (q : Query). draw_replies c.args.kind c.args.corners.now c.args.cells.now c.args.doors.now q c.args.offsets.now) c.query_of.ensures)
    c.put.ensures
