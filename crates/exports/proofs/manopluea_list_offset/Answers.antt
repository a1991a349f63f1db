-- `exports::manopluea_list_offset` meets its contract.
use mathlib.Core.Path.{ap₂, ◌∙◌}
use Rattle.stand.specs.declared.spot.Stand.TheVariants.{Offset}
use Rattle.sight.specs.declared.view.Query.{Query}
use Rattle.manopluea.specs.Calls.{list_replies}
use Rattle.exports.specs.Reply.{query, list_left}
use Rattle.std.specs.Bool.{then_some}
use Rattle.exports.proofs.Replies.{none_left, all_left}
use Rattle.exports.proofs.manopluea_list_offset.Goals as goal
use Rattle.std.specs.Prelude.{Option, ℕ}

pub returns-then-reply-lt7 : goal.returns-then-reply-lt7
unfolding list_left
returns-then-reply-lt7 c = none_left c.args.table.now c.args.reply.now (list_replies c.args.kind c.args.corners.now c.args.cells.now c.args.doors.now (query c.args.setting (Offset c.args.corner c.args.dx c.args.dy) c.args.stated c.args.reach) (then_some c.args.limited c.args.ceiling) c.args.table.now) c.if-reply-lt7.true

pub returns : goal.returns
unfolding list_left
returns c = all_left c.args.table.now c.args.reply.now c.if-reply-lt7.false
    (c.list-answer.ensures.numbers
    ∙ ap₂ (λ (q : Query) (l : Option ℕ). list_replies c.args.kind c.args.corners.now c.args.cells.now c.args.doors.now q l c.args.table.now) (c.listing_of.ensures.query ∙ c.query_of.ensures) c.listing_of.ensures.ceiling)
    c.put.ensures
