-- `morning::list_one` meets its contract.
use mathlib.Core.Path.{ap, sym, ◌∙◌}
use Rattle.std.specs.Prelude.{Result}
use Rattle.limits.specs.declared.Refusal.{Refusal}
use Rattle.limits.proofs.Handed.{handed_on}
use Rattle.sight.specs.declared.list.Counts.{Counts}
use Rattle.morning.proofs.OverLines.{corners_seen_asked, stand_refused, lines_asked, stand_listed}
use Rattle.morning.proofs.list_one.Goals as goal

pub see-requires : goal.see-requires
see-requires c = record { corners_near = corners_seen_asked c.args.plan.now.sound c.args.setting c.args.reach c.args.stand (sym c.view_of_stand.ensures ∙ c.in_ok-view.was); seen_len = c.requires.seen_len }

pub list_up_to-requires : goal.list_up_to-requires
list_up_to-requires c = let parts = lines_asked c.args.plan.now.sound c.args.setting c.args.reach c.args.stand (sym c.view_of_stand.ensures ∙ c.in_ok-view.was) c.range-range.ensures c.requires.lined c.see.ensures c.args.table.now c.requires.corners_in_bounds in
    record { lines = parts.0; stands_in = parts.1.0; whole = parts.1.1.0; p_in_bounds = parts.1.1.1.0; p_bound = parts.1.1.1.1 }

pub returns-in_err-view : goal.returns-in_err-view
returns-in_err-view c = ap (λ (r : Result Counts Refusal). (r, c.args.table.now)) (handed_on c.from_residual.ensures.1) ∙ stand_refused _ _ _ c.args.setting c.args.reach c.args.ceiling c.args.stand c.args.table.now (sym c.view_of_stand.ensures ∙ c.in_err-view.was)

pub returns : goal.returns
returns c = stand_listed c.args.plan.now.sound c.args.setting c.args.reach c.args.stand (sym c.view_of_stand.ensures ∙ c.in_ok-view.was) c.range-range.ensures c.requires.lined c.see.ensures c.args.table.now c.requires.corners_in_bounds c.args.ceiling c.list_up_to.ensures
