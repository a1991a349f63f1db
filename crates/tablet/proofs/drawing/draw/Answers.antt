-- `tablet::drawing::draw` meets its contract.
use mathlib.Core.List.{List}
use mathlib.Core.Path.{◌≡◌, sym, ap, ◌∙◌}
use Prim.Native.Nat.{ℕ}
use native.Mathlib.Omega.{arith}
use Rattle.limits.proofs.Handed.{handed_on}
use Rattle.tablet.proofs.Drawn.{Told, told, told_refused, told_room, no_stand, read_near, told_far, told_drawn}
use Rattle.tablet.proofs.drawing.draw.Goals as goal
use Rattle.tablet.proofs.drawing.draw.Goals.{After-list, In_ok-counts, In_ok-x}
use Rattle.sight.specs.declared.list.Counts.{Counts}
use Rattle.limits.specs.declared.Refusal.{Refusal}
use Rattle.std.specs.Prelude.{Result, Some}
use Rattle.stand.specs.Spot.{stood}

-- the table that the listing left
abbrev left : After-list → List ℕ
left c = c.list.new.table

-- what its answer of n rows says
t : (c : In_ok-counts) → Told c.args.kind c.args.corners.now c.args.cells.now c.args.doors.now c.args.query c.in_ok-counts.counts.rows c.in_ok-counts.counts.crossings c.list.new.table
t c =
    told c.args.kind c.args.corners.now c.args.cells.now c.args.doors.now c.args.query _
    (ap (λ (a : Result Counts Refusal). (a, c.list.new.table)) (sym c.in_ok-counts.was) ∙ c.list.ensures)

pub returns-then-offsets-corners : goal.returns-then-offsets-corners
returns-then-offsets-corners c = told_room c.args.kind c.args.corners.now c.args.cells.now c.args.doors.now c.args.query (t (goal.at.returns-then-offsets-corners c).In_ok-counts) c.args.offsets.now c.if-offsets-corners.true

pub stand_spot-requires : goal.stand_spot-requires
stand_spot-requires c = (t (goal.at.stand_spot-requires c).In_ok-counts).corners

pub returns-in_err-x : goal.returns-in_err-x
returns-in_err-x c = absurd (no_stand c.args.kind c.args.corners.now c.args.cells.now c.args.doors.now c.args.query (t (goal.at.returns-in_err-x c).In_ok-counts) c.args.offsets.now (sym c.stand_spot.ensures ∙ grind arith))

-- the stand that was read once more
spot : (c : In_ok-x) → stood c.args.corners.now c.args.query.stand ≡ Some (c.in_ok-x.x, c.in_ok-x.y)
spot c = sym c.stand_spot.ensures ∙ grind arith

pub is_any_far-requires : goal.is_any_far-requires
is_any_far-requires c = let k = t (goal.at.is_any_far-requires c).In_ok-counts in
    record { corners_near = (k.corners, read_near c.args.kind c.args.corners.now c.args.cells.now c.args.doors.now c.args.query k c.args.offsets.now (spot (goal.at.is_any_far-requires c).In_ok-x)); rows_in_bounds = omega (arith, k.few_rows, k.few_corners, c.list.auto.table); name_corners = k.named }

pub returns-then-is_any_far : goal.returns-then-is_any_far
returns-then-is_any_far c = told_far c.args.kind c.args.corners.now c.args.cells.now c.args.doors.now c.args.query (t (goal.at.returns-then-is_any_far c).In_ok-counts) c.args.offsets.now (spot (goal.at.returns-then-is_any_far c).In_ok-x) c.if-offsets-corners.false c.is_any_far.ensures c.if-is_any_far.true

pub draw_rows-requires : goal.draw_rows-requires
draw_rows-requires c = let k = t (goal.at.draw_rows-requires c).In_ok-counts in
    record { corners_near = (k.corners, read_near c.args.kind c.args.corners.now c.args.cells.now c.args.doors.now c.args.query k c.args.offsets.now (spot (goal.at.draw_rows-requires c).In_ok-x)); rows_in_bounds = omega (arith, k.few_rows, k.few_corners, c.list.auto.table); name_corners = k.named; room = omega (arith, k.few_rows, c.if-offsets-corners.false); none_far = sym c.is_any_far.ensures ∙ c.if-is_any_far.false }

pub returns-in_err-counts : goal.returns-in_err-counts
returns-in_err-counts c = ap (λ (r : Result Counts Refusal). (r, c.args.offsets.now)) (handed_on c.from_residual.ensures.1) ∙ told_refused c.args.kind c.args.corners.now c.args.cells.now c.args.doors.now c.args.query _ c.args.offsets.now (omega arith) (ap (λ (a : Result Counts Refusal). (a, left (goal.at.returns-in_err-counts c).After-list)) (sym c.in_err-counts.was) ∙ c.list.ensures)

pub returns : goal.returns
returns c = told_drawn c.args.kind c.args.corners.now c.args.cells.now c.args.doors.now c.args.query (t (goal.at.returns c).In_ok-counts) c.args.offsets.now (spot (goal.at.returns c).In_ok-x) c.if-offsets-corners.false c.is_any_far.ensures c.if-is_any_far.false c.draw_rows.ensures
