-- `printing::print_input` meets its contract.
use mathlib.Core.Path.{sym, ◌∙◌}
use native.Mathlib.Omega.{arith}
use Rattle.printing.proofs.Answers.{begins_whole, rest, too_long, by_point, by_offset, no_query}
use Rattle.printing.proofs.print_input.Goals as goal

pub returns-then-input-gt-MOST_INPUT : goal.returns-then-input-gt-MOST_INPUT
returns-then-input-gt-MOST_INPUT c = too_long _ c.if-input-gt-MOST_INPUT.true c.put_refusal.ensures

pub f64_at-requires : goal.f64_at-requires
f64_at-requires c = omega (arith, begins_whole c.args.input.now 4 24 (sym c.begins.ensures ∙ c.if-begins.true))

pub f64_at-requires-then-begins : goal.f64_at-requires-then-begins
f64_at-requires-then-begins c = omega (arith, begins_whole c.args.input.now 4 24 (sym c.begins.ensures ∙ c.if-begins.true))

pub slice_bounds-print_file-count : goal.slice_bounds-print_file-count
slice_bounds-print_file-count c = omega (arith, begins_whole c.args.input.now 4 24 (sym c.begins.ensures ∙ c.if-begins.true))

pub slice_bounds-print_file-start : goal.slice_bounds-print_file-start
slice_bounds-print_file-start c = omega (arith, begins_whole c.args.input.now 4 24 (sym c.begins.ensures ∙ c.if-begins.true))

pub u64_at-requires : goal.u64_at-requires
u64_at-requires c = omega (arith, begins_whole c.args.input.now 4 24 (sym c.begins.ensures ∙ c.if-begins.true))

pub returns-then-begins : goal.returns-then-begins
returns-then-begins c = by_point c.args.input.now c.if-input-gt-MOST_INPUT.false (sym c.begins.ensures ∙ c.if-begins.true) c.u64_at.ensures c.f64_at.ensures c.f64_at-then-begins.ensures (rest c.args.input.now 30) c.print_file.ensures

pub two-corner-requires : goal.two-corner-requires
two-corner-requires c = omega (arith, begins_whole c.args.input.now 5 26 (sym c.begins-2.ensures ∙ c.if-begins-2.true))

pub f64_at-requires-then-begins-2 : goal.f64_at-requires-then-begins-2
f64_at-requires-then-begins-2 c = omega (arith, begins_whole c.args.input.now 5 26 (sym c.begins-2.ensures ∙ c.if-begins-2.true))

pub f64_at-requires-then-begins-2-2 : goal.f64_at-requires-then-begins-2-2
f64_at-requires-then-begins-2-2 c = omega (arith, begins_whole c.args.input.now 5 26 (sym c.begins-2.ensures ∙ c.if-begins-2.true))

pub slice_bounds-print_file-count-then-begins-2 : goal.slice_bounds-print_file-count-then-begins-2
slice_bounds-print_file-count-then-begins-2 c = omega (arith, begins_whole c.args.input.now 5 26 (sym c.begins-2.ensures ∙ c.if-begins-2.true))

pub slice_bounds-print_file-start-then-begins-2 : goal.slice_bounds-print_file-start-then-begins-2
slice_bounds-print_file-start-then-begins-2 c = omega (arith, begins_whole c.args.input.now 5 26 (sym c.begins-2.ensures ∙ c.if-begins-2.true))

pub u64_at-requires-then-begins-2 : goal.u64_at-requires-then-begins-2
u64_at-requires-then-begins-2 c = omega (arith, begins_whole c.args.input.now 5 26 (sym c.begins-2.ensures ∙ c.if-begins-2.true))

pub returns-then-begins-2 : goal.returns-then-begins-2
returns-then-begins-2 c = by_offset c.args.input.now c.if-input-gt-MOST_INPUT.false (sym c.begins.ensures ∙ c.if-begins.false) (sym c.begins-2.ensures ∙ c.if-begins-2.true) c.u64_at-then-begins-2.ensures c.two-corner.ensures c.f64_at-then-begins-2.ensures c.f64_at-then-begins-2-2.ensures (rest c.args.input.now 32) c.print_file-then-begins-2.ensures

pub returns : goal.returns
returns c = no_query c.args.input.now c.if-input-gt-MOST_INPUT.false (sym c.begins.ensures ∙ c.if-begins.false) (sym c.begins-2.ensures ∙ c.if-begins-2.false) c.put_refusal-2.ensures
