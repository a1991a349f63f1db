-- `overlap::pair::WithBoxes::against_later` meets its contract.
use mathlib.Core.Path.{sym, ap, ◌∙◌}
use native.Mathlib.Omega.{arith}
use Rattle.std.specs.Prelude.{is_some}
use Rattle.face.specs.Tables.{tables}
use Rattle.overlap.proofs.Pairs.{whether_separated, it_is_a_side, separated}
use Rattle.overlap.proofs.Settled.{nothing_new, apart_passes, against_those_apart, against_one_more}
use Rattle.overlap.proofs.pair.WithBoxes.against_later.Goals as goal
use Rattle.overlap.proofs.pair.WithBoxes.against_later.Goals.{in-Some-separating, in-None}

pub with_pair-least-requires-clause-by_no_side : goal.with_pair-least-requires-clause-by_no_side
with_pair-least-requires-clause-by_no_side c = sym (whether_separated c.args.self.now.corners.now (tables c.args.self.now.cells) _ _ c.separating.ensures) ∙ ap is_some c.in-None.is

pub loop-i-preserved : goal.loop-i-preserved
loop-i-preserved c = let cs = c.args.self.now.corners.now in
    let T = tables c.args.self.now.cells in
    let inv = c.loop-i.invariant in
    let here = c.in-Some.ensures in
    let before = against_those_apart inv.1.1 here.1 in
    elim c.match-separating.branch [
      | in-Some-separating w ↦
          let by_side = w.in-Some-separating.is in
          let apart = separated cs T _ _ (sym (whether_separated cs T _ _ c.separating.ensures) ∙ ap is_some by_side) in
          (rw w.k-is (it_is_a_side cs T _ _ c.separating.ensures by_side), (omega (arith, here.0), rw w.least-is (against_one_more before (nothing_new _) (apart_passes cs T _ _ apart))))
      | in-None w ↦ (rw w.k-is inv.0, (omega (arith, here.0), rw w.least-is (against_one_more before w.with_pair-least.ensures.found w.with_pair-least.ensures.passes)))
    ]
