-- `overlap::pair::WithBoxes::with_pair` meets its contract.
use mathlib.Core.Path.{sym, ◌∙◌}
use Rattle.face.specs.Tables.{tables}
use Rattle.apart.proofs.Test.{none_separates}
use Rattle.apart.proofs.Pairs.{pair_of}
use Rattle.overlap.proofs.Pairs.{whether_separated, not_itself, separated_back, overlap_back}
use Rattle.overlap.proofs.Settled.{apart_passes, the_lesser}
use Rattle.overlap.proofs.pair.WithBoxes.with_pair.Goals as goal
use Rattle.overlap.proofs.pair.WithBoxes.with_pair.Goals.{then-c-d-via-then-c-d, then-c-d-via-else-c-d+then-is_some}

pub returns-then-c-d-clause-passes : goal.returns-then-c-d-clause-passes
returns-then-c-d-clause-passes c = let cs = c.args.self.now.corners.now in
    let T = tables c.args.self.now.cells in
    elim c.then-c-d.branch [
      | then-c-d-via-then-c-d w ↦ apart_passes cs T _ _ (not_itself cs T _ _ w.if-c-d.true)
      | then-c-d-via-else-c-d+then-is_some w ↦
          apart_passes cs T _ _ (separated_back cs T _ _ (sym (whether_separated cs T _ _ w.separating.ensures) ∙ sym w.is_some.ensures ∙ w.if-is_some.true))
    ]

pub returns-clause-found : goal.returns-clause-found
returns-clause-found c = let cs = c.args.self.now.corners.now in
    let T = tables c.args.self.now.cells in
    let by_no_side_back = sym (whether_separated cs T _ _ c.separating.ensures) ∙ sym c.is_some.ensures ∙ c.if-is_some.false in
    let over = none_separates cs T _ _ c.if-c-d.false c.requires.by_no_side by_no_side_back in
    the_lesser c.args.c c.args.d (pair_of cs T _ _ c.requires.d_bound over) (pair_of cs T _ _ c.requires.c_bound (overlap_back cs T _ _ over)) c.min-lesser.ensures c.min.ensures
