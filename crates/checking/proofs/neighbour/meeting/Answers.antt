-- `checking::neighbour::meeting` meets its contract: cell d answers no side of cell c passed, and no side of d passed answers the side of c at hand.
use mathlib.Core.Path.{sym, ◌∙◌}
use native.Mathlib.Omega.{arith}
use Rattle.cells.proofs.Faces.{side_exists, home_is}
use Rattle.checking.proofs.Cells.{side_from}
use Rattle.checking.proofs.Meetings.{answers_where_reversed, names_another_cell, one_asked, one_more, passed_by, met, unmet}
use Rattle.checking.proofs.neighbour.meeting.Goals as goal
use Rattle.checking.proofs.neighbour.meeting.Goals.{else-neighbour-c-via-then-neighbour-c+else-is_reversed, else-neighbour-c-via-else-neighbour-c, then-neighbour-d+else-loop-g-test, else-neighbour-d}

pub neighbour-requires : goal.neighbour-requires
neighbour-requires c = side_exists c.args.cells.now.numbered c.requires.c_bound (side_from c.first-f.ensures c.end-f-end.ensures c.loop-f.auto.f c.loop-f-test.true)

pub neighbour-requires-in-loop-g : goal.neighbour-requires-in-loop-g
neighbour-requires-in-loop-g c = side_exists c.args.cells.now.numbered c.requires.d_bound (side_from c.first-g.ensures c.end-g-end.ensures c.loop-g.auto.g c.loop-g-test.true)

pub loop-g-preserved : goal.loop-g-preserved
loop-g-preserved c =
    let at_home = home_is c.args.cells.now.numbered c.requires.c_bound (side_from c.first-f.ensures c.end-f-end.ensures c.loop-f.auto.f c.loop-f-test.true) in
    one_asked c.loop-g.invariant
    (elim c.else-neighbour-c.branch [
      | else-neighbour-c-via-then-neighbour-c+else-is_reversed w ↦ answers_where_reversed _ _ _ at_home (sym c.neighbour-in-loop-g.ensures ∙ w.if-neighbour-c.true) w.is_reversed.ensures ∙ w.if-is_reversed.false
      | else-neighbour-c-via-else-neighbour-c w ↦ names_another_cell _ _ _ at_home (λ e. w.if-neighbour-c.false (c.neighbour-in-loop-g.ensures ∙ e))
    ])

pub loop-f-preserved : goal.loop-f-preserved
loop-f-preserved c =
    one_more c.loop-f.invariant (λ e a.
    elim c.if-neighbour-d.branch [
      | then-neighbour-d+else-loop-g-test w ↦ passed_by w.loop-g.invariant (omega (arith, w.end-g-end.ensures, w.loop-g-test.false)) e a
      | else-neighbour-d w ↦ w.if-neighbour-d.false (c.neighbour.ensures ∙ e)
    ])

pub returns-then-is_reversed : goal.returns-then-is_reversed
returns-then-is_reversed c =
    let side_of_c = side_from c.first-f.ensures c.end-f-end.ensures c.loop-f.auto.f c.loop-f-test.true in
    let side_of_d = side_from c.first-g.ensures c.end-g-end.ensures c.loop-g.auto.g c.loop-g-test.true in
    let answer = answers_where_reversed _ _ _ (home_is c.args.cells.now.numbered c.requires.c_bound side_of_c) (sym c.neighbour-in-loop-g.ensures ∙ c.if-neighbour-c.true) c.is_reversed.ensures ∙ c.if-is_reversed.true in
    met c.args.cells.now.numbered c.requires.c_bound side_of_c (sym c.neighbour.ensures ∙ c.if-neighbour-d.true) c.loop-g.invariant side_of_d answer

pub returns-after-loop-f : goal.returns-after-loop-f
returns-after-loop-f c = unmet c.args.cells.now.numbered c.requires.c_bound c.loop-f.invariant (omega (arith, c.end-f-end.ensures, c.loop-f-test.false))
