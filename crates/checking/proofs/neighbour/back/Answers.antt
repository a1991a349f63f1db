-- `checking::neighbour::back` meets its contract.
use mathlib.Core.Path.{◌∙◌}
use Prim.Native.Nat.{◌<◌}
use Rattle.cells.specs.Lists.{cell_count}
use Rattle.cells.proofs.Faces.{side_exists}
use Rattle.face.specs.Tables.{tables}
use Rattle.checking.proofs.Meetings.{met_nowhere, met_in_the_cell, met_or_not}
use Rattle.checking.proofs.neighbour.back.Goals as goal
use Rattle.checking.proofs.neighbour.back.Goals.{After-neighbour-d}

-- the neighbour that was read exists
there : (c : After-neighbour-d) → c.neighbour-d.result < cell_count (tables c.args.cells.now)
there c = rw c.neighbour-d.ensures c.requires.neighbour_bound

pub neighbour-d-requires : goal.neighbour-d-requires
neighbour-d-requires c = side_exists c.args.cells.now.numbered c.requires.c_bound c.requires.f_side

pub meeting-requires : goal.meeting-requires
meeting-requires c = record { c_bound = c.requires.c_bound; d_bound = there c }

pub returns-in_err-g : goal.returns-in_err-g
returns-in_err-g c = c.from_residual.ensures ∙ met_nowhere c.args.cells.now.numbered c.requires.meet_once c.requires.c_bound c.requires.f_side (there (goal.at.returns-in_err-g c).After-neighbour-d) c.neighbour-d.ensures c.in_err-g.ensures

pub is_reversed-requires-clause-g_side : goal.is_reversed-requires-clause-g_side
is_reversed-requires-clause-g_side c = met_in_the_cell c.args.cells.now.numbered c.requires.meet_once c.requires.c_bound c.requires.f_side (there (goal.at.is_reversed-requires-clause-g_side c).After-neighbour-d) c.neighbour-d.ensures c.in_ok-g.ensures

pub returns : goal.returns
returns c = c.then_some.ensures ∙ met_or_not c.args.cells.now.numbered c.requires.meet_once c.requires.c_bound c.requires.f_side (there (goal.at.returns c).After-neighbour-d) c.neighbour-d.ensures c.in_ok-g.ensures _ c.is_reversed.ensures
