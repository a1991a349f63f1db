-- `checking::cell::is_left` meets its contract.
use Rattle.checking.proofs.Cells.{corners_near, left_by_points}
use Rattle.checking.proofs.cell.is_left.Goals as goal

pub is_right-requires : goal.is_right-requires
is_right-requires c = corners_near c.args.corners.now _ _ _ _ _ _ c.at.ensures c.at-2.ensures c.at-3.ensures c.requires.corners_near c.requires.a_bound c.requires.b_bound c.requires.d_bound

pub returns : goal.returns
returns c = left_by_points c.args.corners.now _ _ _ c.at.result c.at-2.result c.at-3.result c.at.ensures c.at-2.ensures c.at-3.ensures c.is_right.ensures
