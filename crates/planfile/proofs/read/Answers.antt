-- `planfile::read` meets its contract.
use mathlib.Core.Path.{sym, ◌∙◌}
use lib.Dec.{lit≤}
use Rattle.planfile.proofs.Decodes.{not_framed}
use Rattle.planfile.proofs.read.Goals as goal

pub returns-then-not-is_framed : goal.returns-then-not-is_framed
returns-then-not-is_framed c = not_framed c.args.file.now c.args.corners.now c.args.cells.now c.args.doors.now (sym c.is_framed.ensures ∙ c.if-not-is_framed.true)

pub read_framed-requires : goal.read_framed-requires
read_framed-requires c = record { file_value = sym c.is_framed.ensures ∙ c.if-not-is_framed.false; most_corners_in_bounds = lit≤ tt; most_cells_in_bounds = lit≤ tt; most_doors_in_bounds = lit≤ tt }
