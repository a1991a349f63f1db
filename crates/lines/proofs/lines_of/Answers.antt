-- `lines::lines_of` meets its contract.
use native.Mathlib.Omega.{arith}
use Rattle.cells.proofs.Plans.{counts, faces_at_most}
use Rattle.lines.proofs.lines_of.Goals as goal

pub draw-requires-clause-few_faces : goal.draw-requires-clause-few_faces
draw-requires-clause-few_faces c = omega (arith, faces_at_most c.args.cells.now.numbered, (counts _ _ _ c.requires.sound_cells.sound.in_size).cells_at_most)
