-- `lines::draw_side` meets its contract.
use mathlib.Core.Path.{refl}
use native.Mathlib.Omega.{arith}
use lib.ListN.{length-set}
use Rattle.lines.specs.Lined.{with_face}
use Rattle.lines.proofs.draw_side.Goals as goal

pub bounds-lines-at-2 : goal.bounds-lines-at-2
bounds-lines-at-2 c = simp length-set (omega arith)

pub bounds-lines-at-3 : goal.bounds-lines-at-3
bounds-lines-at-3 c = simp length-set (omega arith)

pub bounds-lines-at-4 : goal.bounds-lines-at-4
bounds-lines-at-4 c = simp length-set (omega arith)

pub returns : goal.returns
unfolding with_face
returns c = refl
