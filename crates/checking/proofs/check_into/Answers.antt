-- `checking::check_into` meets its contract.
use mathlib.Core.Bool.{true}
use mathlib.Core.Path.{◌≡◌, sym, subst}
use Prim.Native.Nat.{◌*◌, ◌≤◌}
use lib.ListN.{length}
use Rattle.limits.specs.Limits.{sized}
use Rattle.cells.specs.Lists.{Cells, corner_count, cell_count, face_count}
use Rattle.cells.specs.Cut.{cells_of}
use Rattle.cells.specs.Sound.{Numbered}
use Rattle.cells.proofs.Tables.{numbered}
use Rattle.cells.proofs.Checks.{in_a_frame}
use Rattle.cells.proofs.Plans.{counts}
use Rattle.face.proofs.Tables.{drawn}
use Rattle.checking.proofs.Backs.{noted_of}
use Rattle.checking.proofs.Measures.{whole_in_frame, few_faces}
use Rattle.checking.proofs.check_into.Goals as goal

pub draw-requires : goal.draw-requires
draw-requires c = record { cut_whole = whole_in_frame _ _ _ c.requires.cells_value; faces_len = c.requires.faces_len; firsts_len = c.requires.firsts_len; faces_bound = few_faces (numbered c.args.kind c.args.cells.now) (counts _ _ _ c.requires.doors_value).cells_at_most }

pub check_tables-requires : goal.check_tables-requires
check_tables-requires c = let T = cells_of c.args.kind c.args.cells.now in
    let is_T = sym (drawn {T = T} c.draw.ensures.faces_after c.draw.ensures.firsts_after) in
    record { numbered = subst Numbered is_T (numbered c.args.kind c.args.cells.now); doors_value = subst (λ (T : Cells). sized (corner_count c.args.corners.now) (cell_count T) (length c.args.doors.now) ≡ true) is_T c.requires.doors_value; backs_len = subst (λ (T : Cells). length c.args.backs.now ≡ face_count T) is_T c.requires.backs_len; firsts_in_bounds = subst (λ (T : Cells). 4 * cell_count T ≤ length c.args.boxes.now) is_T c.requires.cells_in_bounds }

pub returns : goal.returns
returns c = let cs = c.args.corners.now in
    let ds = c.args.doors.now in
    let T = cells_of c.args.kind c.args.cells.now in
    let is_T = drawn {T = T} c.draw.ensures.faces_after c.draw.ensures.firsts_after in
    record { value = rw (← in_a_frame c.args.kind cs c.args.cells.now ds c.requires.cells_value, ← is_T) c.check_tables.ensures.value; faces_after = c.draw.ensures.faces_after; firsts_after = c.draw.ensures.firsts_after; backed = noted_of is_T c.check_tables.ensures.backed }
