-- `draw::draw` meets its contract.
use mathlib.Core.Bool.{true}
use mathlib.Core.List.{List}
use mathlib.Core.Path.{◌≡◌, sym, subst}
use Prim.Native.Nat.{ℕ, suc, ◌*◌, ◌^◌, ◌<◌}
use lib.ListN.{length}
use Rattle.cells.specs.Lists.{cell_count, face_count}
use Rattle.cells.specs.Cut.{cut, is_whole, cells_of}
use Rattle.cells.proofs.Cuts.{polygons_otherwise}
use Rattle.draw.proofs.draw.Goals as goal

-- a list of kind k that is cut into whole cells, and two tables with room for them
abbrev Asked : List ℕ → List ℕ → List ℕ → ℕ → Type 0
Asked ts fs gs k =
    (is_whole (cut k ts) ≡ true)
    × ((length fs ≡ 2 * face_count (cells_of k ts))
    × ((length gs ≡ suc (cell_count (cells_of k ts)))
    × (face_count (cells_of k ts) < 2 ^ 16)))

-- its tables
abbrev Told : List ℕ → List ℕ → List ℕ → ℕ → Type 0
Told ts fs gs k = (fs ≡ (cells_of k ts).faces) × (gs ≡ (cells_of k ts).firsts)

-- what the table of kind k asks holds of a kind equal to it
asked : (ts fs gs : List ℕ) {k m : ℕ} → k ≡ m → (is_whole (cut k ts) ≡ true) → (length fs ≡ 2 * face_count (cells_of k ts)) → (length gs ≡ suc (cell_count (cells_of k ts))) → face_count (cells_of k ts) < 2 ^ 16 → Asked ts fs gs m
asked ts fs gs e w x y z = subst (Asked ts fs gs) e (w, (x, (y, z)))

pub draw_triangles-requires : goal.draw_triangles-requires
draw_triangles-requires c =
    let r = c.requires in
    let a = asked c.args.cells.now c.args.faces.now c.args.firsts.now c.if-kind-eq-TRIANGLES.true r.cut_whole r.faces_len r.firsts_len r.faces_bound in
    record { cut_whole = a.0; faces_len = a.1.0; firsts_len = a.1.1.0; faces_bound = a.1.1.1 }

pub draw_polygons-requires : goal.draw_polygons-requires
draw_polygons-requires c =
    let r = c.requires in
    let e = polygons_otherwise c.args.kind c.args.cells.now r.cut_whole c.if-kind-eq-TRIANGLES.false in
    let a = asked c.args.cells.now c.args.faces.now c.args.firsts.now e r.cut_whole r.faces_len r.firsts_len r.faces_bound in
    record { cut_whole = a.0; faces_len = a.1.0; firsts_len = a.1.1.0; faces_bound = a.1.1.1 }

-- and its tables are those of that kind
told : (ts : List ℕ) {fs gs : List ℕ} {k m : ℕ} → k ≡ m → fs ≡ (cells_of m ts).faces → gs ≡ (cells_of m ts).firsts → Told ts fs gs k
told ts {fs = fs} {gs = gs} e x y = subst (Told ts fs gs) (sym e) (x, y)

pub returns-then-kind-eq-TRIANGLES : goal.returns-then-kind-eq-TRIANGLES
returns-then-kind-eq-TRIANGLES c =
    let l = c.draw_triangles in
    let t = told c.args.cells.now c.if-kind-eq-TRIANGLES.true l.ensures.faces_after l.ensures.firsts_after in
    record { faces_after = t.0; firsts_after = t.1 }

pub returns-else-kind-eq-TRIANGLES : goal.returns-else-kind-eq-TRIANGLES
returns-else-kind-eq-TRIANGLES c =
    let l = c.draw_polygons in
    let e = polygons_otherwise c.args.kind c.args.cells.now c.requires.cut_whole c.if-kind-eq-TRIANGLES.false in
    let t = told c.args.cells.now e l.ensures.faces_after l.ensures.firsts_after in
    record { faces_after = t.0; firsts_after = t.1 }
