-- `overlap::pair::WithBoxes::past_the_apart` meets its contract.
use mathlib.Core.Bool.{Bool, true, false, not, ◌&&◌}
use mathlib.Core.List.{List}
use mathlib.Core.Path.{◌≡◌, refl}
use Prim.Native.Nat.{ℕ, ◌<◌}
use lib.IntN.{ℤ}
use lib.ListN.{get_or}
use Rattle.std.proofs.Common.{rules}
use Rattle.std.proofs.lemmas.Iterator.{first_from_Range}
use Rattle.std.specs.Bool.{⊤}
use Rattle.plane.specs.Side.{Point, point}
use Rattle.cells.specs.Lists.{Cells, cell_count}
use Rattle.cells.specs.Check.{overlapping}
use Rattle.cells.proofs.Faces.{SideOf}
use Rattle.face.specs.Tables.{tables}
use Rattle.boxes.specs.Boxes.{Boxed, box_at, meeting}
use Rattle.boxes.specs.declared.Bounds.{Bounds}
use Rattle.overlap.specs.Search.{Ready, cut_off, EndsOf}
use Rattle.overlap.proofs.Pairs.{cut_off_apart}
use Rattle.overlap.proofs.Settled.{apart_before}
use Rattle.overlap.proofs.Boxed.{boxes_apart}
use Rattle.overlap.proofs.pair.WithBoxes.past_the_apart.Goals as goal

-- a cell that may not overlap c, by its box and by the ends of a side of c, does not
told_apart : {cs : List ℤ} {T : Cells} → Ready cs T → {bs : List ℤ} → Boxed cs T bs → {c f : ℕ} {own : Bounds} {a b : Point} → c < cell_count T → SideOf T c f → own ≡ box_at bs c → EndsOf cs T f a b → (e : ℕ) → e < cell_count T → (meeting own (box_at bs e) && not (cut_off cs T a b e)) ≡ false → overlapping cs T c e ≡ false
told_apart {cs} {T} R {bs} B {c} {f} {own} {a} {b} h s is_own E e k = by_test (meeting own (box_at bs e)) (cut_off cs T a b e) refl refl
  where
    by_test : (m t : Bool) → meeting own (box_at bs e) ≡ m → cut_off cs T a b e ≡ t → (m && not t) ≡ false → overlapping cs T c e ≡ false
    by_test m true is_m is_t fails = cut_off_apart R h s E e is_t
    by_test false t is_m is_t fails = boxes_apart R B c e h k (rw (← is_own) is_m)
    by_test true false is_m is_t fails = absurd cc

pub returns : goal.returns
returns c = let all = c.args.self.now in
    let own = c.read-own.result in
    let ends = c.ends-ends.result in
    let may = λ (i : ℕ). meeting own (box_at all.boxes.now (get_or c.args.list.now i 0)) && not (cut_off all.corners.now (tables all.cells) (point ends.from) (point ends.towards) (get_or c.args.list.now i 0)) in
    apart_before all.corners.now (tables all.cells) _ c.args.c may
    (λ k h. told_apart all.ready all.boxed c.requires.c_bound c.requires.side_of c.read-own.ensures c.ends-ends.ensures _ (c.requires.listed.exists k h))
    c.requires.from_in_bounds _
    (first_from_Range _ _ _ _ (λ i. ⊤) (λ i. may i ≡ false) c.find.ensures.ran (λ x q k. tt) (λ x q k. search rules))
