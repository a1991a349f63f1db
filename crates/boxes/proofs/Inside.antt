-- Cells and their boxes: a point strictly inside a cell is strictly inside its box (document 02, A7), and a point on or inside a cell is in its box, whose
-- border belongs to it (A3).
use mathlib.Core.Bool.{false}
use mathlib.Core.List.{List, [], ◌∷◌}
use mathlib.Core.Path.{◌≡◌}
use Prim.Native.Nat.{ℕ, ◌<◌}
use native.Mathlib.Omega.{arith}
use lib.IntN.{ℤ, pos, neg_ℤ, ◌+ℤ◌, ◌-ℤ◌, ◌*ℤ◌}
use lib.Signed.{◌<ℤ◌, ◌≤ℤ◌, lt_z_yes}
use Rattle.exact.proofs.Order.{𝟘, le_ltZ, positive_sum, less_is_at_most}
use Rattle.exact.proofs.Outweigh.{Outweighs, outweighs}
use Rattle.exact.proofs.Solver.{solve, ◌⊕◌, ◌⊖◌, ◌⊗◌}
use Rattle.exact.proofs.Solver.Expr.{var, lit, neg}
use Rattle.exact.proofs.Certificate.{prove, ◌≺◌, ◌≼◌, ◌⊞◌, ◌⊠◌}
use Rattle.exact.proofs.Certificate.Cert.{given, one_less}
use Rattle.exact.proofs.Certificate.Proof.{only}
use Rattle.plane.specs.Side.{Point, side}
use Rattle.plane.specs.Cone.{dot, scaled}
use Rattle.plane.proofs.Quote.{Pointᵉ, coordinates, pt, 𝟘ᵉ, dotᵉ, scaledᵉ, sideᵉ}
use Rattle.convex.specs.Shape.{Convex}
use Rattle.convex.proofs.Below.{strictly_below}
use Rattle.cells.specs.Lists.{Cells, cell_count, next}
use Rattle.cells.specs.Overlap.{StrictlyIn}
use Rattle.cells.specs.Sound.{Numbered, CellsRight}
use Rattle.cells.proofs.Faces.{SideOf}
use Rattle.cells.proofs.Cells.{at}
use Rattle.apart.proofs.Shapes.{shape, three_sides, at_each_place, goes_round, is_convex}
use Rattle.apart.proofs.Test.{inside_its_shape, inside_the_cell}
use Rattle.boxes.specs.Boxes.{Holds, HoldsCell, past}
use Rattle.boxes.specs.declared.Bounds.{Bounds}

-- ---- a point strictly inside a cell

-- is strictly inside its box
pub record Within (b : Bounds) (x y w : ℤ) : Type 0 where
  pub right_of : (b.left *ℤ w) <ℤ x
  pub left_of : x <ℤ (b.right *ℤ w)
  pub above : (b.low *ℤ w) <ℤ y
  pub below : y <ℤ (b.high *ℤ w)

abbrev rightwards : Point
rightwards = record { x = pos 1; y = pos 0 }

abbrev upwards : Point
upwards = record { x = pos 0; y = pos 1 }

rightwards_is_x : (p : Point) → dot rightwards p ≡ p.x
unfolding dot
rightwards_is_x p = solve (coordinates (p ∷ [])) (dotᵉ (record { x = lit (pos 1); y = 𝟘ᵉ }) (pt 0)) (var 0) tt

upwards_is_y : (p : Point) → dot upwards p ≡ p.y
unfolding dot
upwards_is_y p = solve (coordinates (p ∷ [])) (dotᵉ (record { x = 𝟘ᵉ; y = lit (pos 1) }) (pt 0)) (var 1) tt

abbrev against : Point → Point
against t = record { x = neg_ℤ t.x; y = neg_ℤ t.y }

abbrev againstᵉ : Pointᵉ
againstᵉ = record { x = neg (var 0); y = neg (var 1) }

against_is_as_long : (t : Point) → 𝟘 <ℤ dot t t → 𝟘 <ℤ dot (against t) (against t)
unfolding dot
against_is_as_long t =
    prove (coordinates (t ∷ [])) ((𝟘ᵉ ≺ dotᵉ (pt 0) (pt 0)) ∷ []) (𝟘ᵉ ≺ dotᵉ againstᵉ againstᵉ) (only (given 0 ⊞ given 1)) tt

not_less_against : (t p : Point) (g : ℤ) → g ≤ℤ dot t p → dot (against t) p ≤ℤ neg_ℤ g
unfolding dot
not_less_against t p g =
    prove (coordinates (t ∷ p ∷ record { x = g; y = g } ∷ [])) ((var 4 ≼ dotᵉ (pt 0) (pt 1)) ∷ []) (dotᵉ againstᵉ (pt 1) ≼ neg (var 4)) (only (given 0 ⊞ given 1)) tt

more_than_against : (t p : Point) (g w : ℤ) → dot (against t) p <ℤ (neg_ℤ g *ℤ w) → (g *ℤ w) <ℤ dot t p
unfolding dot
more_than_against t p g w =
    prove (coordinates (t ∷ p ∷ record { x = g; y = w } ∷ [])) ((dotᵉ againstᵉ (pt 1) ≺ neg (var 4) ⊗ var 5) ∷ []) (var 4 ⊗ var 5 ≺ dotᵉ (pt 0) (pt 1)) (only (given 0 ⊞ given 1)) tt

module _ (cs : List ℤ) {T : Cells} (N : Numbered T) {c : ℕ} (h : c < cell_count T) {b : Bounds} (box : HoldsCell cs T c b) {x y w : ℤ} (positive : 𝟘 <ℤ w) (i : StrictlyIn cs T c x y w) where
  -- below every line that no corner is above
  bounded : (t : Point) → 𝟘 <ℤ dot t t → (g : ℤ) → ((p : Point) → Holds b p → dot t p ≤ℤ g) → dot t (record { x = x; y = y }) <ℤ (g *ℤ w)
  unfolding shape
  bounded t long g each =
      strictly_below (goes_round cs N h) (omega (arith, three_sides cs N h)) t g
      (at_each_place cs N h (λ p q. dot t p ≤ℤ g) (λ f s. each (at cs T f) (box.corners f s.not_before s.not_after)))
      long positive (inside_its_shape cs N h i)

  between : (t : Point) → 𝟘 <ℤ dot t t → (l g : ℤ) → ((p : Point) → Holds b p → (l ≤ℤ dot t p) × (dot t p ≤ℤ g)) → ((l *ℤ w) <ℤ dot t (record { x = x; y = y })) × (dot t (record { x = x; y = y }) <ℤ (g *ℤ w))
  between t long l g each = (
    more_than_against t _ l w (bounded (against t) (against_is_as_long t long) (neg_ℤ l) (λ p k. not_less_against t p l (each p k).0)),
    bounded t long g (λ p k. (each p k).1),
  )

  pub strictly_in_its_box : Within b x y w
  strictly_in_its_box =
      let across = between rightwards long b.left b.right (λ p k. rw (rightwards_is_x p) (k.not_left, k.not_right)) in
      let up = between upwards long' b.low b.high (λ p k. rw (upwards_is_y p) (k.not_below, k.not_above)) in
      record {
        right_of = rw (rightwards_is_x _) at across.0;
        left_of = rw (rightwards_is_x _) at across.1;
        above = rw (upwards_is_y _) at up.0;
        below = rw (upwards_is_y _) at up.1;
      }
    where
      long : 𝟘 <ℤ dot rightwards rightwards
      long = rw (rightwards_is_x rightwards) (lt_z_yes tt)

      long' : 𝟘 <ℤ dot upwards upwards
      long' = rw (upwards_is_y upwards) (lt_z_yes tt)

-- ---- a point on or inside a cell

-- n times a point on or left of a side and a point strictly left of it, together, are strictly left of it
left_together : (a b q : Point) (x y w n : ℤ) → 𝟘 <ℤ w → 𝟘 <ℤ n → 𝟘 ≤ℤ side a b q → 𝟘 <ℤ side (scaled w a) (scaled w b) (record { x = x; y = y }) → 𝟘 <ℤ side (scaled (n +ℤ w) a) (scaled (n +ℤ w) b) (record { x = n *ℤ q.x +ℤ x; y = n *ℤ q.y +ℤ y })
unfolding side scaled
left_together a b q x y w n =
    prove (coordinates (a ∷ b ∷ q ∷ record { x = x; y = y } ∷ record { x = w; y = n } ∷ [])) ((𝟘ᵉ ≺ var 8) ∷ (𝟘ᵉ ≺ var 9) ∷ (𝟘ᵉ ≼ sideᵉ (pt 0) (pt 1) (pt 2)) ∷ (𝟘ᵉ ≺ sideᵉ (scaledᵉ (var 8) (pt 0)) (scaledᵉ (var 8) (pt 1)) (pt 3)) ∷ []) (𝟘ᵉ ≺ sideᵉ (scaledᵉ (var 9 ⊕ var 8) (pt 0)) (scaledᵉ (var 9 ⊕ var 8) (pt 1)) (record { x = var 9 ⊗ var 4 ⊕ var 6; y = var 9 ⊗ var 5 ⊕ var 7 })) (only (given 1 ⊠ given 0 ⊞ (given 2 ⊞ given 1) ⊠ (given 2 ⊠ given 1 ⊠ given 3 ⊞ given 4))) tt

-- what is bounded together with every multiple is bounded alone
module _ (l z x w : ℤ) where
  not_less_alone : ((n : ℤ) → 𝟘 <ℤ n → (l *ℤ (n +ℤ w)) <ℤ (n *ℤ z +ℤ x)) → l ≤ℤ z
  not_less_alone each =
      prove (l ∷ z ∷ x ∷ w ∷ far.n ∷ []) ((var 0 ⊗ (var 4 ⊕ var 3) ≺ var 4 ⊗ var 1 ⊕ var 2) ∷ (𝟘ᵉ ≺ var 4) ∷ (𝟘ᵉ ≺ var 4 ⊕ (var 0 ⊗ var 3 ⊖ var 2)) ∷ []) (var 0 ≼ var 1) (only (given 1 ⊞ given 2 ⊠ one_less (given 0) ⊞ given 3)) tt (each far.n far.positive) far.positive (far.each 0 (omega arith))
    where
      far : Outweighs (λ _. l *ℤ w -ℤ x) 1
      far = outweighs (λ _. l *ℤ w -ℤ x) 1

  not_more_alone : ((n : ℤ) → 𝟘 <ℤ n → (n *ℤ z +ℤ x) <ℤ (l *ℤ (n +ℤ w))) → z ≤ℤ l
  not_more_alone each =
      prove (l ∷ z ∷ x ∷ w ∷ far.n ∷ []) ((var 4 ⊗ var 1 ⊕ var 2 ≺ var 0 ⊗ (var 4 ⊕ var 3)) ∷ (𝟘ᵉ ≺ var 4) ∷ (𝟘ᵉ ≺ var 4 ⊕ (var 2 ⊖ var 0 ⊗ var 3)) ∷ []) (var 1 ≼ var 0) (only (given 1 ⊞ given 2 ⊠ one_less (given 0) ⊞ given 3)) tt (each far.n far.positive) far.positive (far.each 0 (omega arith))
    where
      far : Outweighs (λ _. x -ℤ l *ℤ w) 1
      far = outweighs (λ _. x -ℤ l *ℤ w) 1

-- a point right of no side of a cell is in every box that holds its corners
module _ (cs : List ℤ) {T : Cells} (N : Numbered T) (right : CellsRight cs T) {c : ℕ} (h : c < cell_count T) {b : Bounds} (box : HoldsCell cs T c b) (q : Point) (none : (f : ℕ) → SideOf T c f → 𝟘 ≤ℤ side (at cs T f) (at cs T (next T f)) q) where
  middle : Convex (shape cs T c)
  middle = is_convex cs N h right

  -- drawn towards the cell's middle, by however little, it is strictly inside the cell, and so strictly inside the box
  drawn_inside : (n : ℤ) → 𝟘 <ℤ n → Within b (n *ℤ q.x +ℤ middle.x) (n *ℤ q.y +ℤ middle.y) (n +ℤ middle.w)
  drawn_inside n k =
      let m = inside_the_cell cs N h middle.inside in
      strictly_in_its_box cs N h box (positive_sum k (less_is_at_most middle.positive))
      (record {
        exists = h;
        left_of_each = λ f u v. left_together (at cs T f) (at cs T (next T f)) q middle.x middle.y middle.w n middle.positive k (none f (record { not_before = u; not_after = v })) (m.left_of_each f u v);
      })

  pub in_its_box : Holds b q
  in_its_box =
      record {
        not_left = not_less_alone b.left q.x middle.x middle.w (λ n k. (drawn_inside n k).right_of);
        not_right = not_more_alone b.right q.x middle.x middle.w (λ n k. (drawn_inside n k).left_of);
        not_below = not_less_alone b.low q.y middle.y middle.w (λ n k. (drawn_inside n k).above);
        not_above = not_more_alone b.high q.y middle.y middle.w (λ n k. (drawn_inside n k).below);
      }

-- and what is in a box does not lie past it
pub held_is_not_past : {b : Bounds} {p : Point} → Holds b p → past b p ≡ false
unfolding past
held_is_not_past k = simp (le_ltZ k.not_left, le_ltZ k.not_right, le_ltZ k.not_below, le_ltZ k.not_above)
