-- An accepted plan: no two cells overlap, and at most one holds a stand strictly (document 02, A7).
use mathlib.Core.List.{List, [], ◌∷◌}
use mathlib.Core.Path.{◌≡◌, sym, subst}
use Prim.Native.Nat.{ℕ, ◌<◌}
use native.Mathlib.Decide.{ℕ_discrete}
use lib.IntN.{ℤ, pos}
use lib.Signed.{◌<ℤ◌, lt_z_yes}
use Rattle.exact.proofs.Order.{𝟘}
use Rattle.exact.proofs.Solver.{solve}
use Rattle.exact.proofs.Solver.Expr.{lit}
use Rattle.plane.specs.Side.{Point, side}
use Rattle.plane.specs.Cone.{scaled}
use Rattle.plane.proofs.Quote.{coordinates, pt, scaledᵉ, sideᵉ}
use Rattle.cells.specs.Lists.{Cells, cell_count, next}
use Rattle.cells.specs.Overlap.{StrictlyIn}
use Rattle.cells.specs.Sound.{Sound}
use Rattle.cells.proofs.Faces.{SideOf}
use Rattle.cells.proofs.Least.{not_both}
use Rattle.cells.proofs.Cells.{at}
use Rattle.apart.specs.Refused.{NoPair}
use Rattle.apart.proofs.Test.{overlap_is_told}
use Rattle.apart.proofs.Pairs.{pair_of}

once_is_itself : (a b q : Point) → side (scaled (pos 1) a) (scaled (pos 1) b) q ≡ side a b q
unfolding side scaled
once_is_itself a b q =
    solve (coordinates (a ∷ b ∷ q ∷ [])) (sideᵉ (scaledᵉ (lit (pos 1)) (pt 0)) (scaledᵉ (lit (pos 1)) (pt 1)) (pt 2)) (sideᵉ (pt 0) (pt 1) (pt 2)) tt

-- a whole point strictly left of every side is strictly inside
whole_point_in : (cs : List ℤ) (T : Cells) (q : Point) {c : ℕ} → c < cell_count T → ((f : ℕ) → SideOf T c f → 𝟘 <ℤ side (at cs T f) (at cs T (next T f)) q) → StrictlyIn cs T c q.x q.y (pos 1)
whole_point_in cs T q h left =
    record {
      exists = h;
      left_of_each = λ f l m. subst (λ (z : ℤ). 𝟘 <ℤ z) (sym (once_is_itself (at cs T f) (at cs T (next T f)) q)) (left f (record { not_before = l; not_after = m }));
    }

module _ {cs : List ℤ} {T : Cells} {ds : List ℕ} (sound : Sound cs T ds) where
  pub no_two_overlap : NoPair cs T
  no_two_overlap c e o =
      not_both
      (pair_of cs T c e o.in_other.exists (overlap_is_told cs sound.numbered sound.cells o.in_one.exists o.in_other.exists o))
      (sound.apart c o.in_one.exists)

  -- two cells strictly left of every side of which the stand lies are one
  pub one_cell_holds : (q : Point) {c e : ℕ} → c < cell_count T → e < cell_count T → ((f : ℕ) → SideOf T c f → 𝟘 <ℤ side (at cs T f) (at cs T (next T f)) q) → ((f : ℕ) → SideOf T e f → 𝟘 <ℤ side (at cs T f) (at cs T (next T f)) q) → c ≡ e
  one_cell_holds q {c} {e} h k left also = by_place (ℕ_discrete c e)
    where
      by_place : Dec (c ≡ e) → c ≡ e
      by_place (yes same) = same
      by_place (no other) =
          absurd (no_two_overlap c e (record {
            different = other;
            x = q.x;
            y = q.y;
            w = pos 1;
            positive = lt_z_yes tt;
            in_one = whole_point_in cs T q h left;
            in_other = whole_point_in cs T q k also;
          }))
