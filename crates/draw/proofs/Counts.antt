-- The counts of a list, by what it is cut into.
use mathlib.Core.List.{List, []}
use mathlib.Core.Path.{◌≡◌, refl, sym, ap, ap₂, ◌∙◌}
use Prim.Native.Nat.{ℕ, ◌/◌, ◌%◌}
use native.Mathlib.Omega.{arith}
use native.Mathlib.Decide.{ℕ_discrete}
use borrow.Author.Tests.{eq-eqb, ne_eqb}
use lib.Dec.{eqb}
use lib.ListN.{length}
use Rattle.std.specs.Prelude.{Some, None}
use Rattle.std.specs.Bool.{then_some}
use Rattle.limits.specs.Limits.{triangles, polygons}
use Rattle.cells.specs.Lists.{cell_count, face_count}
use Rattle.cells.specs.Cut.{Cell, Cut, whole, broken, cut, is_whole, tables}
use Rattle.cells.proofs.Least.{not_both}
use Rattle.cells.proofs.Cuts.{cut_into_triangles, tables_of_cut, other_kind}
use Rattle.cells.proofs.Tables.{cell_count_of, face_count_of, length_of_triangles}
use Rattle.draw.proofs.Passed.{Passed, all_passed}
use Rattle.draw.specs.Counted.{counted}
use Rattle.draw.specs.declared.Sizes.{Sizes}

-- c cells and f faces
abbrev pub sizes : ℕ → ℕ → Sizes
sizes c f = record { cells = c; faces = f }

module _ (k : ℕ) (ts : List ℕ) where
  pub counted_whole : {cs : List Cell} {c f : ℕ} → cut k ts ≡ whole cs → c ≡ cell_count (tables cs) → f ≡ face_count (tables cs) → Some (sizes c f) ≡ counted k ts
  unfolding counted
  counted_whole e is_c is_f =
      rw (ap is_whole e, counted) (ap Some (ap₂ sizes (is_c ∙ ap cell_count (sym (tables_of_cut k ts e))) (is_f ∙ ap face_count (sym (tables_of_cut k ts e)))))

  pub counted_broken : cut k ts ≡ broken → None ≡ counted k ts
  unfolding counted
  counted_broken e = rw (ap is_whole e, counted) refl

  -- a loop has come to the end
  pub all_counted : {rest : List ℕ} {c f : ℕ} {done : List Cell} → Passed k ts rest c f done → length rest ≡ 0 → cut k [] ≡ whole [] → Some (sizes c f) ≡ counted k ts
  all_counted {rest} {c} {f} {done} p h e =
      counted_whole (all_passed p h e) (sym (cell_count_of done ∙ p.cells)) (sym (face_count_of p.polygons ∙ p.sides))

-- kind 2: six numbers a cell, two a face, and nothing besides
module _ (ts : List ℕ) where
  pub triangles_counted : length ts % 6 ≡ 0 → Some (sizes (length ts / 6) (length ts / 2)) ≡ counted triangles ts
  triangles_counted h = by_cut (cut triangles ts) refl
    where
      by_cut : (r : Cut) → cut triangles ts ≡ r → Some (sizes (length ts / 6) (length ts / 2)) ≡ counted triangles ts
      by_cut (whole cs) e = let long = length_of_triangles ts cs e in counted_whole triangles ts e (omega arith) (omega arith)
      by_cut broken e = absurd (not_both (cut_into_triangles (length ts / 6) ts (omega arith)) (ap is_whole e))

  no_triangles_counted : (length ts % 6 ≡ 0 → ⊥) → None ≡ counted triangles ts
  no_triangles_counted h = by_cut (cut triangles ts) refl
    where
      by_cut : (r : Cut) → cut triangles ts ≡ r → None ≡ counted triangles ts
      by_cut (whole cs) e = absurd (h (omega (arith, length_of_triangles ts cs e)))
      by_cut broken e = counted_broken triangles ts e

  pub triangles_or_none : then_some (eqb (length ts % 6) 0) (sizes (length ts / 6) (length ts / 2)) ≡ counted triangles ts
  triangles_or_none = by_rest (ℕ_discrete (length ts % 6) 0)
    where
      by_rest : Dec (length ts % 6 ≡ 0) → then_some (eqb (length ts % 6) 0) (sizes (length ts / 6) (length ts / 2)) ≡ counted triangles ts
      by_rest (yes e) = simp (eq-eqb (length ts % 6) 0 e) (triangles_counted e)
      by_rest (no h) = simp (ne_eqb (length ts % 6) 0 h) (no_triangles_counted h)

-- there is no other kind
pub other_kind_counted : (k : ℕ) (ts : List ℕ) → (k ≡ triangles → ⊥) → (k ≡ polygons → ⊥) → None ≡ counted k ts
other_kind_counted k ts h l = counted_broken k ts (other_kind k ts h l)
