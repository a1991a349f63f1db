-- A cell's sides in the tables: the next one.
use mathlib.Core.List.{List}
use mathlib.Core.Path.{◌≡◌, sym, ◌∙◌}
use Prim.Native.Nat.{ℕ, suc, ◌+◌, ◌<◌}
use native.Mathlib.Decide.{dec_lt}
use native.Mathlib.Numerals.{add-one}
use native.Mathlib.Omega.{arith}
use borrow.Author.Tests.{eq-eqb, ne_eqb}
use Rattle.cells.specs.Lists.{Cells, cell_count, face_count, first, next}
use Rattle.cells.specs.Sound.{Numbered}
use Rattle.cells.proofs.Faces.{SideOf, side_exists, next_is_a_side, next_goes_on, next_comes_round}
use Rattle.cells.specs.Lists.{tabled}
use Rattle.face.specs.Tables.{around}

-- tables drawn of cells stand for them
pub drawn : {T : Cells} {fs gs : List ℕ} → fs ≡ T.faces → gs ≡ T.firsts → tabled fs gs ≡ T
drawn e n = rw (e, n)

-- ---- the side after a side, by what was read

pub comes_round : (a b f : ℕ) → f + 1 ≡ b → around a b f ≡ a
unfolding around
comes_round a b f h = rw (eq-eqb (suc f) b (sym (add-one f) ∙ h), around)

pub goes_on : (a b f : ℕ) → (f + 1 ≡ b → ⊥) → around a b f ≡ f + 1
unfolding around
goes_on a b f h = rw (ne_eqb (suc f) b (λ e. h (add-one f ∙ e)), around) (sym (add-one f))

around_is_next : {T : Cells} → Numbered T → {c f : ℕ} → c < cell_count T → SideOf T c f → around (first T c) (first T (suc c)) f ≡ next T f
around_is_next {T} N {c} {f} h s = by_place (dec_lt (suc f) (first T (suc c)))
  where
    by_place : Dec (suc f < first T (suc c)) → around (first T c) (first T (suc c)) f ≡ next T f
    by_place (yes k) = goes_on _ _ f (λ e. omega arith) ∙ add-one f ∙ sym (next_goes_on N h s k)
    by_place (no k) =
        let last : suc f ≡ first T (suc c) = omega (arith, s.not_after) in
        comes_round _ _ f (add-one f ∙ last) ∙ sym (next_comes_round N h s last)

module _ {T : Cells} (N : Numbered T) {c f n : ℕ} (h : c < cell_count T) (s : SideOf T c f) (is_n : n ≡ around (first T c) (first T (suc c)) f) where
  pub read_next : n ≡ next T f
  read_next = is_n ∙ around_is_next N h s

  pub next_exists : n < face_count T
  next_exists = rw read_next (side_exists N h (next_is_a_side N h s))
