-- One record and three: when they are refused. And what is known of a framed file.
use mathlib.Core.Bool.{Bool, true, false}
use mathlib.Core.List.{List}
use mathlib.Core.Logic.{◌⊎◌, inl, inr}
use mathlib.Core.Path.{◌≡◌, refl, sym, ◌∙◌}
use Prim.Native.Nat.{ℕ, ◌+◌, ◌%◌, ◌<◌, ◌≤◌}
use native.Mathlib.Omega.{arith}
use borrow.Author.Tests.{ne_eqb, eqb-true}
use lib.Dec.{eqb}
use lib.ListN.{length}
use Rattle.exact.proofs.Truth.{both_true, one_true}
use Rattle.records.specs.Record.{body_length, kind_at, end_of, second, third, is_record, is_cells, framed}

-- ---- one record

module _ (s : List ℕ) (at kind size : ℕ) {k : ℕ} (is_k : k ≡ kind_at s at) where
  pub of_another_kind : (k ≡ kind → ⊥) → false ≡ is_record s at kind size
  unfolding is_record
  of_another_kind h = simp (ne_eqb _ _ (λ e. h (is_k ∙ e)))

-- ---- a list of cells

pub of_triangles : (s : List ℕ) (at : ℕ) {f : Bool} → f ≡ is_record s at 2 12 → f ≡ true → true ≡ is_cells s at
unfolding is_cells
of_triangles s at e h = let k : is_record s at 2 12 ≡ true = sym e ∙ h in simp k

pub of_polygons : (s : List ℕ) (at : ℕ) {f : Bool} → f ≡ is_record s at 2 12 → f ≡ false → {g : Bool} → g ≡ is_record s at 12 2 → g ≡ is_cells s at
unfolding is_cells
of_polygons s at e h is_g = let k : is_record s at 2 12 ≡ false = sym e ∙ h in simp (k, is_g)

-- ---- three records

pub end_after : (s : List ℕ) (at : ℕ) → at + 6 ≤ end_of s at
unfolding end_of
end_after s at = omega arith

pub past_the_end : (s : List ℕ) → length s < end_of s (third s) → false ≡ framed s
unfolding framed
past_the_end s h =
    let k : eqb (end_of s (third s)) (length s) ≡ false = ne_eqb (end_of s (third s)) (length s) (λ e. omega arith) in
    simp k

-- ---- a framed file

-- a record's body, of what its head says
pub record Body (s : List ℕ) (at end kind size : ℕ) : Type 0 where
  pub ends : end ≡ at + 6 + body_length s at
  pub of_kind : kind_at s at ≡ kind
  pub multiple : body_length s at % size ≡ 0

-- a list of cells of kind k in a body of n bytes
pub data OfKind (k n : ℕ) : Type 0 where
  triangles : k ≡ 2 → n % 12 ≡ 0 → OfKind k n
  polygons : k ≡ 12 → n % 2 ≡ 0 → OfKind k n

-- it is numbers of two bytes in either kind
pub even : {k n : ℕ} → OfKind k n → n % 2 ≡ 0
even (triangles e h) = omega arith
even (polygons e h) = h

pub record Framed (s : List ℕ) : Type 0 where
  pub corners : Body s 0 (second s) 1 8
  pub cells : Body s (second s) (third s) (kind_at s (second s)) 2
  pub cells_kind : OfKind (kind_at s (second s)) (body_length s (second s))
  pub doors : Body s (third s) (length s) 3 2

body : (s : List ℕ) (at end kind size : ℕ) → end ≡ end_of s at → is_record s at kind size ≡ true → Body s at end kind size
unfolding end_of is_record
body s at end kind size e h =
    let two = both_true _ _ h in
    record { ends = e; of_kind = eqb-true _ _ two.0; multiple = eqb-true _ _ two.1 }

cells_of_a_kind : (s : List ℕ) (at : ℕ) → is_cells s at ≡ true → OfKind (kind_at s at) (body_length s at)
unfolding is_cells
cells_of_a_kind s at h = by_kind (one_true _ _ h)
  where
    by_kind : (is_record s at 2 12 ≡ true) ⊎ (is_record s at 12 2 ≡ true) → OfKind (kind_at s at) (body_length s at)
    by_kind (inl e) = let b = body s at _ 2 12 refl e in triangles b.of_kind b.multiple
    by_kind (inr e) = let b = body s at _ 12 2 refl e in polygons b.of_kind b.multiple

pub is_framed : (s : List ℕ) → framed s ≡ true → Framed s
unfolding framed end_of
is_framed s h =
    let c = both_true _ _ h in
    let b = both_true _ _ c.0 in
    let a = both_true _ _ b.0 in
    let k = cells_of_a_kind s (second s) b.1 in
    record {
      corners = body s 0 (second s) 1 8 refl a.1;
      cells = record { ends = refl; of_kind = refl; multiple = even k };
      cells_kind = k;
      doors = body s (third s) (length s) 3 2 (sym (eqb-true _ _ a.0)) c.1;
    }
