-- The counts of three lists: what was found, and what is known where they are counted.
use mathlib.Core.Bool.{Bool, true, false}
use mathlib.Core.List.{List}
use mathlib.Core.Path.{◌≡◌, refl, ap, ap₂, sym, ◌∙◌}
use Prim.Native.Nat.{ℕ, suc, ◌+◌, ◌*◌, ◌%◌, ◌<◌, ◌≤◌}
use native.Mathlib.Numerals.{add-one}
use native.Mathlib.Omega.{arith}
use borrow.Author.Tests.{eq-eqb, ne_eqb}
use lib.Dec.{eqb}
use lib.ListN.{length, take}
use lib.Seq.{length-take-le}
use lib.IntN.{ℤ}
use Rattle.std.specs.Prelude.{Option, Some, None}
use Rattle.exact.proofs.Truth.{both_true}
use Rattle.limits.specs.Limits.{most_cells, most_sides, sized}
use Rattle.limits.specs.declared.Refusal.{Refusal}
use Rattle.limits.specs.declared.Refusal.TheVariants.{Frame, Size}
use Rattle.cells.specs.Lists.{Cells, corner_count, cell_count, face_count}
use Rattle.cells.specs.Cut.{cut, is_whole, cells_of}
use Rattle.cells.specs.Check.{framed, checked}
use Rattle.cells.specs.Sound.{Numbered}
use Rattle.cells.proofs.Tables.{numbered}
use Rattle.cells.proofs.Plans.{counts, faces_at_most}
use Rattle.cells.proofs.Checks.{not_framed, in_a_frame, out_of_size}
use Rattle.draw.specs.Counted.{counted}
use Rattle.draw.proofs.Counts.{sizes}
use Rattle.checking.specs.Sizes.{sizes_of, Fit}
use Rattle.draw.specs.declared.Sizes.{Sizes}
use Rattle.std.specs.Prelude.{Err, Ok, Result}

-- framed lists are cut into whole cells
pub whole_in_frame : (k : ℕ) (cs : List ℤ) (ts : List ℕ) → framed k cs ts ≡ true → is_whole (cut k ts) ≡ true
unfolding framed
whole_in_frame k cs ts h = (both_true (eqb (length cs % 2) 0) (is_whole (cut k ts)) h).1

-- every face has a number of 16 bits
pub few_faces : {T : Cells} → Numbered T → cell_count T ≤ most_cells → face_count T < 65536
few_faces N h = omega (arith, faces_at_most N)

-- ---- what the count of the cells says

module _ (k : ℕ) (ts : List ℕ) where
  -- a list that is counted is cut into whole cells
  whole_cells : {z : Sizes} → counted k ts ≡ Some z → (is_whole (cut k ts) ≡ true) × ((z.cells ≡ cell_count (cells_of k ts)) × (z.faces ≡ face_count (cells_of k ts)))
  unfolding counted
  whole_cells {z} e = by_cut (is_whole (cut k ts)) refl
    where
      by_cut : (b : Bool) → is_whole (cut k ts) ≡ b → (is_whole (cut k ts) ≡ true) × ((z.cells ≡ cell_count (cells_of k ts)) × (z.faces ≡ face_count (cells_of k ts)))
      by_cut true h =
          let is : Some (sizes (cell_count (cells_of k ts)) (face_count (cells_of k ts))) ≡ Some z = rw (h, counted) at e in
          let same : sizes (cell_count (cells_of k ts)) (face_count (cells_of k ts)) ≡ z = cc in
          (h, (ap (λ (y : Sizes). y.cells) (sym same), ap (λ (y : Sizes). y.faces) (sym same)))
      by_cut false h =
          let is : None ≡ Some z = rw (h, counted) at e in
          let z : ◌≡◌ {A = ℕ} 0 1 = cc in
          absurd (omega arith)

  broken_cells : counted k ts ≡ None → is_whole (cut k ts) ≡ false
  unfolding counted
  broken_cells e = by_cut (is_whole (cut k ts)) refl
    where
      by_cut : (b : Bool) → is_whole (cut k ts) ≡ b → is_whole (cut k ts) ≡ false
      by_cut true h =
          let is : Some (sizes (cell_count (cells_of k ts)) (face_count (cells_of k ts))) ≡ None = rw (h, counted) at e in
          let z : ◌≡◌ {A = ℕ} 0 1 = cc in
          absurd (omega arith)
      by_cut false h = h

-- ---- the answers, in their order

module _ (k : ℕ) (cs : List ℤ) (ts ds : List ℕ) where
  unframed : framed k cs ts ≡ false → Err Frame ≡ sizes_of k cs ts ds
  unfolding sizes_of
  unframed h = rw (h, sizes_of)

  pub odd_corners : (length cs % 2 ≡ 0 → ⊥) → Err Frame ≡ sizes_of k cs ts ds
  unfolding framed
  odd_corners h = unframed (simp (ne_eqb (length cs % 2) 0 h))

  module _ (even : length cs % 2 ≡ 0) {r : Option Sizes} (is_r : r ≡ counted k ts) where
    pub no_whole_cells : r ≡ None → Err Frame ≡ sizes_of k cs ts ds
    unfolding framed
    no_whole_cells e = unframed (simp (eq-eqb (length cs % 2) 0 even, broken_cells k ts (sym is_r ∙ e)))

    module _ {z : Sizes} (e : r ≡ Some z) {b : Bool} (is_b : b ≡ sized (corner_count cs) z.cells (length ds)) where
      in_a_whole : framed k cs ts ≡ true
      unfolding framed
      in_a_whole = simp (eq-eqb (length cs % 2) 0 even, (whole_cells k ts (sym is_r ∙ e)).0)

      size : sized (corner_count cs) (cell_count (cells_of k ts)) (length ds) ≡ b
      size = rw (← (whole_cells k ts (sym is_r ∙ e)).1.0) (sym is_b)

      pub not_in_size : b ≡ false → Err Size ≡ sizes_of k cs ts ds
      unfolding sizes_of
      not_in_size h = rw (in_a_whole, size ∙ h, sizes_of)

      pub all_counted : b ≡ true → Ok z ≡ sizes_of k cs ts ds
      unfolding sizes_of
      all_counted h =
          let same = (whole_cells k ts (sym is_r ∙ e)).1 in
          ap₂ (λ (m n : ℕ). Ok (record { cells = m; faces = n })) same.0 same.1 ∙ rw (in_a_whole, size ∙ h, sizes_of) refl

  -- ---- what an answer says

  module _ {s : Result Sizes Refusal} (is_s : s ≡ sizes_of k cs ts ds) where
    pub refused_likewise : {x : Refusal} → s ≡ Err x → Err x ≡ checked k cs ts ds
    unfolding sizes_of
    refused_likewise {x} e = by_tests (framed k cs ts) refl (sized (corner_count cs) (cell_count (cells_of k ts)) (length ds)) refl
      where
        by_tests : (a : Bool) → framed k cs ts ≡ a → (b : Bool) → sized (corner_count cs) (cell_count (cells_of k ts)) (length ds) ≡ b → Err x ≡ checked k cs ts ds
        by_tests true g true h =
            let is : ◌≡◌ {A = Result Sizes Refusal} (Ok (record { cells = cell_count (cells_of k ts); faces = face_count (cells_of k ts) })) (Err x) = rw (g, h, sizes_of) at (sym is_s ∙ e) in
            let z : ◌≡◌ {A = ℕ} 0 1 = cc in
            absurd (omega arith)
        by_tests true g false h =
            let is : ◌≡◌ {A = Result Sizes Refusal} (Err Size) (Err x) = rw (g, h, sizes_of) at (sym is_s ∙ e) in
            let same : Size ≡ x = cc in
            rw (← same) (out_of_size cs (cells_of k ts) ds h ∙ in_a_frame k cs ts ds g)
        by_tests false g b h =
            let is : ◌≡◌ {A = Result Sizes Refusal} (Err Frame) (Err x) = rw (g, sizes_of) at (sym is_s ∙ e) in
            let same : Frame ≡ x = cc in
            rw (← same) (not_framed k cs ts ds g)

    pub counted_fit : {z : Sizes} → s ≡ Ok z → Fit k cs ts ds z.cells z.faces
    unfolding sizes_of
    counted_fit {z} e = by_tests (framed k cs ts) refl (sized (corner_count cs) (cell_count (cells_of k ts)) (length ds)) refl
      where
        by_tests : (a : Bool) → framed k cs ts ≡ a → (b : Bool) → sized (corner_count cs) (cell_count (cells_of k ts)) (length ds) ≡ b → Fit k cs ts ds z.cells z.faces
        by_tests true g true h =
            let is : ◌≡◌ {A = Result Sizes Refusal} (Ok (record { cells = cell_count (cells_of k ts); faces = face_count (cells_of k ts) })) (Ok z) = rw (g, h, sizes_of) at (sym is_s ∙ e) in
            let same : z ≡ record { cells = cell_count (cells_of k ts); faces = face_count (cells_of k ts) } = cc in
            record { in_frame = g; in_size = h; cells = ap (λ (s : Sizes). s.cells) same; faces = ap (λ (s : Sizes). s.faces) same }
        by_tests true g false h =
            let is : ◌≡◌ {A = Result Sizes Refusal} (Err Size) (Ok z) = rw (g, h, sizes_of) at (sym is_s ∙ e) in
            let zero_is_one : ◌≡◌ {A = ℕ} 0 1 = cc in
            absurd (omega arith)
        by_tests false g b h =
            let is : ◌≡◌ {A = Result Sizes Refusal} (Err Frame) (Ok z) = rw (g, sizes_of) at (sym is_s ∙ e) in
            let zero_is_one : ◌≡◌ {A = ℕ} 0 1 = cc in
            absurd (omega arith)

-- ---- room for the tables

module _ {k : ℕ} {cs : List ℤ} {ts ds : List ℕ} {m n : ℕ} (fit : Fit k cs ts ds m n) where
  pub cells_fit : m ≤ most_cells
  cells_fit = omega (arith, fit.cells, (counts _ _ _ fit.in_size).cells_at_most)

  pub faces_fit : n ≤ most_sides * most_cells
  faces_fit = omega (arith, fit.faces, faces_at_most (numbered k ts), (counts _ _ _ fit.in_size).cells_at_most)

  -- parts that are as long as the counts say
  pub parts_fit : (fs gs bs : List ℕ) → 2 * n ≤ length fs → m < length gs → n ≤ length bs → (length (take (2 * n) fs) ≡ 2 * face_count (cells_of k ts)) × ((length (take (m + 1) gs) ≡ suc (cell_count (cells_of k ts))) × (length (take n bs) ≡ face_count (cells_of k ts)))
  parts_fit fs gs bs h l j =
      (length-take-le (2 * n) fs h ∙ ap (λ (i : ℕ). 2 * i) fit.faces, (length-take-le (m + 1) gs (omega arith) ∙ add-one m ∙ ap suc fit.cells, length-take-le n bs j ∙ fit.faces))
