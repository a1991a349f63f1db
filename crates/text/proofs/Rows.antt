-- The loop that writes the lines of rows has come to the i-th.
use mathlib.Core.List.{List}
use mathlib.Core.Path.{◌≡◌, refl}
use Prim.Native.Nat.{ℕ, ◌+◌, ◌*◌, ◌<◌, ◌≤◌}
use native.Mathlib.Nat.{add-zero}
use native.Mathlib.Numerals.{add-one}
use native.Mathlib.Omega.{arith}
use lib.ListN.{length, get_or}
use Rattle.std.specs.List.{between}
use Rattle.std.proofs.lemmas.List.Edits.{get_or-between}
use Rattle.text.specs.Text.{row_line, row_lines}
use Rattle.text.specs.Wrote.{Wrote}
use Rattle.text.proofs.Texts.{joined}

pub record Lines (table old : List ℕ) (at : ℕ) (new : List ℕ) (end i : ℕ) : Type 0 where
  pub so_far : Wrote old at (row_lines table i) new end
  pub short : end ≤ at + 24 * i

pub lines_begin : (table old : List ℕ) (at : ℕ) → at ≤ length old → Lines table old at old at 0
unfolding row_lines
lines_begin table old at h = record { so_far = record { is = refl; ends = omega arith; fits = h }; short = omega arith }

-- the i-th row, as it is cut out of the table
abbrev pub row_at : List ℕ → ℕ → List ℕ
row_at table i = between (4 * i) (4 * i + 4) table

pub lines_go_on : {table old : List ℕ} {at : ℕ} {new : List ℕ} {end i : ℕ} → Lines table old at new end i → {new' : List ℕ} {end' : ℕ} → Wrote new end (row_line (get_or (row_at table i) 0 0) (get_or (row_at table i) 1 0) (get_or (row_at table i) 2 0) (get_or (row_at table i) 3 0)) new' end' → end' ≤ end + 24 → Lines table old at new' end' (i + 1)
unfolding row_lines
lines_go_on {table} {old} {at} {new} {end} {i} p {new'} {end'} w s =
    let so_short = p.short in
    let number : (j : ℕ) → j < 4 → get_or (row_at table i) j 0 ≡ get_or table (4 * i + j) 0 = λ j h. get_or-between table (4 * i) (4 * i + 4) j 0 (omega arith) in
    let line = (rw (number 0 (omega arith), number 1 (omega arith), number 2 (omega arith), number 3 (omega arith), add-zero (4 * i)) at w) in
    record { so_far = rw (add-one i) (joined p.so_far line); short = omega arith }
