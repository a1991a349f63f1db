-- The answer, way out by way out.
use mathlib.Core.Bool.{true, false, ◌&&◌}
use mathlib.Core.List.{List}
use mathlib.Core.Path.{◌≡◌, refl, sym, ap₂, ◌∙◌}
use Prim.Native.Nat.{ℕ, ◌+◌, ◌-◌, ◌<◌, ◌≤◌}
use native.Mathlib.Nat.{zero-add}
use native.Mathlib.Omega.{arith}
use borrow.Author.Tests.{lt-ltb, le-ltb, leb-true}
use lib.Dec.{eqb, leb}
use lib.Ieee.{Float}
use lib.ListN.{length, take, drop, length-drop}
use lib.Seq.{take_all}
use Rattle.exact.proofs.Truth.{both_true}
use Rattle.limits.specs.declared.Refusal.TheVariants as R
use Rattle.records.specs.Bytes.{number_at}
use Rattle.records.specs.Bits.{bits_at}
use Rattle.stand.specs.declared.spot.Stand.TheVariants.{Point, Offset}
use Rattle.text.specs.Text.{refusal_line}
use Rattle.printing.specs.Print.{most_input, most_text, begins, double_at, file_listed, blank_table, lines, printed, answered}
use Rattle.text.specs.Wrote.{Wrote}
use Rattle.limits.specs.declared.Refusal.{Refusal}
use Rattle.std.specs.Prelude.{Err, Ok, Result}

module _ (s text : List ℕ) where
  pub no_room : length text < most_text → (Err R.Room, text) ≡ answered s text
  unfolding answered
  no_room h = rw (lt-ltb _ _ h, answered) refl

  pub all_printed : {new : List ℕ} {end : ℕ} → most_text ≤ length text → Wrote text 0 (printed s) new end → (Ok end, new) ≡ answered s text
  unfolding answered
  all_printed h w = rw (le-ltb _ _ h, answered) (ap₂ (λ (n : ℕ) (l : List ℕ). (Ok n, l)) (w.ends ∙ zero-add (length (printed s))) w.is)

-- ---- the lines, way out by way out

-- a record that begins the input stands whole in it
pub begins_whole : (s : List ℕ) (kind size : ℕ) → begins s kind size ≡ true → 6 + size ≤ length s
unfolding begins
begins_whole s kind size e =
    let length_and_kind = both_true (leb (6 + size) (length s) && eqb (number_at 4 s 0) size) (eqb (number_at 2 s 4) kind) e in
    leb-true _ _ (both_true (leb (6 + size) (length s)) (eqb (number_at 4 s 0) size) length_and_kind.0).0

-- the rest of a list, from n on
pub rest : (s : List ℕ) (n : ℕ) → take (length s - n) (drop n s) ≡ drop n s
rest s n = take_all (length s - n) (drop n s) (rw (length-drop n s) (omega arith))

module _ (s : List ℕ) {text new : List ℕ} {end : ℕ} where
  pub too_long : most_input < length s → Wrote text 0 (refusal_line R.Size) new end → Wrote text 0 (printed s) new end
  unfolding printed
  too_long h w = rw (lt-ltb _ _ h, printed) w

  module _ (h : length s ≤ most_input) where
    pub by_point : begins s 4 24 ≡ true → {setting : ℕ} {x y : Float} {file : List ℕ} → setting ≡ bits_at s 6 → x ≡ double_at s 14 → y ≡ double_at s 22 → file ≡ drop 30 s → Wrote text 0 (lines (file_listed file setting (Point x y) blank_table)) new end → Wrote text 0 (printed s) new end
    unfolding printed
    by_point b is_w is_x is_y is_file w = rw (le-ltb _ _ h, b, printed, ← is_w, ← is_x, ← is_y, ← is_file) w

    pub by_offset : begins s 4 24 ≡ false → begins s 5 26 ≡ true → {setting corner : ℕ} {x y : Float} {file : List ℕ} → setting ≡ bits_at s 6 → corner ≡ number_at 2 s 14 → x ≡ double_at s 16 → y ≡ double_at s 24 → file ≡ drop 32 s → Wrote text 0 (lines (file_listed file setting (Offset corner x y) blank_table)) new end → Wrote text 0 (printed s) new end
    unfolding printed
    by_offset a b is_w is_c is_x is_y is_file w = rw (le-ltb _ _ h, a, b, printed, ← is_w, ← is_c, ← is_x, ← is_y, ← is_file) w

    pub no_query : begins s 4 24 ≡ false → begins s 5 26 ≡ false → Wrote text 0 (refusal_line R.Frame) new end → Wrote text 0 (printed s) new end
    unfolding printed
    no_query a b w = rw (le-ltb _ _ h, a, b, printed) w

-- the promise leaves one answer and one text
pub print_has_one_reply : (s text : List ℕ) {p q : Result ℕ Refusal × List ℕ} → p ≡ answered s text → q ≡ answered s text → p ≡ q
print_has_one_reply s text h k = h ∙ sym k
