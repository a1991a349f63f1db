-- Laws of what is written into a text piece by piece.
use mathlib.Core.List.{List, [], ◌∷◌, ◌++◌}
use mathlib.Core.Path.{◌≡◌, refl, ap, ◌∙◌}
use Prim.Native.Nat.{ℕ, ◌+◌, ◌/◌, ◌%◌, ◌≤◌, ◌<◌}
use native.Mathlib.Omega.{arith}
use lib.ListN.{length, set, length-append, length-set}
use lib.Seq.{length-sets}
use Rattle.exact.proofs.Lent.{sets_append}
use Rattle.text.specs.Text.{decimal, number_then}
use Rattle.text.specs.Wrote.{Wrote}
use Rattle.text.proofs.Decimals.{decimal_of_a_digit, decimal_of_more}

-- a piece, and a piece that begins where it ends
pub joined : {old mid new a b : List ℕ} {at e f : ℕ} → Wrote old at a mid e → Wrote mid e b new f → Wrote old at (a ++ b) new f
joined {old} {mid} {new} {a} {b} {at} {e} {f} u v =
    record {
      is = v.is ∙ rw (u.is, u.ends) (sets_append old at a b);
      ends = let n = length-append a b in let p = u.ends in let q = v.ends in omega arith;
      fits = v.fits;
    }

-- one byte more
pub one_more : {old : List ℕ} {at x : ℕ} → at < length old → Wrote old at (x ∷ []) (set old at x) (at + 1)
one_more {old} {at} {x} h =
    let same : length (set old at x) ≡ length old = length-set old at x in
    record { is = refl; ends = refl; fits = omega arith }

-- ---- a number: one digit, or its last digit after those above it

module _ (at n : ℕ) {room : ℕ} (fits : at + length (decimal n) ≤ room) where
  pub digit_has_room : n < 10 → at < room
  digit_has_room h = let one = ap length (decimal_of_a_digit n h) in omega arith

  pub above_has_room : 10 ≤ n → at + length (decimal (n / 10)) < room
  above_has_room h =
      let all = ap length (decimal_of_more n h) ∙ length-append (decimal (n / 10)) ((48 + n % 10) ∷ []) in
      omega arith

module _ {old : List ℕ} {at n : ℕ} where
  pub digit_written : n < 10 → at < length old → Wrote old at (decimal n) (set old at (48 + n)) (at + 1)
  digit_written h room = rw (decimal_of_a_digit n h) (one_more room)

  pub last_digit_written : {mid : List ℕ} {e : ℕ} → 10 ≤ n → Wrote old at (decimal (n / 10)) mid e → e < length mid → Wrote old at (decimal n) (set mid e (48 + n % 10)) (e + 1)
  last_digit_written h above room = rw (decimal_of_more n h) (joined above (one_more room))

-- ---- where a piece ends, and that the text keeps its length

pub word_ends : {old word new : List ℕ} {at e : ℕ} → Wrote old at word new e → (e ≡ at + length word) × (length new ≡ length old)
word_ends {old} {word} {new} {at} w = (w.ends, ap length w.is ∙ length-sets old at word)

pub number_ends : (n after : ℕ) {old new : List ℕ} {at e : ℕ} → Wrote old at (number_then n after) new e → (e ≡ at + length (decimal n) + 1) × (length new ≡ length old)
number_ends n after w =
    let pieces = length-append (decimal n) (after ∷ []) in
    let ends = (word_ends w).0 in
    (omega arith, (word_ends w).1)
