-- From bytes to numbers and back to the bytes.
use mathlib.Core.List.{List, [], ◌∷◌, ◌++◌, map}
use mathlib.Core.Path.{◌≡◌, refl, sym, ap, ap₂, ◌∙◌}
use Prim.Native.Nat.{ℕ, zero, suc, ◌+◌, ◌*◌, ◌/◌, ◌%◌, ◌^◌, ◌<◌, ◌≤◌}
use native.Mathlib.Nat.{mul-zero, mul-suc}
use native.Mathlib.Omega.{arith}
use lib.ListN.{length, get_or, take, drop}
use lib.Seq.{drop-cons, drop-drop, take-add}
use mir.Syntax.{w32}
use mir.Val.{to_z}
use mir.ValLaws.{of_z-to_z}
use Rattle.records.specs.Bytes.{bytes, number_at, all_bytes, numbers_at, complement, signed, AllBytes}
use Rattle.records.specs.Record.{record_of}
use Rattle.records.proofs.Signs.{signed_is, complement_is}

-- ---- what is spelled in bytes is bytes

-- numbers below a bound, one list behind the other
pub append_below : {w : ℕ} (s t : List ℕ) → ((i : ℕ) → get_or s i 0 < w) → ((i : ℕ) → get_or t i 0 < w) → (i : ℕ) → get_or (s ++ t) i 0 < w
append_below [] t a b i = b i
append_below (x ∷ s) t a b zero = a 0
append_below (x ∷ s) t a b (suc i) = append_below s t (λ j. a (suc j)) b i

pub append_is_bytes : {s t : List ℕ} → AllBytes s → AllBytes t → AllBytes (s ++ t)
append_is_bytes {s} {t} a b = record { byte = append_below s t a.byte b.byte }

number_is_bytes : (k n : ℕ) → AllBytes (bytes k n)
unfolding bytes
number_is_bytes k n = record { byte = go k n }
  where
    go : (k n i : ℕ) → get_or (bytes k n) i 0 < 256
    go zero n i = omega arith
    go (suc k) n zero = omega arith
    go (suc k) n (suc i) = go k (n / 256) i

pub all_is_bytes : (k : ℕ) (ns : List ℕ) → AllBytes (all_bytes k ns)
unfolding all_bytes
all_is_bytes k [] = record { byte = λ i. omega arith }
all_is_bytes k (n ∷ ns) = append_is_bytes (number_is_bytes k n) (all_is_bytes k ns)

pub record_is_bytes : (kind : ℕ) {body : List ℕ} → AllBytes body → AllBytes (record_of kind body)
unfolding record_of
record_is_bytes kind {body} h = append_is_bytes (number_is_bytes 4 (length body)) (append_is_bytes (number_is_bytes 2 kind) h)

-- ---- bytes that are read and spelled again

module _ (s : List ℕ) (all : AllBytes s) where
  -- ---- one number

  pub bytes_back : (k at : ℕ) → at + k ≤ length s → bytes k (number_at k s at) ≡ take k (drop at s)
  unfolding bytes number_at
  bytes_back zero at h = refl
  bytes_back (suc k) at h =
      let b : get_or s at 0 < 256 = all.byte at in
      let low : (get_or s at 0 + 256 * number_at k s (suc at)) % 256 ≡ get_or s at 0 = omega arith in
      let high : (get_or s at 0 + 256 * number_at k s (suc at)) / 256 ≡ number_at k s (suc at) = omega arith in
      ap₂ (λ (m : ℕ) (l : List ℕ). m ∷ l) low (ap (bytes k) high ∙ bytes_back k (suc at) (omega arith))
      ∙ ap (take (suc k)) (sym (drop-cons s at 0 (omega arith)))

  four_small : (at : ℕ) → number_at 4 s at < 2 ^ 32
  unfolding number_at
  four_small at = omega (arith, all.byte at, all.byte (suc at), all.byte (suc (suc at)), all.byte (suc (suc (suc at))))

  -- ---- a list of numbers

  pub all_bytes_back : (k at n : ℕ) → at + k * n ≤ length s → all_bytes k (numbers_at k s at n) ≡ take (k * n) (drop at s)
  unfolding all_bytes numbers_at
  all_bytes_back k at zero h = rw (mul-zero k)
  all_bytes_back k at (suc n) h =
      let more : k * suc n ≡ k + k * n = mul-suc k n ∙ omega arith in
      ap₂ (λ (l m : List ℕ). l ++ m) (bytes_back k at (omega arith)) (all_bytes_back k (at + k) n (omega arith) ∙ ap (take (k * n)) (sym (drop-drop k at s)))
      ∙ sym (take-add k (k * n) (drop at s))
      ∙ ap (λ (j : ℕ). take j (drop at s)) (sym more)

  -- ---- signed numbers

  pub complements_back : (at n : ℕ) → map complement (map signed (numbers_at 4 s at n)) ≡ numbers_at 4 s at n
  unfolding numbers_at
  complements_back at zero = refl
  complements_back at (suc n) =
      ap₂ (λ (m : ℕ) (l : List ℕ). m ∷ l)
      (ap complement (sym (signed_is (number_at 4 s at))) ∙ sym (complement_is (to_z w32 (number_at 4 s at))) ∙ of_z-to_z w32 (number_at 4 s at) (record { fits = four_small at }))
      (complements_back (at + 4) n)
