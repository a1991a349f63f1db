-- Laws of numbers and records as bytes: lengths, and a list's bytes piece by piece.
use mathlib.Core.List.{List, [], ◌∷◌, ◌++◌, append_assoc, append-nil, map}
use mathlib.Core.Path.{◌≡◌, refl, sym, ap, ◌∙◌}
use Prim.Native.Nat.{ℕ, zero, suc, ◌+◌, ◌*◌, ◌/◌, ◌<◌}
use native.Mathlib.Nat.{mul-zero, mul-suc, add-zero}
use native.Mathlib.Numerals.{add-one}
use native.Mathlib.Omega.{arith}
use lib.ListN.{length, take, get_or, length-append, length-map, get_or-map}
use lib.Seq.{take-suc}
use lib.IntN.{ℤ, pos}
use Rattle.records.specs.Bytes.{bytes, number_at, all_bytes, numbers_at, complement}
use Rattle.records.specs.Record.{record_of, corner_record}

pub length_bytes : (k n : ℕ) → length (bytes k n) ≡ k
unfolding bytes
length_bytes zero n = refl
length_bytes (suc k) n = ap suc (length_bytes k (n / 256))

pub length_all_bytes : (k : ℕ) (ns : List ℕ) → length (all_bytes k ns) ≡ k * length ns
unfolding all_bytes
length_all_bytes k [] = sym (mul-zero k)
length_all_bytes k (n ∷ ns) =
    let one : length (bytes k n) ≡ k = length_bytes k n in
    let rest : length (all_bytes k ns) ≡ k * length ns = length_all_bytes k ns in
    length-append (bytes k n) (all_bytes k ns) ∙ rw (mul-suc k (length ns)) (omega arith)

pub all_bytes_append : (k : ℕ) (ms ns : List ℕ) → all_bytes k (ms ++ ns) ≡ all_bytes k ms ++ all_bytes k ns
unfolding all_bytes
all_bytes_append k [] ns = refl
all_bytes_append k (m ∷ ms) ns = rw (all_bytes_append k ms ns) (sym (append_assoc (bytes k m) (all_bytes k ms) (all_bytes k ns)))

-- the bytes of one number more
pub all_bytes_one_more : (k : ℕ) (ns : List ℕ) (i : ℕ) → i < length ns → all_bytes k (take (i + 1) ns) ≡ all_bytes k (take i ns) ++ bytes k (get_or ns i 0)
unfolding all_bytes
all_bytes_one_more k ns i h =
    rw (add-one i, take-suc ns i 0 h, all_bytes_append k (take i ns) (get_or ns i 0 ∷ [])) (ap (λ (bs : List ℕ). all_bytes k (take i ns) ++ bs) (append-nil (bytes k (get_or ns i 0))))

-- ---- the complements of a list

module _ (cs : List ℤ) (i : ℕ) where
  pub complements_below : i < length cs → i < length (map complement cs)
  complements_below h = rw (length-map cs complement) h

  pub complement_there : complement (get_or cs i (pos 0)) ≡ get_or (map complement cs) i 0
  complement_there = sym (get_or-map complement cs i (pos 0))

-- ---- the numbers of a file

pub length_numbers_at : (k : ℕ) (s : List ℕ) (at n : ℕ) → length (numbers_at k s at n) ≡ n
unfolding numbers_at
length_numbers_at k s at zero = refl
length_numbers_at k s at (suc n) = ap suc (length_numbers_at k s (at + k) n)

pub number_listed : (k : ℕ) (s : List ℕ) (at n i : ℕ) → i < n → number_at k s (at + k * i) ≡ get_or (numbers_at k s at n) i 0
unfolding numbers_at
number_listed k s at zero i h = absurd (omega arith)
number_listed k s at (suc n) zero h = rw (mul-zero k, add-zero at)
number_listed k s at (suc n) (suc i) h =
    let e : at + k * suc i ≡ at + k + k * i = rw (mul-suc k i) (omega arith) in
    rw e (number_listed k s (at + k) n i (omega arith))

pub numbers_one_more : (k : ℕ) (s : List ℕ) (at i : ℕ) → numbers_at k s at (i + 1) ≡ numbers_at k s at i ++ number_at k s (at + k * i) ∷ []
unfolding numbers_at
numbers_one_more k s at i = rw (add-one i) (by_count i at)
  where
    by_count : (i at : ℕ) → numbers_at k s at (suc i) ≡ numbers_at k s at i ++ number_at k s (at + k * i) ∷ []
    by_count zero at = rw (mul-zero k, add-zero at) refl
    by_count (suc i) at =
        let e : at + k * suc i ≡ at + k + k * i = rw (mul-suc k i) (omega arith) in
        rw e (ap (λ (l : List ℕ). number_at k s at ∷ l) (by_count i (at + k)))

-- ---- lengths of records

pub length_record : (kind : ℕ) (body : List ℕ) → length (record_of kind body) ≡ 6 + length body
unfolding record_of
length_record kind body =
    let a : length (bytes 4 (length body)) ≡ 4 = length_bytes 4 (length body) in
    let b : length (bytes 2 kind) ≡ 2 = length_bytes 2 kind in
    simp length-append (omega arith)

pub length_corner_record : (cs : List ℤ) → length (corner_record cs) ≡ 6 + 4 * length cs
unfolding corner_record
length_corner_record cs =
    length_record 1 (all_bytes 4 (map complement cs))
    ∙ ap (λ (n : ℕ). 6 + n) (length_all_bytes 4 (map complement cs) ∙ ap (λ (n : ℕ). 4 * n) (length-map cs complement))

pub length_number_record : (kind : ℕ) (ns : List ℕ) → length (record_of kind (all_bytes 2 ns)) ≡ 6 + 2 * length ns
length_number_record kind ns = length_record kind (all_bytes 2 ns) ∙ ap (λ (n : ℕ). 6 + n) (length_all_bytes 2 ns)
