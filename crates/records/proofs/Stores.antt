-- Laws of runs of stores, and of the loops that make them.
use mathlib.Core.List.{List, [], ◌∷◌, ◌++◌, append_assoc, append-nil, map, map-append}
use mathlib.Core.Path.{◌≡◌, sym, ap, ap₂, ◌∙◌}
use Prim.Native.Nat.{ℕ, ◌+◌, ◌*◌, ◌<◌, ◌≤◌}
use native.Mathlib.Omega.{arith}
use borrow.Rule.Slice.PartMut.{put_mid}
use lib.ListN.{length, take, drop, get_or, set, length-append, length-map, drop_of_length-le}
use lib.IntN.{ℤ}
use lib.Seq.{sets, length-take-le, sets-eq, drop-drop}
use Rattle.exact.proofs.Lent.{sets_then}
use Rattle.records.specs.Bytes.{bytes, number_at, all_bytes, numbers_at, complement, signed}
use Rattle.records.specs.Record.{record_of, corner_record}
use Rattle.records.proofs.Spelled.{length_bytes, length_all_bytes, all_bytes_one_more, length_numbers_at, numbers_one_more}

module _ {ℓ} {A : Type ℓ} where
  -- a run over the whole list
  pub sets_all : (l vs : List A) → length l ≡ length vs → sets l 0 vs ≡ vs
  sets_all l vs e =
      sets-eq vs l 0 (omega arith)
      ∙ ap (λ (r : List A). vs ++ r) (drop_of_length-le l {i = 0 + length vs} (omega arith))
      ∙ append-nil vs

-- a part that a run was copied into: k is the part's length
pub part_copied : {A : Type 0} (s : List A) (at k : ℕ) (vs : List A) {xs : List A} → xs ≡ vs → length vs ≡ k → at + k ≤ length s → put_mid at k s xs ≡ sets s at vs
part_copied s at k vs e long h =
    let past : at + k ≡ at + length vs = omega arith in
    ap (put_mid at k s) e
    ∙ ap (λ (l : List _). take at s ++ (vs ++ l)) (drop-drop k at s ∙ ap (λ (j : ℕ). drop j s) past)
    ∙ sym (append_assoc (take at s) vs (drop (at + length vs) s))
    ∙ sym (sets-eq vs s at (omega arith))

-- ---- two runs that make one, by what was left by each

module _ (l : List ℕ) (at : ℕ) {l₁ l₂ : List ℕ} where
  pub head_put : (n k : ℕ) → l₁ ≡ sets l at (bytes 4 n) → l₂ ≡ sets l₁ (at + 4) (bytes 2 k) → l₂ ≡ sets l at (bytes 4 n ++ bytes 2 k)
  head_put n k e f =
      f
      ∙ ap (λ (m : List ℕ). sets m (at + 4) (bytes 2 k)) e
      ∙ sets_then l at (at + 4) (bytes 4 n) (bytes 2 k) (ap (λ (j : ℕ). at + j) (length_bytes 4 n))

-- ---- a record, by what was left by its head and its body

module _ (l : List ℕ) (at kind n : ℕ) (body : List ℕ) (is_n : n ≡ length body) {l₁ l₂ : List ℕ} where
  pub record_put : l₁ ≡ sets l at (bytes 4 n ++ bytes 2 kind) → l₂ ≡ sets l₁ (at + 6) body → l₂ ≡ sets l at (record_of kind body)
  unfolding record_of
  record_put e f =
      let long : length (bytes 4 n ++ bytes 2 kind) ≡ 6 = length-append (bytes 4 n) (bytes 2 kind) ∙ ap₂ ◌+◌ (length_bytes 4 n) (length_bytes 2 kind) in
      f
      ∙ ap (λ (m : List ℕ). sets m (at + 6) body) e
      ∙ sets_then l at (at + 6) (bytes 4 n ++ bytes 2 kind) body (ap (λ (j : ℕ). at + j) long)
      ∙ ap (sets l at) (append_assoc (bytes 4 n) (bytes 2 kind) body ∙ ap (λ (m : ℕ). bytes 4 m ++ (bytes 2 kind ++ body)) is_n)

pub corner_record_put : (l : List ℕ) (cs : List ℤ) {l₁ l₂ : List ℕ} → l₁ ≡ sets l 0 (bytes 4 (4 * length cs) ++ bytes 2 1) → l₂ ≡ sets l₁ 6 (all_bytes 4 (map complement cs)) → l₂ ≡ sets l 0 (corner_record cs)
unfolding corner_record
corner_record_put l cs e f =
    record_put l 0 1 (4 * length cs) (all_bytes 4 (map complement cs))
    (sym (length_all_bytes 4 (map complement cs) ∙ ap (λ (n : ℕ). 4 * n) (length-map cs complement))) e f

pub number_record_put : (l : List ℕ) (at kind : ℕ) (ns : List ℕ) {l₁ l₂ : List ℕ} → l₁ ≡ sets l at (bytes 4 (2 * length ns) ++ bytes 2 kind) → l₂ ≡ sets l₁ (at + 6) (all_bytes 2 ns) → l₂ ≡ sets l at (record_of kind (all_bytes 2 ns))
number_record_put l at kind ns e f = record_put l at kind (2 * length ns) (all_bytes 2 ns) (sym (length_all_bytes 2 ns)) e f

-- ---- loops

-- numbers of k bytes are written from `at` on: the i-th comes after those before it
pub number_put : (k : ℕ) (ns l₀ : List ℕ) (at i : ℕ) {l : List ℕ} → i < length ns → l ≡ sets l₀ at (all_bytes k (take i ns)) → {n : ℕ} → n ≡ get_or ns i 0 → {l' : List ℕ} → l' ≡ sets l (at + k * i) (bytes k n) → l' ≡ sets l₀ at (all_bytes k (take (i + 1) ns))
number_put k ns l₀ at i h so_far is_n e =
    let bs : length (all_bytes k (take i ns)) ≡ k * i = length_all_bytes k (take i ns) ∙ ap (λ (j : ℕ). k * j) (length-take-le i ns (omega arith)) in
    e
    ∙ ap₂ (λ (m : List ℕ) (j : ℕ). sets m (at + k * i) (bytes k j)) so_far is_n
    ∙ sets_then l₀ at (at + k * i) (all_bytes k (take i ns)) (bytes k (get_or ns i 0)) (ap (λ (j : ℕ). at + j) bs)
    ∙ ap (sets l₀ at) (sym (all_bytes_one_more k ns i h))

-- the numbers of a file are stored in a list: the i-th comes after those before it
module _ (k : ℕ) (s : List ℕ) (at i : ℕ) where
  pub number_got : (l₀ : List ℕ) {l : List ℕ} → l ≡ sets l₀ 0 (numbers_at k s at i) → {n : ℕ} → n ≡ number_at k s (at + k * i) → set l i n ≡ sets l₀ 0 (numbers_at k s at (i + 1))
  number_got l₀ so_far {n} e =
      ap₂ (λ (m : List ℕ) (j : ℕ). set m i j) so_far e
      ∙ sets_then l₀ 0 i (numbers_at k s at i) (number_at k s (at + k * i) ∷ []) (omega (arith, length_numbers_at k s at i))
      ∙ ap (sets l₀ 0) (sym (numbers_one_more k s at i))

  pub corner_got : (l₀ : List ℤ) {l : List ℤ} → l ≡ sets l₀ 0 (map signed (numbers_at k s at i)) → {z : ℤ} → z ≡ signed (number_at k s (at + k * i)) → set l i z ≡ sets l₀ 0 (map signed (numbers_at k s at (i + 1)))
  corner_got l₀ so_far {z} e =
      ap₂ (λ (m : List ℤ) (y : ℤ). set m i y) so_far e
      ∙ sets_then l₀ 0 i (map signed (numbers_at k s at i)) (signed (number_at k s (at + k * i)) ∷ [])
      (omega (arith, length-map (numbers_at k s at i) signed, length_numbers_at k s at i))
      ∙ ap (sets l₀ 0) (sym (ap (map signed) (numbers_one_more k s at i) ∙ map-append signed (numbers_at k s at i) (number_at k s (at + k * i) ∷ [])))
