-- From numbers to bytes and back to the numbers.
use mathlib.Core.List.{List, [], ◌∷◌, ◌++◌, append_assoc, map}
use mathlib.Core.Path.{◌≡◌, refl, sym, ap, ap₂, ◌∙◌}
use Prim.Native.Nat.{ℕ, zero, suc, ◌+◌, ◌/◌, ◌%◌, ◌^◌, ◌<◌}
use native.Mathlib.Omega.{arith}
use lib.ListN.{length, get_or, length-append}
use lib.Seq.{append_snoc, get_or-append_seam}
use lib.IntN.{ℤ, pos}
use lib.Signed.{mag}
use mir.Syntax.{w32}
use mir.Val.{to_z}
use mir.ValLaws.{to_z-of_z}
use Rattle.records.specs.Bytes.{bytes, number_at, all_bytes, numbers_at, complement, signed}
use Rattle.records.proofs.Signs.{signed_is, complement_is}
use Rattle.records.proofs.Spelled.{length_bytes}

-- what is left of a number above its k lowest bytes
unfoldable pub above : ℕ → ℕ → ℕ
above zero n = n
above (suc k) n = above k (n / 256)

pub above_two : (n : ℕ) → n < 2 ^ 16 → above 2 n ≡ 0
unfolding above
above_two n h = omega arith

pub above_four : (n : ℕ) → n < 2 ^ 32 → above 4 n ≡ 0
unfolding above
above_four n h = omega arith

-- ---- one number

number_here : (xs ys : List ℕ) (k n : ℕ) → above k n ≡ 0 → number_at k (xs ++ (bytes k n ++ ys)) (length xs) ≡ n
unfolding bytes number_at above
number_here xs ys zero n h = sym h
number_here xs ys (suc k) n h =
    let rest : List ℕ = bytes k (n / 256) ++ ys in
    let longer : length (xs ++ (n % 256 ∷ [])) ≡ suc (length xs) = length-append xs (n % 256 ∷ []) ∙ omega arith in
    let low : get_or (xs ++ n % 256 ∷ rest) (length xs) 0 ≡ n % 256 = get_or-append_seam xs (n % 256) rest 0 in
    let high : number_at k (xs ++ n % 256 ∷ rest) (suc (length xs)) ≡ n / 256 =
    ap₂ (λ (l : List ℕ) (j : ℕ). number_at k l j) (sym (append_snoc xs (n % 256) rest)) (sym longer)
    ∙ number_here (xs ++ (n % 256 ∷ [])) ys k (n / 256) h
    in
    omega arith

-- the number whose k bytes stand at `at`
pub number_there : (xs ys : List ℕ) (k n at : ℕ) → length xs ≡ at → above k n ≡ 0 → number_at k (xs ++ (bytes k n ++ ys)) at ≡ n
number_there xs ys k n at e h = ap (number_at k (xs ++ (bytes k n ++ ys))) (sym e) ∙ number_here xs ys k n h

-- ---- a list of numbers

pub numbers_there : (xs ys : List ℕ) (k : ℕ) (ns : List ℕ) (at : ℕ) → length xs ≡ at → ((i : ℕ) → above k (get_or ns i 0) ≡ 0) → numbers_at k (xs ++ (all_bytes k ns ++ ys)) at (length ns) ≡ ns
unfolding all_bytes numbers_at
numbers_there xs ys k [] at e h = refl
numbers_there xs ys k (n ∷ ns) at e h =
    let rest : List ℕ = all_bytes k ns ++ ys in
    let again : xs ++ ((bytes k n ++ all_bytes k ns) ++ ys) ≡ xs ++ (bytes k n ++ rest) = ap (λ (l : List ℕ). xs ++ l) (append_assoc (bytes k n) (all_bytes k ns) ys) in
    let along : xs ++ (bytes k n ++ rest) ≡ (xs ++ bytes k n) ++ rest = sym (append_assoc xs (bytes k n) rest) in
    let longer : length (xs ++ bytes k n) ≡ at + k = length-append xs (bytes k n) ∙ ap₂ ◌+◌ e (length_bytes k n) in
    ap₂ (λ (m : ℕ) (l : List ℕ). m ∷ l)
    (ap (λ (l : List ℕ). number_at k l at) again ∙ number_there xs rest k n at e (h 0))
    (ap (λ (l : List ℕ). numbers_at k l (at + k) (length ns)) (again ∙ along)
    ∙ numbers_there (xs ++ bytes k n) ys k ns (at + k) longer (λ i. h (suc i)))

-- ---- signed numbers

pub signed_complement : (z : ℤ) → mag z < 2 ^ 31 → signed (complement z) ≡ z
signed_complement z h = sym (signed_is (complement z)) ∙ ap (λ (n : ℕ). to_z w32 n) (sym (complement_is z)) ∙ to_z-of_z w32 z (record { sfits = h })

pub all_signed_complements : (cs : List ℤ) → ((i : ℕ) → mag (get_or cs i (pos 0)) < 2 ^ 31) → map signed (map complement cs) ≡ cs
all_signed_complements [] h = refl
all_signed_complements (z ∷ cs) h = ap₂ (λ (y : ℤ) (l : List ℤ). y ∷ l) (signed_complement z (h 0)) (all_signed_complements cs (λ i. h (suc i)))
