-- Numbers as bytes (document 01, "The plan file"): little-endian.
use Rattle.std.specs.Prelude.{true, false, List, [], ◌∷◌, ◌++◌, ℕ, zero, suc, ◌+◌, ◌-◌, ◌*◌, ◌/◌, ◌%◌, ◌^◌, ◌<◌, ltb, get_or, ℤ, pos, negsuc}

-- the k bytes of a number, the lowest first
unfoldable pub bytes : ℕ → ℕ → List ℕ
bytes zero n = []
bytes (suc k) n = n % 256 ∷ bytes k (n / 256)

-- the number in the k bytes from `at` on; past the end a byte counts as 0
unfoldable pub number_at : ℕ → List ℕ → ℕ → ℕ
number_at zero s at = 0
number_at (suc k) s at = get_or s at 0 + 256 * number_at k s (suc at)

-- the bytes of a list of numbers, k bytes each
unfoldable pub all_bytes : ℕ → List ℕ → List ℕ
all_bytes k [] = []
all_bytes k (n ∷ ns) = bytes k n ++ all_bytes k ns

-- the n numbers, k bytes each, from `at` on
unfoldable pub numbers_at : ℕ → List ℕ → ℕ → ℕ → List ℕ
numbers_at k s at zero = []
numbers_at k s at (suc n) = number_at k s at ∷ numbers_at k s (at + k) n

-- the two's complement of a signed 32-bit number
abbrev pub complement : ℤ → ℕ
complement (pos n) = n
complement (negsuc n) = 2 ^ 32 - suc n

-- the signed 32-bit number of a two's complement
unfoldable pub signed : ℕ → ℤ
signed n = elim (ltb n (2 ^ 31)) [ true ↦ pos n | false ↦ negsuc (2 ^ 32 - suc n) ]

-- each number of the list is a byte
pub record AllBytes (s : List ℕ) : Type 0 where
  pub byte : (i : ℕ) → get_or s i 0 < 256
