-- The least place, and a place before an end.
use Rattle.std.specs.Prelude.{Bool, true, false, ℕ, zero, suc, ltb, Option, None, Some}

-- the least of the n numbers from i on at which the test holds; i + n where it holds at none
unfoldable pub least : (ℕ → Bool) → ℕ → ℕ → ℕ
least t zero i = i
least t (suc n) i = elim (t i) [ true ↦ i | false ↦ least t n (suc i) ]

-- a place, where it is before the end
abbrev pub before : ℕ → ℕ → Option ℕ
before n i = elim (ltb i n) [ true ↦ Some i | false ↦ None ]
