-- The lines that are printed, as their bytes (document 01, "Printing program"; document 02, A5). Each line ends in LF, also the last.
use Rattle.std.specs.Prelude.{true, false, List, [], ◌∷◌, ◌++◌, ℕ, zero, suc, ◌+◌, ◌*◌, ◌/◌, ◌%◌, ltb, get_or}
use Rattle.limits.specs.Reply.{refused}
use Rattle.limits.specs.declared.Refusal.{Refusal}
use Rattle.text.specs.Word.{word}

-- the digits of a number, the highest first, through at most k of them
unfoldable pub digits : ℕ → ℕ → List ℕ
digits zero n = []
digits (suc k) n = elim (ltb n 10) [ true ↦ (48 + n) ∷ [] | false ↦ digits k (n / 10) ++ ((48 + n % 10) ∷ []) ]

-- a number in decimal: it has no more digits than n + 1
unfoldable pub decimal : ℕ → List ℕ
decimal n = digits (suc n) n

-- a number, and the byte after it
abbrev pub number_then : ℕ → ℕ → List ℕ
number_then n after = decimal n ++ (after ∷ [])

abbrev pub space : ℕ
space = 32

abbrev pub line_end : ℕ
line_end = 10

-- `refused`, number, place
unfoldable pub refusal_line : Refusal → List ℕ
refusal_line r = word "refused " ++ number_then (refused r).number space ++ number_then (refused r).place line_end

-- `rows`, row count, `crossings`, count
unfoldable pub count_line : ℕ → ℕ → List ℕ
count_line n k = word "rows " ++ number_then n space ++ word "crossings " ++ number_then k line_end

-- one line a row: face, right limit, left limit, and 0 in reach or 1 out of reach
unfoldable pub row_line : ℕ → ℕ → ℕ → ℕ → List ℕ
row_line f r l k = number_then f space ++ number_then r space ++ number_then l space ++ number_then k line_end

-- the lines of the first n rows of a table, four numbers a row
unfoldable pub row_lines : List ℕ → ℕ → List ℕ
row_lines table zero = []
row_lines table (suc n) = row_lines table n ++ row_line (get_or table (4 * n) 0) (get_or table (4 * n + 1) 0) (get_or table (4 * n + 2) 0) (get_or table (4 * n + 3) 0)
