-- Words as their bytes.
use mathlib.Core.List as L
use Rattle.std.specs.Prelude.{ℕ}
use Prim.Native.Char.{code}
use Prim.Native.String.{String, [], ◌∷◌}

-- the bytes of a quoted word: the code of each of its characters, which are ASCII
abbrev pub word : String → L.List ℕ
word [] = L.[]
word (c ∷ t) = L.◌∷◌ (code c) (word t)
