-- Plan Q (document 01, "Printing program"): a square of two cells, with a door on its diagonal.
use Rattle.std.specs.Prelude.{List, [], ◌∷◌, ℕ, ℤ, pos}

abbrev pub corners_of_Q : List ℤ
corners_of_Q = pos 0 ∷ pos 0 ∷ pos 10 ∷ pos 0 ∷ pos 10 ∷ pos 10 ∷ pos 0 ∷ pos 10 ∷ []

abbrev pub cells_of_Q : List ℕ
cells_of_Q = 0 ∷ 1 ∷ 2 ∷ 65535 ∷ 65535 ∷ 1 ∷ 0 ∷ 2 ∷ 3 ∷ 0 ∷ 65535 ∷ 65535 ∷ []

abbrev pub doors_of_Q : List ℕ
doors_of_Q = 2 ∷ []
