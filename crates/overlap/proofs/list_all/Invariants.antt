use mathlib.Core.List.{List}
use mathlib.Core.Path.{◌≡◌}
use Prim.Native.Nat.{ℕ, ◌<◌}
use lib.ListN.{length, get_or}
use Rattle.overlap.proofs.list_all.Given as goal

-- place c holds c, for each c less than n
abbrev pub Counts : List ℕ → ℕ → Type 0
Counts xs n = (c : ℕ) → c < n → get_or xs c 0 ≡ c

abbrev pub invariant-loop-c : goal.invariant-loop-c
invariant-loop-c l = Counts l.list l.c × (length l.list ≡ length l.initial.list)
