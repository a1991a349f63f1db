-- `doors::is_same_list` meets its contract.
use mathlib.Core.Bool.{◌&&◌}
use mathlib.Core.List.{List, [], ◌∷◌}
use mathlib.Core.Path.{◌≡◌, refl, ap, ◌∙◌}
use Prim.Native.Nat.{ℕ}
use lib.Dec.{eqb}
use lib.Pointwise.{pointwise}
use Rattle.doors.specs.Change.{same_list}
use Rattle.doors.proofs.is_same_list.Goals as goal

pair_by_pair : (a b : List ℕ) → pointwise eqb a b ≡ same_list a b
unfolding same_list
pair_by_pair [] [] = refl
pair_by_pair [] (y ∷ ys) = refl
pair_by_pair (x ∷ xs) [] = refl
pair_by_pair (x ∷ xs) (y ∷ ys) = ap (λ r. eqb x y && r) (pair_by_pair xs ys)

pub returns : goal.returns
returns c = c.eq.ensures ∙ pair_by_pair _ _
