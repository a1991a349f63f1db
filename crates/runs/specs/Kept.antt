-- Elements that stand in another list, in their order.
use Rattle.std.specs.Prelude.{List, [], ◌∷◌}

-- the first list is left of the second where some of its elements are left out
pub data StandIn {A : Type 0} : List A → List A → Type 0 where
  none : {ys : List A} → StandIn [] ys
  this : {x : A} {xs ys : List A} → StandIn xs ys → StandIn (x ∷ xs) (x ∷ ys)
  later : {y : A} {xs ys : List A} → StandIn xs ys → StandIn xs (y ∷ ys)
