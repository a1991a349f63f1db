-- A promise said twice: of the answer, and of what it is in document 01's numbers.
use mathlib.Core.Path.{◌≡◌, ap}

pub said_twice : {A B : Type 0} (in_numbers : A → B) {answer defined : A} → answer ≡ defined → (answer ≡ defined) × (in_numbers answer ≡ in_numbers defined)
said_twice in_numbers e = (e, ap in_numbers e)
