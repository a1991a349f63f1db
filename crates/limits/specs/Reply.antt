-- Answers in numbers (document 01, "Reply numbers"; document 02): reply number, place, and the values that come with 0.
use Rattle.std.specs.Prelude.{List, [], ◌∷◌, ℕ, Err, Ok, Result}
use Rattle.limits.specs.declared.Refusal.{Refusal}
use Rattle.limits.specs.declared.Refusal.TheVariants.{Frame, Size, Corner, Cell, Neighbour, Door, Overlap, Setting, Stand, Line, Outside, Room, Change, Rows, Far, Reach, Ceiling}
use Rattle.limits.specs.declared.Plan.{Plan}

abbrev pub number : Refusal → ℕ
number Frame = 1
number Size = 2
number (Corner i) = 3
number (Cell c) = 4
number (Neighbour f) = 5
number (Door i) = 6
number (Overlap c) = 17
number Setting = 7
number Stand = 8
number Line = 9
number Outside = 10
number Room = 11
number Change = 12
number Rows = 13
number Far = 14
number Reach = 15
number Ceiling = 19

abbrev pub place : Refusal → ℕ
place Frame = 0
place Size = 0
place (Corner i) = i
place (Cell c) = c
place (Neighbour f) = f
place (Door i) = i
place (Overlap c) = c
place Setting = 0
place Stand = 0
place Line = 0
place Outside = 0
place Room = 0
place Change = 0
place Rows = 0
place Far = 0
place Reach = 0
place Ceiling = 0

pub record Reply : Type 0 where
  pub number : ℕ
  pub place : ℕ
  pub values : List ℕ

-- done: number 0, place 0 and the values
abbrev pub done : List ℕ → Reply
done vs = record { number = 0; place = 0; values = vs }

-- a refusal returns its number and place only
abbrev pub refused : Refusal → Reply
refused r = record { number = number r; place = place r; values = [] }

-- the reply to an answer: done with its values, or refused
abbrev pub reply_to : {A : Type 0} → (A → List ℕ) → Result A Refusal → Reply
reply_to values (Ok x) = done (values x)
reply_to values (Err r) = refused r

-- check and writer: the counts of corners, cells and doors
abbrev pub plan_values : Plan → List ℕ
plan_values p = p.corners ∷ p.cells ∷ p.doors ∷ []

abbrev pub checked_reply : Result Plan Refusal → Reply
checked_reply = reply_to plan_values
