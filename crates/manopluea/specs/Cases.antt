-- The twelve measured examples of document 01, cases a to l: plan, stand (as doubles), setting and reply. No reach is stated, so every row ends in 0 (document 02,
-- A5).
use Rattle.std.specs.Prelude.{List, [], ◌∷◌, ◌++◌, ℕ, ◌*◌, Float, replicate, ℤ, pos, negsuc, Err, None, Ok, Result}
use Rattle.std.specs.Float.Ieee.{of_bits}
use Rattle.std.specs.Float.{binary64}
use Rattle.cells.specs.Lists.{corner_count}
use Rattle.cells.specs.PlanQ.{corners_of_Q, cells_of_Q, doors_of_Q}
use Rattle.limits.specs.Limits.{triangles}
use Rattle.limits.specs.declared.Refusal.TheVariants.{Setting, Stand as NoStand, Line, Outside}
use Rattle.stand.specs.declared.spot.Stand.{Stand}
use Rattle.stand.specs.declared.spot.Stand.TheVariants.{Point}
use Rattle.sight.specs.Ceiling.{listed_up_to}
use Rattle.sight.specs.declared.list.Counts.{Counts}
use Rattle.limits.specs.declared.Refusal.{Refusal}

-- Q+P: corner 4 at P, neighbour 1 of cell 1 set to 2, and cell 2 of corners 3, 2, 4
abbrev pub corners_of_Q+ : ℤ → ℤ → List ℤ
corners_of_Q+ x y = corners_of_Q ++ (x ∷ y ∷ [])

abbrev pub cells_of_Q+ : List ℕ
cells_of_Q+ = 0 ∷ 1 ∷ 2 ∷ 65535 ∷ 65535 ∷ 1 ∷ 0 ∷ 2 ∷ 3 ∷ 0 ∷ 2 ∷ 65535 ∷ 3 ∷ 2 ∷ 4 ∷ 1 ∷ 65535 ∷ 65535 ∷ []

-- the four corners of Q as one cell of a list of kind 12: its corner count, its corners, and its neighbours, all wall
abbrev pub square_of_Q : List ℕ
square_of_Q = 4 ∷ 0 ∷ 1 ∷ 2 ∷ 3 ∷ 65535 ∷ 65535 ∷ 65535 ∷ 65535 ∷ []

pub record Case : Type 0 where
  pub corners : List ℤ
  pub cells : List ℕ
  pub setting : ℕ
  pub stand : Stand
  pub reply : Result Counts Refusal
  -- the numbers of the rows, and behind them the table's old values
  pub table : List ℕ

-- the doubles of the examples, by their bits
abbrev pub double : ℕ → Float
double b = of_bits binary64 b

abbrev pub three : Float
three = double 0x4008000000000000

abbrev pub five : Float
five = double 0x4014000000000000

abbrev pub six : Float
six = double 0x4018000000000000

abbrev pub six_and_a_half : Float
six_and_a_half = double 0x401a000000000000

abbrev pub eleven : Float
eleven = double 0x4026000000000000

abbrev pub minus_zero : Float
minus_zero = double 0x8000000000000000

-- the value that stands in every place of the table before the call
abbrev pub old : ℕ
old = 777

abbrev pub on_Q : ℕ → Float → Float → Result Counts Refusal → List ℕ → Case
on_Q w x y r t = record { corners = corners_of_Q; cells = cells_of_Q; setting = w; stand = Point x y; reply = r; table = t }

abbrev pub on_Q+ : ℤ → ℤ → Result Counts Refusal → List ℕ → Case
on_Q+ px py r t = record { corners = corners_of_Q+ px py; cells = cells_of_Q+; setting = 0; stand = Point six three; reply = r; table = t }

-- a table of 4·corners old values
abbrev pub untouched : List ℕ
untouched = replicate 16 old

-- cases a to l in their order; case h stands in the doorway (document 02, A4)
abbrev pub cases : List Case
cases =
    on_Q 0 six three (Ok (record { rows = 4; crossings = 1 })) (0 ∷ 0 ∷ 1 ∷ 0 ∷ 1 ∷ 1 ∷ 2 ∷ 0 ∷ 4 ∷ 2 ∷ 3 ∷ 0 ∷ 5 ∷ 3 ∷ 0 ∷ 0 ∷ [])
    ∷ on_Q 1 six three (Ok (record { rows = 3; crossings = 0 })) (0 ∷ 0 ∷ 1 ∷ 0 ∷ 1 ∷ 1 ∷ 2 ∷ 0 ∷ 2 ∷ 2 ∷ 0 ∷ 0 ∷ old ∷ old ∷ old ∷ old ∷ [])
    ∷ on_Q 0 three six (Ok (record { rows = 4; crossings = 1 })) (0 ∷ 0 ∷ 1 ∷ 0 ∷ 1 ∷ 1 ∷ 2 ∷ 0 ∷ 4 ∷ 2 ∷ 3 ∷ 0 ∷ 5 ∷ 3 ∷ 0 ∷ 0 ∷ [])
    ∷ on_Q+ (pos 0) (pos 20) (Ok (record { rows = 5; crossings = 2 })) (0 ∷ 0 ∷ 1 ∷ 0 ∷ 1 ∷ 1 ∷ 2 ∷ 0 ∷ 7 ∷ 2 ∷ 4 ∷ 0 ∷ 8 ∷ 4 ∷ 3 ∷ 0 ∷ 5 ∷ 3 ∷ 0 ∷ 0 ∷ [])
    ∷ on_Q+ (negsuc 5) (pos 17) (Ok (record { rows = 4; crossings = 2 })) (0 ∷ 0 ∷ 1 ∷ 0 ∷ 1 ∷ 1 ∷ 2 ∷ 0 ∷ 7 ∷ 2 ∷ 3 ∷ 0 ∷ 5 ∷ 3 ∷ 0 ∷ 0 ∷ old ∷ old ∷ old ∷ old ∷ [])
    ∷ on_Q+ (pos 14) (pos 17) (Ok (record { rows = 4; crossings = 2 })) (0 ∷ 0 ∷ 1 ∷ 0 ∷ 1 ∷ 1 ∷ 2 ∷ 0 ∷ 8 ∷ 2 ∷ 3 ∷ 0 ∷ 5 ∷ 3 ∷ 0 ∷ 0 ∷ old ∷ old ∷ old ∷ old ∷ [])
    ∷ on_Q+ (pos 30) (pos 11) (Ok (record { rows = 4; crossings = 2 })) (0 ∷ 0 ∷ 1 ∷ 0 ∷ 1 ∷ 1 ∷ 2 ∷ 0 ∷ 8 ∷ 2 ∷ 3 ∷ 0 ∷ 5 ∷ 3 ∷ 0 ∷ 0 ∷ old ∷ old ∷ old ∷ old ∷ [])
    ∷ on_Q 0 five five (Ok (record { rows = 4; crossings = 0 })) (0 ∷ 0 ∷ 1 ∷ 0 ∷ 1 ∷ 1 ∷ 2 ∷ 0 ∷ 4 ∷ 2 ∷ 3 ∷ 0 ∷ 5 ∷ 3 ∷ 0 ∷ 0 ∷ [])
    ∷ on_Q 0 eleven five (Err Outside) untouched
    ∷ on_Q 0 six_and_a_half three (Err NoStand) untouched
    ∷ on_Q 0 six minus_zero (Err Line) untouched
    ∷ on_Q 2 six three (Err Setting) untouched
    ∷ []

-- the stand of case h in the doorway while its door is shut
abbrev pub in_the_shut_doorway : Case
in_the_shut_doorway = on_Q 1 five five (Err Line) untouched

-- what the listing's definition says of a case, and what document 01 says
abbrev pub computed : Case → Result Counts Refusal × List ℕ
computed k =
    listed_up_to triangles k.corners k.cells doors_of_Q (record { setting = k.setting; stand = k.stand; reach = None }) None (replicate (4 * corner_count k.corners) old)

abbrev pub stated : Case → Result Counts Refusal × List ℕ
stated k = (k.reply, k.table)
