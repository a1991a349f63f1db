-- The seven numbers of a reply, and what each call leaves in the lent memory (document 01, "Reply numbers"; document 02).
use Rattle.std.specs.Prelude.{Bool, true, false, List, [], ◌∷◌, ℕ, ◌/◌, ◌%◌, eqb, leb, length, get_or, ℤ, Float, Option}
use Rattle.std.specs.Bool.{then_some}
use Rattle.std.proofs.lemmas.List.Edits.{sets}
use Rattle.limits.specs.Reply.{Reply, refused}
use Rattle.limits.specs.declared.Refusal.TheVariants.{Frame}
use Rattle.stand.specs.declared.spot.Stand.{Stand}
use Rattle.sight.specs.declared.view.Query.{Query}
use Rattle.stands.specs.Numbered.{stands_of}
use Rattle.manopluea.specs.Calls.{check_replies, read_replies, write_replies, find_replies, list_replies, draw_replies, change_replies, list_stands_replies}
use Rattle.printing.specs.Reply.{print_replies}

abbrev pub seven : ℕ → ℕ → ℕ → ℕ → ℕ → ℕ → ℕ → List ℕ
seven n p a b c d e = n ∷ p ∷ a ∷ b ∷ c ∷ d ∷ e ∷ []

-- number, place and up to five values, 0 for those that a reply does not have
abbrev pub numbers_of : Reply → List ℕ
numbers_of r =
    seven r.number r.place (get_or r.values 0 0) (get_or r.values 1 0) (get_or r.values 2 0) (get_or r.values 3 0) (get_or r.values 4 0)

-- up to five values, 0 for those that are not there
abbrev pub five : List ℕ → List ℕ
five vs = get_or vs 0 0 ∷ get_or vs 1 0 ∷ get_or vs 2 0 ∷ get_or vs 3 0 ∷ get_or vs 4 0 ∷ []

-- ---- lent memory and reply at exit

-- has the reply room for seven numbers?
abbrev pub has_seven : List ℕ → Bool
has_seven reply = leb 7 (length reply)

-- the reply at exit: seven numbers from its beginning, where it has room for them
abbrev pub replied : Bool → List ℕ → List ℕ → List ℕ
replied true reply numbers = sets reply 0 numbers
replied false reply numbers = reply

-- lent memory at exit: what the call leaves, or its contents at entry where the reply has no room
abbrev pub left : {A : Type 0} → Bool → A → A → A
left true old new = new
left false old new = old

unfoldable pub check_left : ℕ → List ℤ → List ℕ → List ℕ → List ℕ → List ℕ
check_left kind cs ts ds reply = replied (has_seven reply) reply (numbers_of (check_replies kind cs ts ds))

unfoldable pub write_left : ℕ → List ℤ → List ℕ → List ℕ → List ℕ → List ℕ → List ℕ × List ℕ
write_left kind cs ts ds file reply = (
  left (has_seven reply) file (write_replies kind cs ts ds file).1,
  replied (has_seven reply) reply (numbers_of (write_replies kind cs ts ds file).0),
)

unfoldable pub read_left : List ℕ → List ℤ → List ℕ → List ℕ → List ℕ → (List ℤ × (List ℕ × List ℕ)) × List ℕ
read_left file corners cells doors reply = (
  left (has_seven reply) (corners, (cells, doors)) (read_replies file corners cells doors).1,
  replied (has_seven reply) reply (numbers_of (read_replies file corners cells doors).0),
)

unfoldable pub find_left : ℕ → List ℤ → List ℕ → List ℕ → ℕ → Stand → List ℕ → List ℕ
find_left kind cs ts ds w s reply = replied (has_seven reply) reply (numbers_of (find_replies kind cs ts ds w s))

-- what is asked: setting, stand, whether a reach is stated, and which
abbrev pub query : ℕ → Stand → Bool → ℕ → Query
query w s stated n = record { setting = w; stand = s; reach = then_some stated n }

unfoldable pub list_left : ℕ → List ℤ → List ℕ → List ℕ → ℕ → Stand → Bool → ℕ → Bool → ℕ → List ℕ → List ℕ → List ℕ × List ℕ
list_left kind cs ts ds w s stated n limited m table reply = (
  left (has_seven reply) table (list_replies kind cs ts ds (query w s stated n) (then_some limited m) table).1,
  replied (has_seven reply) reply (numbers_of (list_replies kind cs ts ds (query w s stated n) (then_some limited m) table).0),
)

unfoldable pub draw_left : ℕ → List ℤ → List ℕ → List ℕ → ℕ → Stand → Bool → ℕ → List Float → List ℕ → List Float × List ℕ
draw_left kind cs ts ds w s stated n lent reply = (
  left (has_seven reply) lent (draw_replies kind cs ts ds (query w s stated n) lent).1,
  replied (has_seven reply) reply (numbers_of (draw_replies kind cs ts ds (query w s stated n) lent).0),
)

unfoldable pub change_left : ℕ → List ℤ → List ℕ → List ℕ → ℕ → Stand → Bool → ℕ → List ℕ → ℕ → Bool → List ℕ → List ℕ → List ℕ × List ℕ
change_left kind cs ts ds w s stated n given i b table reply = (
  left (has_seven reply) table (change_replies kind cs ts ds (query w s stated n) given i b table).1,
  replied (has_seven reply) reply (numbers_of (change_replies kind cs ts ds (query w s stated n) given i b table).0),
)

-- several stands as a list of numbers, three a stand; a list that is not of three numbers each is FRAME
abbrev pub numbered_replies : Bool → ℕ → List ℤ → List ℕ → List ℕ → ℕ → List Float → Option ℕ → Option ℕ → List ℕ → List ℕ → Reply × (List ℕ × List ℕ)
numbered_replies true kind cs ts ds w ns reach ceiling table replies =
    list_stands_replies kind cs ts ds (record { setting = w; count = length ns / 3; reach = reach; ceiling = ceiling }) (stands_of ns) table replies
numbered_replies false kind cs ts ds w ns reach ceiling table replies = (refused Frame, (table, replies))

unfoldable pub list_stands_left : ℕ → List ℤ → List ℕ → List ℕ → ℕ → List Float → Bool → ℕ → Bool → ℕ → List ℕ → List ℕ → List ℕ → (List ℕ × List ℕ) × List ℕ
list_stands_left kind cs ts ds w ns stated n limited m table replies reply =
    let said = numbered_replies (eqb (length ns % 3) 0) kind cs ts ds w ns (then_some stated n) (then_some limited m) table replies in
    (left (has_seven reply) (table, replies) said.1, replied (has_seven reply) reply (numbers_of said.0))

unfoldable pub print_left : List ℕ → List ℕ → List ℕ → List ℕ × List ℕ
print_left input text reply = (
  left (has_seven reply) text (print_replies input text).1,
  replied (has_seven reply) reply (numbers_of (print_replies input text).0),
)
