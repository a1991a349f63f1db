-- `checking::neighbour::is_reversed` meets its contract.
use borrow.Author.Tests.{tests}
use Rattle.std.proofs.Common.{rules}
use Rattle.cells.specs.Meeting.{reversed}
use Rattle.cells.proofs.Faces.{side_exists, next_is_a_side}
use Rattle.checking.proofs.neighbour.is_reversed.Goals as goal

pub start-requires : goal.start-requires
start-requires c = side_exists c.args.cells.now.numbered c.requires.d_bound c.requires.g_side

pub start-requires-2 : goal.start-requires-2
start-requires-2 c = rw (c.next.ensures.of_a_side c.requires.f_side) (side_exists c.args.cells.now.numbered c.requires.c_bound (next_is_a_side c.args.cells.now.numbered c.requires.c_bound c.requires.f_side))

pub start-requires-then-start : goal.start-requires-then-start
start-requires-then-start c = rw (c.next-then-start.ensures.of_a_side c.requires.g_side) (side_exists c.args.cells.now.numbered c.requires.d_bound (next_is_a_side c.args.cells.now.numbered c.requires.d_bound c.requires.g_side))

pub start-requires-then-start-2 : goal.start-requires-then-start-2
start-requires-then-start-2 c = side_exists c.args.cells.now.numbered c.requires.c_bound c.requires.f_side

pub returns-then-start : goal.returns-then-start
unfolding reversed
returns-then-start c = search (rules, tests)

pub returns-else-start : goal.returns-else-start
unfolding reversed
returns-else-start c = search (rules, tests)
