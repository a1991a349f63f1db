-- `sight::list::list_up_to` meets its contract.
use Rattle.sight.proofs.UpTo.{all_followed}
use Rattle.sight.proofs.list.list_up_to.Goals as goal

pub list_all-requires : goal.list_all-requires
list_all-requires c = record { lines = c.requires.lines; stands_in = c.requires.stands_in; whole = c.requires.whole; p_in_bounds = c.requires.p_in_bounds; p_bound = c.requires.p_bound.1 }

pub list_apart-requires : goal.list_apart-requires
list_apart-requires c = record { lines = c.requires.lines; stands_in = c.requires.stands_in; whole = c.requires.whole; p_in_bounds = c.requires.p_in_bounds; p_bound = c.requires.p_bound }

pub returns-in-None : goal.returns-in-None
returns-in-None c = rw c.in-None.is (all_followed _ _ (c.list_all.ensures.rows_value, (c.list_all.ensures.crossings_value, c.list_all.ensures.table_after)))

pub returns-in-Some : goal.returns-in-Some
returns-in-Some c = rw c.in-Some.is c.list_apart.ensures
