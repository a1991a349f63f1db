-- `exports::reply::put_numbers` meets its contract.
use mathlib.Core.Path.{◌≡◌}
use native.Mathlib.Omega.{arith}
use lib.ListN.{length}
use borrow.Author.Rules.{rules}
use Rattle.records.proofs.Stores.{part_copied}
use Rattle.exports.proofs.reply.put_numbers.Goals as goal

pub returns : goal.returns
returns c = let seven : length c.args.numbers ≡ 7 = search rules in part_copied c.args.reply.now 0 7 c.args.numbers c.copy_from_slice.ensures.after seven (omega arith)
