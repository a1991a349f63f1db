-- `setting::open` meets its contract.
use Rattle.setting.proofs.Settings.{and_not_opens}
use borrow.Author.Rules.{rules}
use Rattle.setting.proofs.open.Goals as goal

pub returns : goal.returns
returns c = and_not_opens c.args.setting c.args.i c.requires (search rules)
