-- `setting::is_shut` meets its contract.
use Rattle.setting.proofs.Settings.{and_tests}
use Rattle.setting.proofs.is_shut.Goals as goal

pub returns : goal.returns
returns c = and_tests c.args.setting c.args.i c.requires
