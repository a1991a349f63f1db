-- `setting::shut` meets its contract.
use Rattle.setting.proofs.Settings.{or_shuts}
use Rattle.setting.proofs.shut.Goals as goal

pub returns : goal.returns
returns c = or_shuts c.args.setting c.args.i c.requires
