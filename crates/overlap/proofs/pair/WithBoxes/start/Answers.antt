-- `overlap::pair::WithBoxes::start` meets its contract.
use Rattle.overlap.proofs.Pairs.{corner_there, corner_near}
use Rattle.overlap.proofs.pair.WithBoxes.start.Goals as goal

pub at-requires : goal.at-requires
at-requires c = corner_there c.args.self.now.ready c.requires c.start.ensures

pub returns-clause-near : goal.returns-clause-near
returns-clause-near c = corner_near c.args.self.now.ready c.requires c.start.ensures c.at.ensures
