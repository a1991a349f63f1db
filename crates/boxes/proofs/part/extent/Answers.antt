-- `boxes::part::extent` meets its contract.
use Rattle.std.proofs.Common.{rules}
use Rattle.std.proofs.lemmas.Iterator.{YieldsList-from_slice}
use Rattle.std.proofs.lemmas.Iterator.Adapters.{serves_from_places}
use Rattle.boxes.proofs.Parts.{box_there}
use Rattle.boxes.proofs.part.extent.Goals as goal

pub fold-requires-clause-can : goal.fold-requires-clause-can
fold-requires-clause-can c = (tt, serves_from_places (YieldsList-from_slice c.args.list.now cc) (λ x q r. search rules) (λ x k h e. let b = box_there c.args.boxes.now c.requires.listed h e in search rules))
