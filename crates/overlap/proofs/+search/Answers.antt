-- `overlap::search` meets its contract.
use native.Mathlib.Omega.{arith}
use Rattle.overlap.proofs.Halves.{settled_by_parts}
use Rattle.overlap.proofs.+search.Goals as goal

pub returns-in-Some : goal.returns-in-Some
returns-in-Some t c = let all = c.args.all.now in
    settled_by_parts all.ready all.boxed c.requires.listed _ _
    (omega (arith, c.requires.list_len_bound, c.pick-k.ensures.part_len_unchanged)) c.pick-k.ensures.picked c.search-found.ensures
    (omega (arith, c.requires.list_len_bound, c.pick-k.ensures.part_len_unchanged, c.pick-l.ensures.part_len_unchanged)) c.pick-l.ensures.picked c.search.ensures
