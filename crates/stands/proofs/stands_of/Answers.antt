-- `stands::stands_of` meets its contract.
use Rattle.std.proofs.Common.{rules}
use lib.ListN.{length}
use Rattle.limits.specs.Limits.{most_stands}
use Rattle.stands.proofs.Filled.{made_from, stand_in, all_stands}
use Rattle.stands.proofs.stands_of.Goals as goal

pub returns : goal.returns
returns c few = let triples = c.as_chunks.result.0.now in
    all_stands _ triples _ c.as_chunks.ensures.front c.as_chunks.ensures.front_len c.from_fn.ensures.items.long few
    (made_from _ (stand_in triples) (length triples) (λ i y q k. (search rules, λ l. search rules)) _ 0 most_stands c.from_fn.ensures.items.each)
