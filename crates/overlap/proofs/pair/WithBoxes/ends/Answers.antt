-- `overlap::pair::WithBoxes::ends` meets its contract.
use Rattle.cells.proofs.Faces.{side_exists, next_is_a_side}
use Rattle.overlap.proofs.pair.WithBoxes.ends.Goals as goal

pub start-from-requires : goal.start-from-requires
start-from-requires c = side_exists c.args.self.now.ready.numbered c.requires.c_bound c.requires.side_of

pub start-towards-requires : goal.start-towards-requires
start-towards-requires c = let N = c.args.self.now.ready.numbered in
    rw (c.next.ensures.of_a_side c.requires.side_of) (side_exists N c.requires.c_bound (next_is_a_side N c.requires.c_bound c.requires.side_of))
