-- `sight::seen::see_corner` meets its contract.
use mathlib.Core.Path.{ap₂}
use Prim.Native.Nat.{◌+◌, ◌*◌}
use lib.IntN.{ℤ}
use lib.ListN.{set}
use mir.Syntax.{w32}
use Rattle.exact.proofs.Bounds.{fits, reads_back}
use Rattle.sight.proofs.Corners.{seen_as_read}
use Rattle.sight.proofs.seen.see_corner.Goals as goal

pub overflow_cast-seen : goal.overflow_cast-seen
overflow_cast-seen c = fits w32 tt (seen_as_read c.requires.corners_near.0 c.requires.corners_near.1 c.requires.i_bound c.difference.result c.difference.ensures).0

pub overflow_cast-seen-2 : goal.overflow_cast-seen-2
overflow_cast-seen-2 c = fits w32 tt (seen_as_read c.requires.corners_near.0 c.requires.corners_near.1 c.requires.i_bound c.difference.result c.difference.ensures).1

pub returns : goal.returns
returns c = let read = seen_as_read c.requires.corners_near.0 c.requires.corners_near.1 c.requires.i_bound c.difference.result c.difference.ensures in
    ap₂ (λ (x y : ℤ). set (set c.args.seen.now (2 * c.args.i) x) (2 * c.args.i + 1) y) (reads_back w32 tt read.0).is (reads_back w32 tt read.1).is
