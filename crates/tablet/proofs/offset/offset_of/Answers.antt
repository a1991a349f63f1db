-- `tablet::offset::offset_of` meets its contract: what is not too far, single precision has.
use mathlib.Core.Path.{ap₂, sym, subst}
use lib.Dec.{T}
use lib.IntN.{ℤ}
use lib.Ieee.{binary32, in_float}
use mir.Syntax.{w64}
use mir.Val.{to_z, of_z}
use Rattle.exact.proofs.Bounds.{Exactly}
use Rattle.plane.specs.Side.{Point, point}
use Rattle.sight.specs.Listing.{seen}
use Rattle.sight.proofs.Corners.{seen_as_read}
use Rattle.tablet.specs.Drawing.{offset}
use Rattle.tablet.proofs.Fars.{not_far, in_single}
use Rattle.tablet.proofs.offset.offset_of.Goals as goal
use Rattle.tablet.proofs.offset.offset_of.Goals.{After-difference, Start}

-- the corner less the stand
abbrev apart : Start → Point
apart s = seen s.args.corners.now (point s.args.q) s.args.i

-- as it was read
read : (c : After-difference) → let r = point c.difference.result in Exactly (to_z w64 (of_z w64 r.x)) (seen c.args.corners.now (point c.args.q) c.args.i).x 1073741824 × Exactly (to_z w64 (of_z w64 r.y)) (seen c.args.corners.now (point c.args.q) c.args.i).y 1073741824
read c = seen_as_read c.requires.corners_near.0 c.requires.corners_near.1 c.requires.i_bound.0 c.difference.result c.difference.ensures

pub int_to_float-result : goal.int_to_float-result
int_to_float-result c = subst (λ (z : ℤ). T (in_float binary32 z)) (sym (read (goal.at.int_to_float-result c).After-difference).0.is) (in_single (apart (goal.at.int_to_float-result c).Start).x (not_far (apart (goal.at.int_to_float-result c).Start) c.requires.i_bound.1).0)

pub int_to_float-result-2 : goal.int_to_float-result-2
int_to_float-result-2 c = subst (λ (z : ℤ). T (in_float binary32 z)) (sym (read (goal.at.int_to_float-result-2 c).After-difference).1.is) (in_single (apart (goal.at.int_to_float-result-2 c).Start).y (not_far (apart (goal.at.int_to_float-result-2 c).Start) c.requires.i_bound.1).1)

pub returns : goal.returns
returns c = let r = read (goal.at.returns c).After-difference in ap₂ (λ (x y : ℤ). offset (record { x = x; y = y })) r.0.is r.1.is
