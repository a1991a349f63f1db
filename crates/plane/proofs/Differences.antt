-- Differences of coordinates as the code has them, and their products: each difference is at most 2^30, each product 2^60.
use lib.IntN.{ℤ, ◌-ℤ◌, ◌*ℤ◌}
use mir.Syntax.{w64}
use mir.Val.{to_z, of_z}
use Rattle.exact.specs.Within.{Within}
use Rattle.exact.proofs.Bounds.{Exactly, reads_back, minus, times, coordinate}
use Rattle.plane.specs.Side.{limit}

-- a number of the code, read back
abbrev pub back : ℤ → ℤ
back z = to_z w64 (of_z w64 z)

-- the difference of two coordinates
pub apart : {u v : ℤ} → Within limit u → Within limit v → Exactly (back u -ℤ back v) (u -ℤ v) 1073741824
apart h k = minus (coordinate w64 tt h) (coordinate w64 tt k)

-- the product of two such differences
pub crossed : {u v u' v' : ℤ} → Within limit u → Within limit v → Within limit u' → Within limit v' → Exactly (back (back u -ℤ back v) *ℤ back (back u' -ℤ back v')) ((u -ℤ v) *ℤ (u' -ℤ v')) 1152921504606846976
crossed h k h' k' = times (reads_back w64 tt (apart h k)) (reads_back w64 tt (apart h' k'))
