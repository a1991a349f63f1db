-- A line that is crossed leaves one cell fewer to enter, and handing on enters no cell by itself: so the measure is twice that number for `cross`, and one
-- more for `hand_on`.
use Prim.Native.Nat.{◌+◌, ◌*◌, ◌/◌, ◌<◌, ◌≤◌}
use lib.ListN.{length}
use Rattle.fan.specs.Sight.{fan, follow}
use Rattle.expand.specs.Floor.{floor_of}
use Rattle.expand.specs.Remains.{Remains}
use Rattle.expand.proofs.+cross_hand_on.Given as goal

abbrev pub decreases-cross : goal.decreases-cross
decreases-cross l = 2 * l.unentered

abbrev pub decreases-hand_on : goal.decreases-hand_on
decreases-hand_on l = 2 * l.unentered + 1

-- one line remains, with so many cells not yet entered and some passages left
abbrev pub invariant-cross-loop-table : goal.invariant-cross-loop-table
invariant-cross-loop-table l =
    let F = floor_of l.seen l.lines l.faces l.reach in
    Remains l.fn.table l.at l.fn.left (follow F l.fn.unentered l.fn.f l.fn.r l.l) l.table (l.at + 4 * l.rows) l.rows l.left (follow F l.unentered l.f l.r l.l)
    × ((l.unentered ≤ l.fn.unentered) × ((4 * l.f + 3 < length l.lines) × (l.r < length l.seen / 2) × (0 < l.left)))

abbrev pub decreases-cross-loop-table : goal.decreases-cross-loop-table
decreases-cross-loop-table l = l.unentered

-- a side remains, and so many after it, and some passages are left
abbrev pub invariant-hand_on-loop-sides : goal.invariant-hand_on-loop-sides
invariant-hand_on-loop-sides l =
    let F = floor_of l.seen l.lines l.faces l.reach in
    Remains l.fn.table l.at l.fn.left (fan F (follow F l.unentered) l.fn.more l.fn.e l.fn.r l.l) l.table (l.at + 4 * l.rows) l.rows l.left (fan F (follow F l.unentered) l.more l.e l.r l.l)
    × ((4 * l.e + 3 < length l.lines) × (l.r < length l.seen / 2) × (0 < l.left))

abbrev pub decreases-hand_on-loop-sides : goal.decreases-hand_on-loop-sides
decreases-hand_on-loop-sides l = l.more
