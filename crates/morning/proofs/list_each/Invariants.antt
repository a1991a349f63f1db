use mathlib.Core.Path.{◌≡◌}
use Prim.Native.Nat.{◌≤◌}
use lib.ListN.{length}
use Rattle.face.specs.Tables.{tables}
use Rattle.morning.specs.OverLines.{single_on}
use Rattle.morning.proofs.Each.{SoFar}
use Rattle.morning.proofs.list_each.Given as goal

abbrev pub invariant-loop-i : goal.invariant-loop-i
invariant-loop-i l = (l.i ≤ l.count) × (SoFar (single_on l.plan.corners.now (tables l.plan.cells) l.plan.doors.now l.setting l.reach l.ceiling) l.stands l.i l.rows l.crossings l.initial.table l.table l.initial.replies l.replies × (length l.seen ≡ length l.plan.corners.now))
