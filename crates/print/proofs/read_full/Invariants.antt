-- The bytes read stand within the buffer, and each turn reads at least one.
use Rattle.std.proofs.Common.{length, ◌-◌, ◌≤◌}
use Rattle.print.proofs.read_full.Given as goal

abbrev pub invariant-loop-done : goal.invariant-loop-done
invariant-loop-done l = l.done ≤ length l.buffer

abbrev pub decreases-loop-done : goal.decreases-loop-done
decreases-loop-done l = length l.buffer - l.done
