-- `start::read_to_end` meets its contract: each turn reads one byte or more.
use Rattle.std.proofs.Common.{◌≤◌, ◌-◌, length}
use Rattle.console.proofs.start.read_to_end.Given as goal

abbrev pub invariant-loop-at : goal.invariant-loop-at
invariant-loop-at g l = l.at ≤ length l.bytes

abbrev pub decreases-loop-at : goal.decreases-loop-at
decreases-loop-at g l = length l.initial.bytes - l.at
