-- `feed` meets its contract: each turn passes over one line.
use Rattle.std.proofs.Common.{◌≤◌, ◌-◌, length}
use Rattle.console.proofs.feed.Given as goal

abbrev pub invariant-loop-end : goal.invariant-loop-end
invariant-loop-end l = (l.start ≤ l.end) × (l.end ≤ length l.input)

abbrev pub decreases-loop-end : goal.decreases-loop-end
decreases-loop-end l = length l.input - l.start
