-- `pack::gather` meets its contract: a call takes five bytes of the line or more, the semicolon or the end behind it among them.
use Rattle.std.proofs.Common.{◌≤◌, ◌+◌, ◌-◌, ◌*◌, length}
use Rattle.console.proofs.pack.gather.Given as goal

abbrev pub invariant-loop-at : goal.invariant-loop-at
invariant-loop-at l = (l.count * 5 ≤ l.at) × (l.at ≤ length l.line + 1)

abbrev pub decreases-loop-at : goal.decreases-loop-at
decreases-loop-at l = length l.line + 1 - l.at
