-- `commands::list_of` is safe: the place is within the line.
use Rattle.std.proofs.Common.{◌≤◌, length}
use Rattle.console.proofs.commands.list_of.Given as goal

abbrev pub invariant-loop-count : goal.invariant-loop-count
invariant-loop-count l = l.at ≤ length l.line
