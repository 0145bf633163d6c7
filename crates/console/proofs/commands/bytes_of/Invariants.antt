-- `commands::bytes_of` meets its contract: there are no more digits than bytes of the line.
use Rattle.std.proofs.Common.{◌≤◌}
use Rattle.console.proofs.commands.bytes_of.Given as goal

abbrev pub invariant-loop-i : goal.invariant-loop-i
invariant-loop-i l = (l.start ≤ l.i) × (l.digits ≤ l.i)
