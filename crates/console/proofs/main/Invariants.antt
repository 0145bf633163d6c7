-- `main` is safe: no more is held of a line than the longest has, and a newline.
use Rattle.std.proofs.Common.{◌≤◌}
use Rattle.console.proofs.main.Given as goal

abbrev pub invariant-loop : goal.invariant-loop
invariant-loop l = l.held ≤ 16385
