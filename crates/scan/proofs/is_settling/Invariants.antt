-- `scan::is_settling` meets its contract. The loop's invariant: it is told whether one of the keys so far has a run.
use mathlib.Core.Path.{◌≡◌}
use mathlib.Core.Bool.{not}
use Rattle.scan.proofs.Walk.{rest_below}
use Rattle.scan.proofs.is_settling.Given as goal

abbrev pub invariant-loop-n : goal.invariant-loop-n
invariant-loop-n l = l.settling ≡ not (rest_below l.run l.n-index)
