-- `registers::is_run_allowed` meets its contract. The loop's invariant: the whole run is allowed exactly when what is left of it is.
use mathlib.Core.Path.{◌≡◌}
use Prim.Native.Nat.{◌-◌}
use Rattle.registers.specs.Runs.{run_allowed}
use Rattle.registers.proofs.is_run_allowed.Given as goal

abbrev pub invariant-loop : goal.invariant-loop
invariant-loop l = run_allowed l.access l.first l.count ≡ run_allowed l.access l.address (l.count - l.counter)
