-- `wire::longest` meets its contract. The loop's invariant: the addresses passed can all be read, and the longest run is those and what can be read of the rest.
use Prim.Native.Nat.{◌+◌, ◌-◌}
use mathlib.Core.Path.{◌≡◌}
use Rattle.wire.specs.Wire.{longest, readable}
use Rattle.wire.proofs.longest.Given as goal

abbrev pub invariant-loop-n : goal.invariant-loop-n
invariant-loop-n l = longest l.first ≡ l.n + readable l.address (32 - l.n)
