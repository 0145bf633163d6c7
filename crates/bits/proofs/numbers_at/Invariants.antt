-- `bits::numbers_at` meets its contract. The loop's invariant: the first i numbers are found, and 0 is behind them.
use Prim.Native.Nat.{◌-◌}
use mathlib.Core.Path.{◌≡◌}
use mathlib.Core.List.{◌++◌}
use lib.ListN.{replicate}
use Rattle.bits.specs.Bits.{numbers, bits_from}
use Rattle.bits.proofs.numbers_at.Given as goal

abbrev pub invariant-loop-i : goal.invariant-loop-i
invariant-loop-i l = l.found ≡ numbers l.i l.width (bits_from l.bytes l.place) ++ replicate (32 - l.i) 0
