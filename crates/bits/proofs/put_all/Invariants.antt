-- `bits::put_all` meets its contract. The loop's invariant: the first i numbers are laid.
use mathlib.Core.Path.{◌≡◌}
use lib.ListN.{length, take}
use Rattle.bits.specs.Bits.{spelled, laid}
use Rattle.bits.proofs.put_all.Given as goal

abbrev pub invariant-loop-i : goal.invariant-loop-i
invariant-loop-i l = (length l.out ≡ length l.initial.out) × (l.out ≡ laid l.initial.out l.place (spelled l.width (take l.i l.numbers)))
