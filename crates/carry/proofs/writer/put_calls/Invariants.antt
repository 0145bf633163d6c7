-- `carry::writer::put_calls` meets its contract. The loop's invariant: the records of the calls before i are laid at the front, and the place is behind them.
use Prim.Native.Nat.{◌≤◌}
use mathlib.Core.Path.{◌≡◌}
use mathlib.Core.Bool.{true}
use lib.ListN.{length}
use Rattle.words.specs.Words.{all}
use Rattle.bits.specs.Bits.{below, laid}
use Rattle.carry.specs.Carried.{records}
use Rattle.carry.specs.Places.{bits_to}
use Rattle.carry.proofs.Lists.{begun}
use Rattle.carry.proofs.writer.put_calls.Given as goal

abbrev pub invariant-loop-i : goal.invariant-loop-i
invariant-loop-i l = record {
  low : l.place.bit ≤ 7;
  bytes : all (below 8) l.out ≡ true;
  behind : bits_to l.place ≡ length (records (begun l.calls l.i));
  laid : l.out ≡ laid l.initial.out 0 (records (begun l.calls l.i));
}
