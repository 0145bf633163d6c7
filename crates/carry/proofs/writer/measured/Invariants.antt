-- `carry::writer::measured` meets its contract. The loop's invariant: no call before i is declined, and the place is behind the records of those calls.
use Prim.Native.Nat.{◌*◌, ◌≤◌}
use mathlib.Core.Path.{◌≡◌}
use lib.ListN.{length}
use Rattle.numbers.specs.Numbers.{number_of}
use Rattle.carry.specs.Carried.{records}
use Rattle.carry.specs.Places.{bits_to}
use Rattle.carry.specs.Writer.{list_lines}
use Rattle.carry.proofs.Lists.{begun}
use Rattle.carry.proofs.writer.measured.Given as goal

abbrev pub invariant-loop-i : goal.invariant-loop-i
invariant-loop-i l = record {
  low : l.place.bit ≤ 7;
  few : l.place.byte ≤ l.i * 34;
  none : number_of (list_lines (begun l.calls l.i)) ≡ 0;
  behind : bits_to l.place ≡ length (records (begun l.calls l.i));
}
