-- `carry::reader::check` meets its contract. The loop's invariant: the place is a boundary between records.
use Prim.Native.Nat.{◌*◌, ◌-◌}
use lib.ListN.{length}
use Rattle.carry.specs.Places.{bits_to}
use Rattle.carry.proofs.Reading.{Boundary}
use Rattle.carry.proofs.reader.check.Given as goal

abbrev pub invariant-loop-size : goal.invariant-loop-size
invariant-loop-size l = Boundary l.bytes l.place

abbrev pub decreases-loop-size : goal.decreases-loop-size
decreases-loop-size l = length l.bytes * 8 - bits_to l.place
