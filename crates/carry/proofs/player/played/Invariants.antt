-- `player::played` meets its contract. The loop's invariant: the place is a boundary between records, and playing on from it gives what playing all gives.
use Prim.Native.Nat.{◌*◌, ◌-◌}
use mathlib.Core.Path.{◌≡◌}
use lib.ListN.{length}
use Rattle.bits.specs.Bits.{bits_from}
use Rattle.carry.specs.Carried.{calls_of, unpack}
use Rattle.carry.specs.Places.{bits_to}
use Rattle.carry.specs.Player.{played_as}
use Rattle.carry.proofs.Reading.{Boundary}
use Rattle.carry.proofs.Playing.{play_on}
use Rattle.carry.proofs.player.played.Given as goal

abbrev pub invariant-loop-rest : goal.invariant-loop-rest
invariant-loop-rest l = Boundary l.bytes l.place × (play_on l.m (calls_of (bits_from l.bytes (bits_to l.place))) ≡ (played_as (unpack l.bytes)).after)

abbrev pub decreases-loop-rest : goal.decreases-loop-rest
decreases-loop-rest l = length l.bytes * 8 - bits_to l.place
