-- OUR WIRE, as a part between a bus and our calls. It is what include/panel.h makes of the wire's calls and of read and write: panel_wire_reads, panel_wire_writes and panel_wire_stops.
--
--    nameless          a wire of zeros: no transfer is open
--    waking            an access of no bytes: always declined, by 3 or 8, which alter nothing, or asleep by 27, which wakes
--    rouses n          the calls that the beginning of a transfer makes that has the number n: asleep, the access that 27 declines
--    twice m c         a call, and once more if it was declined with 27
--    access_of w n     the access of a transfer that stops, of n bytes
--    made m w n        the calls that a stop makes, where the bus says that n bytes were sent
--    ours              the part
use Rattle.std.specs.Prelude.{ℕ, List, [], ◌∷◌, take, replicate, eqb}
use Rattle.words.specs.Words.{◌if◌, ◌else◌}
use Rattle.state.specs.declared.Module.{Module}
use Rattle.wire.specs.declared.Wire.{Wire}
use Rattle.wire.specs.Wire as wire
use Rattle.demands.specs.Machine.{Call, write, read}
use Rattle.demands.specs.Ours as calls
use Rattle.demands.specs.Ours.{called}
use Rattle.bus.specs.Bus.{Step, reads, writes, takes, gives, stops, drops, Moves, Part}

unfoldable pub nameless : Wire
nameless = record { bytes = replicate 33 0; count = 0; given = 0; first = 0; doing = 0 }

abbrev pub waking : Call
waking = read 0x10 []

unfoldable pub rouses : ℕ → List Call
rouses n = waking ∷ [] if eqb n 27 else []

unfoldable pub twice : Module → Call → List Call
twice m c = c ∷ c ∷ [] if eqb (called m c).number 27 else c ∷ []

-- a read goes into the wire's own bytes, which it has given already
unfoldable pub access_of : Wire → ℕ → Call
access_of w n = write w.first (take n w.bytes) if eqb w.doing wire.writes else read w.first (take n w.bytes)

unfoldable pub made : Module → Wire → ℕ → List Call
made m w n = [] if eqb (wire.counted m w n) 0 else twice m (access_of w (wire.counted m w n))

unfoldable pub moved : Wire → List Call → ℕ → Moves Wire
moved w cs b = record { next = w; calls = cs; byte = b }

unfoldable pub steps : Wire → Module → Step → Moves Wire
steps w m reads = moved (wire.begin_read m w).wire (rouses (wire.begin_read m w).number) 0
steps w m writes = moved (wire.begin_write m w).wire (rouses (wire.begin_write m w).number) 0
steps w m (takes b) = moved (wire.take_byte w b).wire [] 0
steps w m gives = moved (wire.next_byte w).wire [] (wire.next_byte w).byte
steps w m (stops n) = moved (wire.stop m w n).wire (made m w n) 0
steps w m drops = moved (wire.drop_open w).wire [] 0

abbrev pub ours : Part calls.ours
ours = record { State = Wire; start = nameless; moves = steps }
