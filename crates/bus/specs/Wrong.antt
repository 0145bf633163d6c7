-- WRONG PARTS: our wire, with one thing wrong in each. None meets BusDemand: proofs/Refuted.antt.
--
--    naive      each byte that the bus asks for is a read of its own, also the one that is never sent
--    greedy     the stop reads all bytes that were handed over
--    early      the whole read is made at its beginning
--    stubborn   the stop of a read makes none
--    blind      the stop reads what was sent, though a look came between
--    mute       every byte is FF, and nothing is read
--    deaf       a write is never made
--    loud       a transfer that is dropped makes its access
use Rattle.std.specs.Prelude.{ℕ, List, [], ◌∷◌, length, get_or, replicate, eqb}
use Rattle.words.specs.Words.{◌if◌, ◌else◌}
use Rattle.registers.specs.Runs as runs
use Rattle.state.specs.declared.Module.{Module}
use Rattle.wire.specs.declared.Wire.{Wire}
use Rattle.wire.specs.Wire as wire
use Rattle.demands.specs.Machine.{Call, read}
use Rattle.demands.specs.Ours as calls
use Rattle.demands.specs.Ours.{called}
use Rattle.bus.specs.Bus.{Step, reads, writes, takes, gives, stops, drops, Moves, Part}
use Rattle.bus.specs.Ours.{nameless, twice, access_of, moved, steps}

-- ours, but that the steps do this
abbrev pub doing : (Wire → Module → Step → Moves Wire) → Part calls.ours
doing does = record { State = Wire; start = nameless; moves = does }

-- ours, but that a read which stops does this
unfoldable pub stopping : (Wire → Module → ℕ → List Call) → Wire → Module → Step → Moves Wire
stopping f w m reads = steps w m reads
stopping f w m writes = steps w m writes
stopping f w m (takes b) = steps w m (takes b)
stopping f w m gives = steps w m gives
stopping f w m (stops n) = moved (wire.idle w) (f w m n) 0 if eqb w.doing wire.reads else steps w m (stops n)
stopping f w m drops = steps w m drops

-- all of n bytes, however few were sent
unfoldable pub committed : Wire → Module → ℕ → List Call
committed w m n = [] if eqb n 0 else twice m (access_of w n)

abbrev pub greedy : Part calls.ours
greedy = doing (stopping (λ w m n. committed w m w.given))

abbrev pub stubborn : Part calls.ours
stubborn = doing (stopping (λ w m n. []))

abbrev pub blind : Part calls.ours
blind = doing (stopping (λ w m n. committed w m (length (wire.sent w n))))

-- the address rises as in a long read
unfoldable pub single : Wire → Module → Moves Wire
single w m =
    let c = read w.first (wire.nothing ∷ []) in
    moved (record { bytes = w.bytes; count = w.count; given = w.given; first = runs.next w.first; doing = w.doing }) (c ∷ []) (get_or (called m c).buffer 0 0)

unfoldable pub naively : Wire → Module → Step → Moves Wire
naively w m reads = steps w m reads
naively w m writes = steps w m writes
naively w m (takes b) = steps w m (takes b)
naively w m gives = single w m if eqb w.doing wire.reads else steps w m gives
naively w m (stops n) = moved (wire.idle w) [] 0 if eqb w.doing wire.reads else steps w m (stops n)
naively w m drops = steps w m drops

abbrev pub naive : Part calls.ours
naive = doing naively

unfoldable pub beginning : Wire → Module → Step → Moves Wire
beginning w m reads = moved (wire.begin_read m w).wire (read w.first (replicate (wire.longest w.first) 0) ∷ []) 0
beginning w m writes = steps w m writes
beginning w m (takes b) = steps w m (takes b)
beginning w m gives = steps w m gives
beginning w m (stops n) = moved (wire.idle w) [] 0 if eqb w.doing wire.reads else steps w m (stops n)
beginning w m drops = steps w m drops

abbrev pub early : Part calls.ours
early = doing beginning

unfoldable pub silently : Wire → Module → Step → Moves Wire
silently w m reads = steps w m reads
silently w m writes = steps w m writes
silently w m (takes b) = steps w m (takes b)
silently w m gives = moved w [] wire.nothing
silently w m (stops n) = steps w m (stops n)
silently w m drops = steps w m drops

abbrev pub mute : Part calls.ours
mute = doing silently

unfoldable pub hearing_none : Wire → Module → Step → Moves Wire
hearing_none w m reads = steps w m reads
hearing_none w m writes = steps w m writes
hearing_none w m (takes b) = steps w m (takes b)
hearing_none w m gives = steps w m gives
hearing_none w m (stops n) = moved (wire.idle w) [] 0 if eqb w.doing wire.writes else steps w m (stops n)
hearing_none w m drops = steps w m drops

abbrev pub deaf : Part calls.ours
deaf = doing hearing_none

unfoldable pub dropping : Wire → Module → Step → Moves Wire
dropping w m reads = steps w m reads
dropping w m writes = steps w m writes
dropping w m (takes b) = steps w m (takes b)
dropping w m gives = steps w m gives
dropping w m (stops n) = steps w m (stops n)
dropping w m drops = steps w m (stops w.given)

abbrev pub loud : Part calls.ours
loud = doing dropping
