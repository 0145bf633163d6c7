-- What the fourteen lent forms promise: the number, and what everything lent to be altered holds when the call returns.
--
--    LookLent m s number after              a look with samples s, lent the module m
--    LooksLent m s number after done        a block of looks with samples s, of which so many are done
--    WriteLent m a bs number after          a write of the bytes bs at the address a
--    ReadLent m a out number after bytes    a read at the address a into the buffer out, which then holds these bytes
--    HeldLent m row col number answer       is the key at this row and column held? m is lent to be looked at only
--    InterruptLent m number answer          is the interrupt line asserted? m is lent to be looked at only
--    PinsLent m x number after              the pins are sampled
--    DriveLent m number driven level        which pins are driven, and to what level? m is lent to be looked at only
--    BegunLent r number wire                a transfer on the bus begins, which gives r by value; the module is lent to be looked at only
--    KeptLent r answer wire                 a byte comes from the host, or the transfer is dropped
--    HandedLent r byte wire                 the bus asks for a byte
--    EndedLent r count wire                 the transfer stops; the module is lent to be looked at only
--
-- The contracts in src/ are these lines, and proofs/Determined.antt says that each allows one outcome only.
use Rattle.std.specs.Prelude.{ℕ, ◌≡◌, Bool, List, length}
use Rattle.state.specs.declared.Module.{Module}
use Rattle.calls.specs.Calls.{look_call, write_call, read_call, read_buffer, held_call, interrupt_call, pins_call, drive_call}
use Rattle.calls.specs.Blocks.{looks_call}
use Rattle.wire.specs.declared.Wire.{Wire}
use Rattle.wire.specs.Wire.{Begun, Ended, Kept, Handed}

abbrev pub LookLent : Module → List ℕ → ℕ → Module → Type 0
LookLent m s number after = (number ≡ (look_call m s).number) × (after ≡ (look_call m s).after)

abbrev pub LooksLent : Module → List ℕ → ℕ → Module → ℕ → Type 0
LooksLent m s number after done = (number ≡ (looks_call m s).number) × (after ≡ (looks_call m s).after) × (done ≡ (looks_call m s).done)

abbrev pub WriteLent : Module → ℕ → List ℕ → ℕ → Module → Type 0
WriteLent m a bs number after = (number ≡ (write_call m a bs).number) × (after ≡ (write_call m a bs).after)

abbrev pub ReadLent : Module → ℕ → List ℕ → ℕ → Module → List ℕ → Type 0
ReadLent m a out number after bytes =
    (number ≡ (read_call m a (length out)).number) × (after ≡ (read_call m a (length out)).after) × (bytes ≡ read_buffer m a out)

abbrev pub HeldLent : Module → ℕ → ℕ → ℕ → Bool → Type 0
HeldLent m row col number answer = (number ≡ (held_call m row col).number) × (answer ≡ (held_call m row col).yes)

abbrev pub InterruptLent : Module → ℕ → Bool → Type 0
InterruptLent m number answer = (number ≡ (interrupt_call m).number) × (answer ≡ (interrupt_call m).yes)

abbrev pub PinsLent : Module → ℕ → ℕ → Module → Type 0
PinsLent m x number after = (number ≡ (pins_call m x).number) × (after ≡ (pins_call m x).after)

abbrev pub DriveLent : Module → ℕ → ℕ → ℕ → Type 0
DriveLent m number driven level = (number ≡ (drive_call m).number) × (driven ≡ (drive_call m).driven) × (level ≡ (drive_call m).level)

abbrev pub BegunLent : Begun → ℕ → Wire → Type 0
BegunLent r number wire = (number ≡ r.number) × (wire ≡ r.wire)

abbrev pub KeptLent : Kept → Bool → Wire → Type 0
KeptLent r answer wire = (answer ≡ r.yes) × (wire ≡ r.wire)

abbrev pub HandedLent : Handed → ℕ → Wire → Type 0
HandedLent r byte wire = (byte ≡ r.byte) × (wire ≡ r.wire)

abbrev pub EndedLent : Ended → ℕ → Wire → Type 0
EndedLent r count wire = (count ≡ r.count) × (wire ≡ r.wire)
