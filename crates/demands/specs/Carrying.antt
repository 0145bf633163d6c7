-- A SESSION CARRIED from the cutting room to the bench: request E1, over every sequence of calls.
--
--    typed c         the call's numbers are of their types: samples of 16 bits, addresses and bytes of 8; and it is no pin sample, which has no record
--    kept c          a call, if it fits in a list
--    access n a c    an access, if it fits; else, if it gave 27 and so woke the panel, a read of one byte at its address
--    noted n c       the record of a call that gave the number n: done or declined, if it fits; a question has none
--    recorded cs     the records of a session, whose calls are newest first; a list has its oldest call first
--    CarriesSessions K    what the writer wrote of a session plays to the state of that session
use Rattle.std.specs.Prelude.{ℕ, ◌≤◌, ◌≡◌, Bool, true, false, ◌&&◌, List, [], ◌∷◌, ◌++◌, length, take, eqb}
use Rattle.words.specs.Words.{◌if◌, ◌else◌, all}
use Rattle.numbers.specs.Numbers.{done, sleeping}
use Rattle.bits.specs.Bits.{below}
use Rattle.carry.specs.Carried as list
use Rattle.carry.specs.Carried.{Carried, fits, packing}
use Rattle.carry.specs.Calls.{listed}
use Rattle.carry.specs.Statements.{Carrier}
use Rattle.demands.specs.Machine.{Call, reset, look, write, read, held, interrupt, pins, after}
use Rattle.demands.specs.Ours.{called, ours}

unfoldable pub typed : Call → Bool
typed reset = true
typed (look s) = all (below 16) s
typed (write a bs) = below 8 a && all (below 8) bs
typed (read a out) = below 8 a
typed (held row col) = true
typed interrupt = true
typed (pins x) = false

unfoldable pub kept : Carried → List Carried
kept c = c ∷ [] if fits c else []

-- a call that 3 or 4 would decline has no record; asleep it altered something all the same: an access "wakes it" (document 02, E7), and that read does too
unfoldable pub access : ℕ → ℕ → Carried → List Carried
access n a c = c ∷ [] if fits c else (list.read a 1 ∷ [] if eqb n sleeping else [])

unfoldable pub noted : ℕ → Call → List Carried
noted n reset = kept list.reset
noted n (look s) = kept (list.look s)
noted n (write a bs) = access n a (list.write a bs)
noted n (read a out) = access n a (list.read a (length out))
noted n (held row col) = []
noted n interrupt = []
noted n (pins x) = []

unfoldable pub recorded : List Call → List Carried
recorded [] = []
recorded (c ∷ cs) = recorded cs ++ noted (called (after ours cs) c).number c

-- "When an editor reports an odd undo we want the calls that led to it": of any list of numbers that tells a session's calls, and any buffer
-- that has room for it, the writer makes bytes that play to the state of that session
pub record CarriesSessions (K : Carrier) : Type 0 where
  pub carried : (cs : List Call) → all typed cs ≡ true → (ws out : List ℕ) → listed ws ≡ recorded cs → length (packing (recorded cs)) ≤ length out
      → ((K.packs ws out).number ≡ done)
      × (K.plays (take (K.packs ws out).length (K.leaves ws out)) ≡ record { after = after ours cs; number = done })
