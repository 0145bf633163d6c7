-- WRONG MACHINES: ours, with one thing wrong in each, as document 01 lists them, and some more. None meets the demands: proofs/Refuted.antt.
--
--    Effects, usual, built e    what the looks, writes, reads, line questions and pin samples that are done do; ours; the machine that does so
--    Marked, flagged e then    our module with a flag beside it; the machine whose effects go by the flag, and what each call makes of the flag
--    declining      declines every call
--    blank          EVTCODE is always 7F, and the code is taken out
--    stuck          EVTCODE is always 7F, and the code stays
--    idle           a look does nothing
--    first_look     the first look is handled, and all later ones are ignored
--    inventive      a made-up code waits
--    remembering    a bounce run is counted across a restart
--    unchanged      a dropped change leaves the key as it was
--    lowering       KBDIC clears REVTINT while codes wait, and the codes stay
--    passing        a long read steps past EVTCODE
--    hasty          codes are taken out for a declined access
--    forgetful      the oldest code falls out of a full queue
--    once           a look does nothing once a code waits, until it is fetched
--    emptying       KBDIC clears REVTINT by emptying the queue
--    trusting       every state counts as sound
--    stingy         a single byte of EVTCODE is always 7F, though a longer read gives the codes
--    silent         a change is dropped, and RELINT is not set
use Rattle.std.specs.Prelude.{ℕ, zero, suc, ◌+◌, Bool, true, false, not, ◌&&◌, ◌||◌, List, [], ◌∷◌, length, get_or, replicate, eqb, ltb}
use Rattle.words.specs.Words.{◌if◌, ◌else◌, table}
use Rattle.keys.specs.Keys.{key_at}
use Rattle.registers.specs.Registers.{register_at}
use Rattle.state.specs.declared.Module.{Module}
use Rattle.state.specs.Module.{Queue, queue, sleep, queue_of, with_keys, with_queue, with_relint, with_sleep, fresh}
use Rattle.state.specs.Queue.{waits, put, taken}
use Rattle.flags.specs.Flags.{line}
use Rattle.scan.specs.Scan.{contact_at, changes_below, changes, looked}
use Rattle.access.specs.Bytes.{byte_of, read_out}
use Rattle.access.specs.Accesses.{wrote, read_all, bytes_read}
use Rattle.calls.specs.Calls.{look_number, write_number, read_number, held_number, interrupt_number, pins_number, sampling, outcome, accessed, answer, reset_call, held_call}
use Rattle.demands.specs.Machine.{Call, reset, look, write, read, held, interrupt, pins, Gives, Machine, lent}
use Rattle.demands.specs.Ours.{changing, asking, called}

-- ours, but that the calls do this
abbrev pub doing : (Module → Call → Gives Module) → Machine
doing does = record { State = Module; start = fresh; parts = λ m. m; does = does }

-- what the done calls do
pub record Effects : Type 0 where
  pub look : Module → List ℕ → Module
  pub write : Module → ℕ → List ℕ → Module
  pub read : Module → ℕ → ℕ → Module
  pub bytes : Module → ℕ → ℕ → List ℕ
  pub line : Module → Bool
  pub pins : Module → ℕ → Module

-- what ours do
abbrev pub usual : Effects
usual = record { look = looked; write = wrote; read = read_all; bytes = bytes_read; line = line; pins = sampling }

unfoldable pub called_by : Effects → Module → Call → Gives Module
called_by e m reset = changing reset_call []
called_by e m (look s) = changing (outcome m (e.look m s) (look_number m s)) []
called_by e m (write a bs) = changing (accessed m (e.write m a bs) (write_number m a bs)) []
called_by e m (read a out) =
    let n = read_number m a (length out) in
    changing (accessed m (e.read m a (length out)) n) (e.bytes m a (length out) if eqb n 0 else out)
called_by e m (held row col) = asking (held_call m row col)
called_by e m interrupt = asking (answer m (e.line m) (interrupt_number m))
called_by e m (pins x) = changing (outcome m (e.pins m x) (pins_number m x)) []

abbrev pub built : Effects → Machine
built e = doing (called_by e)

-- one effect for the usual one
abbrev pub looking : (Module → List ℕ → Module) → Machine
looking f = built (record { look = f; write = wrote; read = read_all; bytes = bytes_read; line = line; pins = sampling })

abbrev pub writing : (Module → ℕ → List ℕ → Module) → Machine
writing f = built (record { look = looked; write = f; read = read_all; bytes = bytes_read; line = line; pins = sampling })

abbrev pub reading : (Module → ℕ → ℕ → Module) → (Module → ℕ → ℕ → List ℕ) → Machine
reading f g = built (record { look = looked; write = wrote; read = f; bytes = g; line = line; pins = sampling })

-- our module with a flag beside it, which is clear after reset
pub record Marked : Type 0 where
  pub base : Module
  pub flag : Bool

unfoldable pub carried : Gives Module → Bool → Gives Marked
carried g flag = record { number = g.number; next = record { base = g.next; flag = flag }; buffer = g.buffer; answer = g.answer }

abbrev pub flagged : (Bool → Effects) → (Marked → Call → Bool) → Machine
flagged e then =
    record {
      State = Marked;
      start = record { base = fresh; flag = false };
      parts = λ σ. σ.base;
      does = λ σ c. carried (called_by (e σ.flag) σ.base c) (then σ c);
    }

-- ---- "a module that declines every call"
unfoldable pub declined : Module → Call → Gives Module
declined m c = record { number = 8; next = m; buffer = lent c; answer = false }

abbrev pub declining : Machine
declining = doing declined

-- ---- "one whose EVTCODE is always 7F"
unfoldable pub blank_bytes : Module → ℕ → ℕ → List ℕ
blank_bytes m a n = replicate n 0x7F if eqb a 0x10 else bytes_read m a n

unfoldable pub stays : Module → ℕ → ℕ → Module
stays m a n = m if eqb a 0x10 else read_all m a n

abbrev pub blank : Machine
blank = reading read_all blank_bytes

abbrev pub stuck : Machine
stuck = reading stays blank_bytes

-- ---- "or whose look does nothing"
unfoldable pub nothing : Module → List ℕ → Module
nothing m s = m

abbrev pub idle : Machine
idle = looking nothing

-- ---- "one that handles the first look and ignores later ones"
-- the flag: a look was done
unfoldable pub ignoring : Bool → Effects
ignoring flag = record { look = λ m s. m if flag else looked m s; write = wrote; read = read_all; bytes = bytes_read; line = line; pins = sampling }

unfoldable pub handled : Marked → Call → Bool
handled σ reset = false
handled σ (look s) = σ.flag || eqb (look_number σ.base s) 0
handled σ (write a bs) = σ.flag
handled σ (read a out) = σ.flag
handled σ (held row col) = σ.flag
handled σ interrupt = σ.flag
handled σ (pins x) = σ.flag

abbrev pub first_look : Machine
first_look = flagged ignoring handled

-- ---- "one with a made-up number waiting"
unfoldable pub made_up : Module → List ℕ → Module
made_up m s = with_queue (looked m s) (put (queue_of (looked m s)) 0x00)

abbrev pub inventive : Machine
inventive = looking made_up

-- ---- "Counting a bounce run across a restart, so that one look presses a key."
unfoldable pub runs_kept : Module → ℕ → List ℕ → Module
runs_kept m a bs = with_keys (wrote m a bs) (wrote m a bs).held m.run

abbrev pub remembering : Machine
remembering = writing runs_kept

-- ---- "Not changing the held key when its code was dropped"
-- there is room for key k's change, after those before it
unfoldable pub room_for : Module → List ℕ → ℕ → Bool
room_for m s k = ltb (m.count + length (changes_below m s k)) 15

unfoldable pub keys_kept : Module → List ℕ → Module
keys_kept m s =
    with_keys (looked m s) (table (λ k. (contact_at m s k).held if room_for m s k else get_or m.held k false) 104)
    (table (λ k. (contact_at m s k).run if room_for m s k else get_or m.run k 0) 104)

abbrev pub unchanged : Machine
unchanged = looking keys_kept

-- ---- "Clearing REVTINT on a KBDIC write while codes wait."
-- no code waits in it
unfoldable pub quiet : Module → Module
quiet m = with_queue m (queue (replicate 15 0x7F) 0 m.relint)

-- the flag: REVTINT was cleared, so KBDRIS, KBDMIS and the line are as if no code waited
unfoldable pub hushing : Bool → Effects
hushing flag =
    record {
      look = looked;
      write = wrote;
      read = read_all;
      bytes = λ m a n. bytes_read (quiet m) a n if flag && (eqb a 0x06 || eqb a 0x07) else bytes_read m a n;
      line = λ m. line (quiet m) if flag else line m;
      pins = sampling;
    }

-- a KBDIC write that is done clears it, and the next look that is done sets it again
unfoldable pub hushed : Marked → Call → Bool
hushed σ reset = false
hushed σ (look s) = σ.flag && not (eqb (look_number σ.base s) 0)
hushed σ (write a bs) = σ.flag || (eqb a 0x08 && eqb (write_number σ.base a bs) 0)
hushed σ (read a out) = σ.flag
hushed σ (held row col) = σ.flag
hushed σ interrupt = σ.flag
hushed σ (pins x) = σ.flag

abbrev pub lowering : Machine
lowering = flagged hushing hushed

-- ---- "Stepping past EVTCODE in a long read"
unfoldable pub past_state : Module → ℕ → ℕ → Module
past_state m a zero = m
past_state m a (suc n) = past_state (read_out m (register_at a)) (a + 1) n

unfoldable pub past_bytes : Module → ℕ → ℕ → List ℕ
past_bytes m a zero = []
past_bytes m a (suc n) = byte_of m (register_at a) ∷ past_bytes (read_out m (register_at a)) (a + 1) n

abbrev pub passing : Machine
passing = reading past_state past_bytes

-- ---- "or taking codes out for an access that is then declined"
unfoldable pub taken_first : Module → Call → Module
taken_first m reset = (called m reset).next
taken_first m (look s) = (called m (look s)).next
taken_first m (write a bs) = (called m (write a bs)).next
taken_first m (read a out) = let g = called m (read a out) in g.next if eqb g.number 0 else read_all m a (length out)
taken_first m (held row col) = (called m (held row col)).next
taken_first m interrupt = (called m interrupt).next
taken_first m (pins x) = (called m (pins x)).next

unfoldable pub hurried : Module → Call → Gives Module
hurried m c = record { number = (called m c).number; next = taken_first m c; buffer = (called m c).buffer; answer = (called m c).answer }

abbrev pub hasty : Machine
hasty = doing hurried

-- ---- "Letting the oldest code fall out of a full queue."
unfoldable pub put_late : Queue → ℕ → Queue
put_late q c = put q c if ltb q.count 15 else put (queue (taken q).places (taken q).count true) c

unfoldable pub put_all_late : Queue → List ℕ → Queue
put_all_late q [] = q
put_all_late q (c ∷ cs) = put_all_late (put_late q c) cs

unfoldable pub oldest_lost : Module → List ℕ → Module
oldest_lost m s = with_queue (looked m s) (put_all_late (queue_of m) (changes m s))

abbrev pub forgetful : Machine
forgetful = looking oldest_lost

-- ---- beyond document 01's list
unfoldable pub only_first : Module → List ℕ → Module
only_first m s = m if waits m.count else looked m s

abbrev pub once : Machine
once = looking only_first

-- the data sheet's KBDIC, which empties the queue
unfoldable pub emptied : Module → ℕ → List ℕ → Module
emptied m a bs = quiet (wrote m a bs) if eqb a 0x08 else wrote m a bs

abbrev pub emptying : Machine
emptying = writing emptied

-- the state after reset, which is sound, asleep if m is
unfoldable pub soundly : Module → Module
soundly m = with_sleep fresh (sleep 255 true) if m.asleep else fresh

-- the number is told from the call and the sleep alone
unfoldable pub trusted : Module → Call → Gives Module
trusted m reset = changing reset_call []
trusted m (look s) = changing (outcome m (looked m s) (look_number fresh s)) []
trusted m (write a bs) = changing (accessed m (wrote m a bs) (write_number (soundly m) a bs)) []
trusted m (read a out) =
    let n = read_number (soundly m) a (length out) in
    changing (accessed m (read_all m a (length out)) n) (bytes_read m a (length out) if eqb n 0 else out)
trusted m (held row col) = asking (answer m (get_or m.held (key_at row col) false) (held_number fresh row col))
trusted m interrupt = asking (answer m (line m) (interrupt_number fresh))
trusted m (pins x) = changing (outcome m (sampling m x) (pins_number fresh x)) []

abbrev pub trusting : Machine
trusting = doing trusted

unfoldable pub single : ℕ → ℕ → Bool
single a n = eqb a 0x10 && eqb n 1

unfoldable pub single_stays : Module → ℕ → ℕ → Module
single_stays m a n = m if single a n else read_all m a n

unfoldable pub single_blank : Module → ℕ → ℕ → List ℕ
single_blank m a n = 0x7F ∷ [] if single a n else bytes_read m a n

abbrev pub stingy : Machine
stingy = reading single_stays single_blank

unfoldable pub unreported : Module → List ℕ → Module
unreported m s = with_relint (looked m s) m.relint

abbrev pub silent : Machine
silent = looking unreported
