-- A HOST ON A TWO-WIRE BUS, and what stands between it and a machine. Many bus parts ask for a byte ahead of the one that is being sent, so bytes are asked for that the host never gets.
--
--    Step             a step of a transfer on the bus
--    Event            a step, or a call of the panel's own program
--    Moves, Part M    anything that stands between a bus and the machine M: what it does at each step
--    Host, told h x b    what the host knows of the transfer that is open; and after the step x, at which the bus was handed the byte b
--    heard a l        the codes among the bytes l that a host got from the address a on
--    emptied M cs new l    the codes l that were fetched, none if one of the new calls, made behind cs, was a restart
--    Story P, next, story P es    part, calls made, host, and the codes that the host got since the restart, after events, newest first
--    madeBy P es, gotBy P es    the calls, and those codes
--    fit e, mild c, proper P es    the values fit their types; while the host reads, the panel's own program only looks, samples its pins and asks
--    BusDemand P      DEMAND 3, BY WHAT THE HOST GOT, and that transfers are accesses
use Rattle.std.specs.Prelude.{ℕ, zero, suc, ◌≤◌, ◌≡◌, Bool, true, false, not, ◌&&◌, ◌||◌, List, [], ◌∷◌, ◌++◌, length, take, eqb, ltb}
use Rattle.words.specs.Words.{◌if◌, ◌else◌, all}
use Rattle.registers.specs.declared.Register.TheVariants.{EVTCODE}
use Rattle.registers.specs.Registers.{register_at, ◌is◌}
use Rattle.registers.specs.Runs as runs
use Rattle.sheet.specs.Ledger.{code_got, kept, arrivals}
use Rattle.demands.specs.Machine.{Call, reset, look, write, read, held, interrupt, pins, Machine, after, done, fits, covers, fetched_by, awake, seen}

-- what happens on the bus
pub data Step : Type 0 where
  -- the host begins a read, at the address that it named last, or a write
  reads : Step
  writes : Step
  -- a byte comes from the host: the first of a write is the address
  takes : ℕ → Step
  -- the bus asks for a byte, which may never be sent
  gives : Step
  -- the transfer stops; so many bytes of a read were sent
  stops : ℕ → Step
  -- the transfer is dropped: the bus fails, or the host takes too long
  drops : Step

pub data Event : Type 0 where
  bus : Step → Event
  own : Call → Event

pub record Moves (State : Type 0) : Type 0 where
  pub next : State
  -- the calls that it makes, newest first
  pub calls : List Call
  -- the byte that it hands to the bus, if it was asked for one
  pub byte : ℕ

pub record Part (M : Machine) : Type 1 where
  pub State : Type 0
  pub start : State
  pub moves : State → M.State → Step → Moves State

-- ---- the host
pub record Host : Type 0 where
  pub reading : Bool
  -- it writes, and its next byte is the address
  pub naming : Bool
  -- the address that it named last
  pub first : ℕ
  -- the bytes that the bus was handed in this read, oldest first
  pub bytes : List ℕ

abbrev pub host : Bool → Bool → ℕ → List ℕ → Host
host reading naming first bytes = record { reading = reading; naming = naming; first = first; bytes = bytes }

unfoldable pub told : Host → Step → ℕ → Host
told h reads b = host true false h.first []
told h writes b = host false true h.first []
told h (takes x) b = host h.reading false x h.bytes if h.naming else h
told h gives b = host h.reading h.naming h.first (h.bytes ++ (b ∷ [])) if h.reading else h
told h (stops n) b = host false false h.first []
told h drops b = host false false h.first []

-- a byte of EVTCODE is a code, unless it is the empty mark, or FF, which a bus reads as that nobody drives
unfoldable pub heard : ℕ → List ℕ → List ℕ
heard a [] = []
heard a (b ∷ bs) = (([] if eqb b 0xFF else code_got b) if register_at a is EVTCODE else []) ++ heard (runs.next a) bs

-- what the host gets by a step: it counts the bytes that were sent to it, and throws away those of a transfer that was dropped
unfoldable pub hears : Host → Step → List ℕ
hears h reads = []
hears h writes = []
hears h (takes x) = []
hears h gives = []
hears h (stops n) = heard h.first (take n h.bytes) if h.reading else []
hears h drops = []

-- ---- what happens
-- a reset, or a write that covers KBDSIZE
unfoldable pub restarts : Call → Bool
restarts reset = true
restarts (write a bs) = covers a bs
restarts (look s) = false
restarts (read a out) = false
restarts (held row col) = false
restarts interrupt = false
restarts (pins x) = false

unfoldable pub emptied : (M : Machine) → List Call → List Call → List ℕ → List ℕ
emptied M cs [] l = l
emptied M cs (c ∷ new) l = [] if restarts c && eqb (M.does (after M (new ++ cs)) c).number 0 else emptied M cs new l

module _ {M : Machine} (P : Part M) where
  pub record Story : Type 0 where
    pub at : P.State
    -- the calls made so far, by the part and by the panel's own program, newest first
    pub calls : List Call
    pub host : Host
    -- the codes that the host got since the restart
    pub got : List ℕ

  abbrev pub begins : Story
  begins = record { at = P.start; calls = []; host = record { reading = false; naming = false; first = 0; bytes = [] }; got = [] }

  -- what the panel's own program fetches counts as fetched too
  unfoldable pub goes_on : Story → Event → Story
  goes_on s (bus x) =
      let v = P.moves s.at (after M s.calls) x in
      record { at = v.next; calls = v.calls ++ s.calls; host = told s.host x v.byte; got = emptied M s.calls v.calls s.got ++ hears s.host x }
  goes_on s (own c) =
      let g = M.does (after M s.calls) c in
      record { at = s.at; calls = c ∷ s.calls; host = s.host; got = fetched_by c g.buffer s.got if eqb g.number 0 else s.got }

  unfoldable pub story : List Event → Story
  story [] = begins
  story (e ∷ es) = goes_on (story es) e

  -- the machine's state after events
  unfoldable pub state : List Event → M.State
  state es = after M (story es).calls

-- a byte is below 256
unfoldable pub fit : Event → Bool
fit (bus reads) = true
fit (bus writes) = true
fit (bus (takes b)) = ltb b 256
fit (bus gives) = true
fit (bus (stops n)) = true
fit (bus drops) = true
fit (own c) = fits c

unfoldable pub mild : Call → Bool
mild reset = false
mild (look s) = true
mild (write a bs) = false
mild (read a out) = false
mild (held row col) = true
mild interrupt = true
mild (pins x) = true

-- while the host reads, the panel's own program makes looks, pin samples and questions, and no other call
unfoldable pub proper : {M : Machine} → Part M → List Event → Bool
proper P [] = true
proper P (bus x ∷ es) = proper P es
proper P (own c ∷ es) = (mild c || not (story P es).host.reading) && proper P es

-- a list of bytes that come from the host, oldest first
unfoldable pub sending : List ℕ → List Event → List Event
sending [] es = es
sending (b ∷ bs) es = sending bs (bus (takes b) ∷ es)

-- so many bytes are asked for
unfoldable pub asking : ℕ → List Event → List Event
asking zero es = es
asking (suc n) es = bus gives ∷ asking n es

pub record BusDemand {M : Machine} (P : Part M) : Type 0 where
  -- "whatever bytes are asked for ahead, the codes that the host got, followed by those still waiting, are those of demand 3"
  pub ledger : (es : List Event) → all fit es ≡ true → proper P es ≡ true
      → (story P es).got ++ seen M (state P es) ≡ kept (arrivals (done M (story P es).calls))
  -- a read gives what a whole read gives: the first n bytes are those of any read that would be done now
  pub bytes : (es : List Event) (n : ℕ) (out : List ℕ) → all fit es ≡ true → n ≤ length out
      → (M.does (state P es) (read (story P es).host.first out)).number ≡ 0
      → (story P (asking n (bus reads ∷ es))).host.bytes ≡ take n (M.does (state P es) (read (story P es).host.first out)).buffer
  -- and at its stop one read was made, of the bytes sent, however many more were asked for
  pub one_read : (es : List Event) (n more : ℕ) (out : List ℕ) → all fit es ≡ true → length out ≡ suc n
      → (M.does (state P es) (read (story P es).host.first out)).number ≡ 0
      → state P (bus (stops (suc n)) ∷ asking more (asking (suc n) (bus reads ∷ es))) ≡ (M.does (state P es) (read (story P es).host.first out)).next
  -- a write is one write, unless the panel slept
  pub one_write : (es : List Event) (a b : ℕ) (bs : List ℕ) (k : ℕ) → all fit es ≡ true → all (λ x. ltb x 256) (b ∷ bs) ≡ true
      → ((M.does (state P es) (write a (b ∷ bs))).number ≡ 27 → ⊥)
      → state P (bus (stops k) ∷ sending (a ∷ b ∷ bs) (bus writes ∷ es)) ≡ (M.does (state P es) (write a (b ∷ bs))).next
  -- "Asleep, the beginning of a transfer is the access that 27 declines: made at once, it wakes the module"; and else it alters nothing
  pub wakes : (es : List Event) → (state P (bus reads ∷ es) ≡ awake M (state P es)) × (state P (bus writes ∷ es) ≡ awake M (state P es))
  -- nothing else of a transfer alters the machine; so one that is dropped alters nothing
  pub takes_none : (es : List Event) (b : ℕ) → state P (bus (takes b) ∷ es) ≡ state P es
  pub gives_none : (es : List Event) → state P (bus gives ∷ es) ≡ state P es
  pub drops_none : (es : List Event) → state P (bus drops ∷ es) ≡ state P es
