-- THE SHEET: what the panel shows, told from what has happened to it since reset.
--
--    1  what can happen           Beside, Happening, Past, restarts, cleared
--    2  the settings              bounce, size, mask
--    3  a key                     history, held
--    4  the changes of a look     changed, change, changes_below, changes
--    5  the queue                 waiting, relint
--    6  a look with a change      all_read, marks, rsint, rklint
--    7  the spare pins            kept_at, pin_samples, newest, pending, driven, levels
--    8  the flags and the line    flags, revtint, ris, mis, porirq, raised, line, irqst
--    9  the picture               held_below, nth, picture
--    10 the byte of a register    oldest, byte_of
--    11 the sleep    settling, settling_below, calm, quiet_looks, quiet, asleep
--
-- What is quoted is document 01, in its order but for the settings, which come first; and document 02, where it is named.
-- A past has its newest happening first. Every table has the same five lines:
-- after reset; after a look; after a byte was written; after a byte was read; after something that the keypad doesn't see.
-- `A if T else B` is A when T is true, else B. `l ++ m` is l, then m; `c ∷ l` is c, then l. `&&` is and, `||` is or.
use Rattle.std.specs.Prelude.{ℕ, zero, suc, ◌+◌, ◌/◌, ◌%◌, min, Bool, true, false, not, ◌&&◌, ◌||◌, List, [], ◌∷◌, ◌++◌, length, get_or, take, drop, leb, ltb, eqb}
use Rattle.words.specs.Words.{◌if◌, ◌else◌, among, some, bit, without}
use Rattle.keys.specs.Keys.{code, sample, hidden}
use Rattle.contact.specs.Contact as contact
use Rattle.contact.specs.Contact.{Seen, samples, held_after}
use Rattle.pins.specs.Rules as pins
use Rattle.registers.specs.declared.Register.{Register}
use Rattle.registers.specs.declared.Register.TheVariants.{KBDBOUNCE, KBDSIZE, KBDRIS, KBDMIS, KBDIC, KBDMSK, KBDCODE, EVTCODE, RSTINTCLR, PIN, Unknown}
use Rattle.registers.specs.Registers.{◌is◌, pictured, ◌is_pin◌}

-- ---- 1  WHAT CAN HAPPEN
-- A reset begins a new past. Declined calls and questions are no happenings, but for an access that is refused while the panel sleeps. "Bytes take effect one at a time, in order."

-- what the keypad doesn't see
pub data Beside : Type 0 where
  -- the pins were sampled, bit i for pin i
  sampled : ℕ → Beside
  -- an access was declined because the panel slept
  refused : Beside

pub data Happening : Type 0 where
  -- a look with these samples was done
  looked : List ℕ → Happening
  -- this byte was written to this register
  wrote : Register → ℕ → Happening
  -- a byte of this register was read
  got : Register → Happening
  beside : Beside → Happening

abbrev pub Past : Type 0
Past = List Happening

-- "Restart means reset or an accepted write of KBDSIZE, even of the same value." "A restart by KBDSIZE opens all keys,
-- empties their sample history and the queue, clears RSINT, RKLINT and RELINT, and forgets which picture registers were read;
-- KBDBOUNCE, KBDMSK and PORIRQ stay."
abbrev pub restarts : Register → Bool
restarts r = r is KBDSIZE

-- RSINT, RKLINT or RELINT, once the byte b is written to r: cleared by a restart, and by KBDIC if bit n of b is 1
unfoldable pub cleared : ℕ → Register → ℕ → Bool → Bool
cleared n r b flag = false if restarts r else (without n flag b if r is KBDIC else flag)

-- ---- 2  THE SETTINGS: three rows of the table of registers, with the column "After reset"

-- "KBDBOUNCE | R/W | 0x03 | D, any byte; reads back as written, 0 too"
unfoldable pub bounce : Past → ℕ
bounce [] = 0x03
bounce (looked s ∷ past) = bounce past
bounce (wrote r b ∷ past) = b if r is KBDBOUNCE else bounce past
bounce (got r ∷ past) = bounce past
bounce (beside e ∷ past) = bounce past

-- "KBDSIZE | R/W | 0x22 | size; a write restarts"
unfoldable pub size : Past → ℕ
size [] = 0x22
size (looked s ∷ past) = size past
size (wrote r b ∷ past) = b if r is KBDSIZE else size past
size (got r ∷ past) = size past
size (beside e ∷ past) = size past

-- "KBDMSK | R/W | 0x03 | low four bits kept, high four read 0"
unfoldable pub mask : Past → ℕ
mask [] = 0x03
mask (looked s ∷ past) = mask past
mask (wrote r b ∷ past) = b % 16 if r is KBDMSK else mask past
mask (got r ∷ past) = mask past
mask (beside e ∷ past) = mask past

-- ---- 3  A KEY

-- key k's samples "since the restart" that exist, newest first, each with the KBDBOUNCE in force at its look. Document 02, E3:
-- "While an SF contact in the size is closed in a look, that row's matrix samples don't exist for that look"
unfoldable pub history : ℕ → Past → List Seen
history k [] = []
history k (looked s ∷ past) = history k past if hidden s (size past) k else record { bounce = bounce past; closed = sample s (size past) k } ∷ history k past
history k (wrote r b ∷ past) = [] if restarts r else history k past
history k (got r ∷ past) = history k past
history k (beside e ∷ past) = history k past

-- "After a restart every key is open." From then on the contact's rule decides, look by look
unfoldable pub held : ℕ → Past → Bool
held k past = held_after (history k past)

-- ---- 4  THE CHANGES OF A LOOK with samples s, made after a past

-- "At each look a key in the size changes exactly when its last D samples since the restart, this look included,
-- exist and are all the opposite of what it was before this look. D is the value in force at this look;
-- samples taken under an older D still count." Out of the size none changes, since its samples count as open. E3:
-- "a key's last D samples are the last D that exist, and a key with none in a look doesn't change at it"
unfoldable pub changed : ℕ → List ℕ → Past → Bool
changed k s past = false if hidden s (size past) k else contact.changes (bounce past) (held k past) (samples (history k (looked s ∷ past)))

-- the code of key k's change, if it changes
unfoldable pub change : ℕ → List ℕ → Past → List ℕ
change k s past = code k (sample s (size past) k) ∷ [] if changed k s past else []

-- "The changes of one look are taken by row, then by column.": those of the keys below n, then all of them
unfoldable pub changes_below : ℕ → List ℕ → Past → List ℕ
changes_below zero s past = []
changes_below (suc k) s past = changes_below k s past ++ change k s past

unfoldable pub changes : List ℕ → Past → List ℕ
changes s past = changes_below 104 s past

-- ---- 5  THE QUEUE

-- the codes that wait, oldest first. "Each is put in the queue if fewer than 15 codes wait; otherwise it is dropped and RELINT is set.
-- The key counts as changed either way. Room freed by reading is used again."
unfoldable pub waiting : Past → List ℕ
waiting [] = []
waiting (looked s ∷ past) = take 15 (waiting past ++ changes s past)
waiting (wrote r b ∷ past) = [] if restarts r else waiting past
waiting (got r ∷ past) = drop 1 (waiting past) if r is EVTCODE else waiting past
waiting (beside e ∷ past) = waiting past

-- "dropped and RELINT is set"; KBDIC: "bit 1 clears RELINT"
unfoldable pub relint : Past → Bool
relint [] = false
relint (looked s ∷ past) = relint past || ltb 15 (length (waiting past ++ changes s past))
relint (wrote r b ∷ past) = cleared 1 r b (relint past)
relint (got r ∷ past) = relint past
relint (beside e ∷ past) = relint past

-- ---- 6  A LOOK WITH A CHANGE
-- "A look with at least one change does this, in order: if RSINT is already set, set RKLINT; set RSINT;
-- forget which picture registers were read."

-- picture registers 0 to 3 are all in the list
unfoldable pub all_read : List ℕ → Bool
all_read l = among 0 l && among 1 l && (among 2 l && among 3 l)

-- the picture registers read. "Once all four have been read since they were last forgotten, RSINT is cleared (RKLINT stays)
-- and they are forgotten again."
unfoldable pub marks : Past → List ℕ
marks [] = []
marks (looked s ∷ past) = [] if some (changes s past) else marks past
marks (wrote r b ∷ past) = [] if restarts r else marks past
marks (got r ∷ past) = [] if all_read (pictured r ++ marks past) else pictured r ++ marks past
marks (beside e ∷ past) = marks past

-- "set RSINT"; KBDIC: "bit 0 clears RSINT and RKLINT"; all four read: "RSINT is cleared"
unfoldable pub rsint : Past → Bool
rsint [] = false
rsint (looked s ∷ past) = rsint past || some (changes s past)
rsint (wrote r b ∷ past) = cleared 0 r b (rsint past)
rsint (got r ∷ past) = false if all_read (pictured r ++ marks past) else rsint past
rsint (beside e ∷ past) = rsint past

-- "if RSINT is already set, set RKLINT"; "(RKLINT stays)"
unfoldable pub rklint : Past → Bool
rklint [] = false
rklint (looked s ∷ past) = rklint past || (rsint past && some (changes s past))
rklint (wrote r b ∷ past) = cleared 0 r b (rklint past)
rklint (got r ∷ past) = rklint past
rklint (beside e ∷ past) = rklint past

-- ---- 7  THE SPARE PINS: what is quoted here is document 02, E6. What a pin is and does: crates/pins/specs/Rules.antt

-- the byte kept at an address: "a write to its bits is kept", "a size write keeps the pin registers"
unfoldable pub kept_at : Past → ℕ → ℕ
kept_at [] a = pins.after_reset a
kept_at (looked s ∷ past) a = kept_at past a
kept_at (wrote r b ∷ past) a = b if r is_pin a else kept_at past a
kept_at (got r ∷ past) a = kept_at past a
kept_at (beside e ∷ past) a = kept_at past a

-- "A new call takes pin samples": those since reset, newest first
unfoldable pub pin_samples : Past → List ℕ
pin_samples [] = []
pin_samples (looked s ∷ past) = pin_samples past
pin_samples (wrote r b ∷ past) = pin_samples past
pin_samples (got r ∷ past) = pin_samples past
pin_samples (beside (sampled x) ∷ past) = x ∷ pin_samples past
pin_samples (beside refused ∷ past) = pin_samples past

-- pin i's newest sample; 0 if there is none
unfoldable pub newest : Past → ℕ → Bool
newest past i = bit i (get_or (pin_samples past) 0 0)

-- pin i's edge is pending: one was made since reset, and not cleared since. "the first after reset makes no edge";
-- "A pin used by the keypad size [..] makes no edge"
unfoldable pub pending : Past → ℕ → Bool
pending [] i = false
pending (looked s ∷ past) i = pending past i
pending (wrote r b ∷ past) i = without (i % 8) (pending past i) b if r is_pin (0xDC + i / 8) else pending past i
pending (got r ∷ past) i = pending past i
pending (beside (sampled x) ∷ past) i = pending past i || (some (pin_samples past) && pins.edge (kept_at past) (size past) i (newest past i) (bit i x))
pending (beside refused ∷ past) i = pending past i

-- the pins that are driven, as bits, and those of them that are driven to 1: "drives nothing until the pin is free"
unfoldable pub driven : Past → ℕ
driven past = pins.word (pins.drives (kept_at past) (size past))

unfoldable pub levels : Past → ℕ
levels past = pins.word (λ i. pins.drives (kept_at past) (size past) i && pins.DATA (kept_at past) i)

-- ---- 8  THE FLAGS AND THE LINE

-- "bit 3 RELINT, 2 REVTINT, 1 RKLINT, 0 RSINT; the rest 0"
unfoldable pub flags : Bool → Bool → Bool → Bool → ℕ
flags rel revt rkl rs = (8 if rel else 0) + (4 if revt else 0) + (2 if rkl else 0) + (1 if rs else 0)

-- "REVTINT is 1 exactly while a code waits, so KBDIC can't clear it."
unfoldable pub revtint : Past → Bool
revtint past = some (waiting past)

unfoldable pub ris : Past → ℕ
ris past = flags (relint past) (revtint past) (rklint past) (rsint past)

-- "KBDRIS with the bits set in KBDMSK made 0"
unfoldable pub mis : Past → ℕ
mis past =
    flags
    (without 3 (relint past) (mask past))
    (without 2 (revtint past) (mask past))
    (without 1 (rklint past) (mask past))
    (without 0 (rsint past) (mask past))

-- "Reset sets PORIRQ."; RSTINTCLR: "bit 0 clears PORIRQ; other bits ignored"
unfoldable pub porirq : Past → Bool
porirq [] = true
porirq (looked s ∷ past) = porirq past
porirq (wrote r b ∷ past) = without 0 (porirq past) b if r is RSTINTCLR else porirq past
porirq (got r ∷ past) = porirq past
porirq (beside e ∷ past) = porirq past

-- some pin has its edge pending and its GPIOIE bit set
unfoldable pub raised : Past → Bool
raised past = pins.some_pin (λ i. pending past i && pins.IE (kept_at past) i)

-- "The interrupt line is asserted exactly when PORIRQ is set or KBDMIS isn't 0."
-- E6: "The interrupt line now also follows enabled pin edges"
unfoldable pub line : Past → Bool
line past = porirq past || (not (eqb (mis past) 0) || raised past)

-- the IRQ status register: bit 7 PORIRQ, 6 KBDIRQ, 0 GPIOIRQ; the rest 0
unfoldable pub irqst : Past → ℕ
irqst past = (128 if porirq past else 0) + (64 if not (eqb (mis past) 0) else 0) + (1 if raised past else 0)

-- ---- 9  THE PICTURE

-- the press codes of the held keys below n, "by row, then column"
unfoldable pub held_below : ℕ → Past → List ℕ
held_below zero past = []
held_below (suc k) past = held_below k past ++ (code k true ∷ [] if held k past else [])

-- "KBDCODEn holds the press code of the held key number n (from 0, by row, then column), or 0x7F if there are n or fewer.
-- It has 128 added when more than n + 1 keys are held."
unfoldable pub nth : ℕ → List ℕ → ℕ
nth n l = 0x7F if leb (length l) n else get_or l n 0 + (128 if ltb (n + 1) (length l) else 0)

unfoldable pub picture : ℕ → Past → ℕ
picture n past = nth n (held_below 104 past)

-- ---- 10  THE BYTE OF A REGISTER

-- "oldest waiting code, which is taken out; 0x7F when none waits"
unfoldable pub oldest : List ℕ → ℕ
oldest [] = 0x7F
oldest (c ∷ l) = c

-- what a read of the register gives; 0 if it can't be read. "The byte that completes the four is worked out before the clearing."
unfoldable pub byte_of : Register → Past → ℕ
byte_of KBDBOUNCE past = bounce past
byte_of KBDSIZE past = size past
byte_of KBDRIS past = ris past
byte_of KBDMIS past = mis past
byte_of KBDIC past = 0
byte_of KBDMSK past = mask past
byte_of (KBDCODE n) past = picture n past
byte_of EVTCODE past = oldest (waiting past)
byte_of RSTINTCLR past = 0
byte_of (PIN a) past = irqst past if eqb a 0x91 else pins.reads (kept_at past) (pending past) (newest past) (size past) a
byte_of Unknown past = 0

-- ---- 11  THE SLEEP: what is quoted here is document 02, E7

-- "settling: its newest existing sample differs from what it is held as"
unfoldable pub settling : ℕ → Past → Bool
settling k past = contact.settling (held k past) (samples (history k past))

-- some key below n is settling; out of the size none is, since its samples count as open
unfoldable pub settling_below : ℕ → Past → Bool
settling_below zero past = false
settling_below (suc k) past = settling_below k past || settling k past

-- a look with the samples s is quiet: "with no change, no settling"
unfoldable pub calm : List ℕ → Past → Bool
calm s past = not (some (changes s past)) && not (settling_below 104 (looked s ∷ past))

-- the quiet looks "in a row", with "no done access between them". "An access is declined once and wakes it"; "A restart wakes it. Waking sets the count to 0."
unfoldable pub quiet_looks : Past → ℕ
quiet_looks [] = 0
quiet_looks (looked s ∷ past) = quiet_looks past + 1 if calm s past else 0
quiet_looks (wrote r b ∷ past) = 0
quiet_looks (got r ∷ past) = 0
quiet_looks (beside (sampled x) ∷ past) = quiet_looks past
quiet_looks (beside refused ∷ past) = 0

-- "the count is at most 255"
unfoldable pub quiet : Past → ℕ
quiet past = min 255 (quiet_looks past)

-- "The module sleeps after 255 looks in a row"; "Looks count as usual while asleep"
unfoldable pub asleep : Past → Bool
asleep past = leb 255 (quiet_looks past)
