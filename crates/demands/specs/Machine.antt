-- CALLS AND MACHINES.
--
--    Call            seven calls as data; the eighth, the question what is driven, has a page of its own, Pins
--    Gives           what a call gives back
--    Machine         any set of states with a start, and what each call does
--    lent c          the buffer that is lent to a call
--    after M cs      the state after calls, newest first, that begin after a reset
--    done M cs       what has happened, for the sheet: the calls that were done, byte by byte, and the accesses that the panel's sleep declined
--    fits c          the values of a call fit their types
--    fetched M cs    the codes that done reads really put into callers' buffers since the restart
--    awake M σ       the state σ, once the panel is awake
--    seen M σ        the codes that a read of 15 bytes of EVTCODE would give now, once the panel is awake
use Rattle.std.specs.Prelude.{ℕ, zero, suc, Bool, true, false, List, [], ◌∷◌, ◌++◌, length, replicate, eqb, ltb}
use Rattle.words.specs.Words.{◌if◌, ◌else◌, all}
use Rattle.registers.specs.declared.Register.TheVariants.{KBDSIZE, EVTCODE}
use Rattle.registers.specs.Registers.{register_at, ◌is◌}
use Rattle.registers.specs.Runs.{next}
use Rattle.sheet.specs.Sheet.{Past, sampled, refused, looked, wrote, got, beside}
use Rattle.sheet.specs.Ledger.{code_got}
use Rattle.state.specs.declared.Module.{Module}

-- "There are six calls: reset, look (one set of contact samples), write access, read access, and two questions
-- (is this key held; is the interrupt line asserted)." Document 02, E6: "A new call takes pin samples"
pub data Call : Type 0 where
  reset : Call
  -- the samples
  look : List ℕ → Call
  -- the first address, and the bytes
  write : ℕ → List ℕ → Call
  -- the first address, and the buffer lent
  read : ℕ → List ℕ → Call
  -- row and column
  held : ℕ → ℕ → Call
  interrupt : Call
  -- the samples, bit i for pin i
  pins : ℕ → Call

pub record Gives (State : Type 0) : Type 0 where
  pub number : ℕ
  pub next : State
  -- the buffer lent, as the call leaves it
  pub buffer : List ℕ
  -- a question's answer; no for any other call
  pub answer : Bool

pub record Machine : Type 1 where
  pub State : Type 0
  -- the state after reset
  pub start : State
  -- what document 01 speaks of in a state: size, keys and runs, queue, mask and marks, and the count and the sleep of document 02, as our struct has them
  pub parts : State → Module
  pub does : State → Call → Gives State

unfoldable pub lent : Call → List ℕ
lent reset = []
lent (look s) = []
lent (write a bs) = []
lent (read a out) = out
lent (held row col) = []
lent interrupt = []
lent (pins x) = []

unfoldable pub after : (M : Machine) → List Call → M.State
after M [] = M.start
after M (c ∷ cs) = (M.does (after M cs) c).next

-- ---- what has happened

-- "Bytes take effect one at a time, in order."
unfoldable pub wrotes : ℕ → List ℕ → Past → Past
wrotes a [] past = past
wrotes a (b ∷ bs) past = wrotes (next a) bs (wrote (register_at a) b ∷ past)

unfoldable pub gots : ℕ → ℕ → Past → Past
gots a zero past = past
gots a (suc n) past = gots (next a) n (got (register_at a) ∷ past)

-- what a done call adds; a reset begins a new past
unfoldable pub happened : Call → Past → Past
happened reset past = []
happened (look s) past = looked s ∷ past
happened (write a bs) past = wrotes a bs past
happened (read a out) past = gots a (length out) past
happened (held row col) past = past
happened interrupt past = past
happened (pins x) past = beside (sampled x) ∷ past

-- what a call adds that gave the number n. Document 02, E7: an access that is declined with 27 "wakes it", and so has happened too
unfoldable pub noted : ℕ → Call → Past → Past
noted n c past = happened c past if eqb n 0 else (beside refused ∷ past if eqb n 27 else past)

unfoldable pub done : (M : Machine) → List Call → Past
done M [] = []
done M (c ∷ cs) = noted (M.does (after M cs) c).number c (done M cs)

-- a byte is below 256; nothing else is asked of a call's values
unfoldable pub fits : Call → Bool
fits reset = true
fits (look s) = true
fits (write a bs) = all (λ b. ltb b 256) bs
fits (read a out) = true
fits (held row col) = true
fits interrupt = true
fits (pins x) = true

-- ---- what was fetched, and what still waits, as a caller sees it

-- the codes among the bytes of a buffer that was filled from the address a on: those of EVTCODE, but for the empty mark
unfoldable pub codes_in : ℕ → List ℕ → List ℕ
codes_in a [] = []
codes_in a (b ∷ bs) = (code_got b if register_at a is EVTCODE else []) ++ codes_in (next a) bs

-- does a write cover KBDSIZE?
unfoldable pub covers : ℕ → List ℕ → Bool
covers a [] = false
covers a (b ∷ bs) = true if register_at a is KBDSIZE else covers (next a) bs

-- what a done call makes of the codes fetched so far; the buffer is as the call left it
unfoldable pub fetched_by : Call → List ℕ → List ℕ → List ℕ
fetched_by reset buffer l = []
fetched_by (look s) buffer l = l
fetched_by (write a bs) buffer l = [] if covers a bs else l
fetched_by (read a out) buffer l = l ++ codes_in a buffer
fetched_by (held row col) buffer l = l
fetched_by interrupt buffer l = l
fetched_by (pins x) buffer l = l

unfoldable pub fetched : (M : Machine) → List Call → List ℕ
fetched M [] = []
fetched M (c ∷ cs) = fetched_by c (M.does (after M cs) c).buffer (fetched M cs) if eqb (M.does (after M cs) c).number 0 else fetched M cs

-- an access of no bytes is always declined: by 3, which alters nothing, or asleep by 27, which wakes
unfoldable pub awake : (M : Machine) → M.State → M.State
awake M σ = (M.does σ (read 0x10 [])).next

unfoldable pub seen : (M : Machine) → M.State → List ℕ
seen M σ = codes_in 0x10 (M.does (awake M σ) (read 0x10 (replicate 15 0))).buffer
