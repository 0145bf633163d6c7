-- THE CUSTOMER'S DEMANDS, as predicates over machines. They speak of what a caller can see; into a state, as the machine tells it, look only
-- rows 8 and 27 of the table, soundness and sleep, and what 27 leaves.
--
--    Demand1, Demand2, Demand3    the three demands
--    NeverUnsound                 "never for a state reached by calls from reset"
--    NoSilentLoss                 beyond the demands: RELINT tells of every loss
--    bytes_of a n past            the bytes that a read of n bytes at a gives, by the sheet
use Rattle.std.specs.Prelude.{ℕ, zero, suc, ◌+◌, ◌*◌, ◌≤◌, ◌≡◌, true, false, List, [], ◌∷◌, ◌++◌, length}
use Rattle.words.specs.Words.{all, some, bit}
use Rattle.keys.specs.Replay.{replayed}
use Rattle.registers.specs.Registers.{register_at}
use Rattle.registers.specs.Runs.{next}
use Rattle.sheet.specs.Sheet as sheet
use Rattle.sheet.specs.Sheet.{Past, got}
use Rattle.sheet.specs.Ledger.{kept, lost, arrivals, unreported}
use Rattle.state.specs.Module.{woken}
use Rattle.state.specs.Typed.{Typed}
use Rattle.sound.specs.Said.{Said}
use Rattle.demands.specs.Machine.{Call, read, held, interrupt, Machine, lent, after, done, fits, fetched, awake, seen}
use Rattle.demands.specs.Table.{First, rules}

-- "1. The module takes every call, with every value, and finishes it. What it can't do it declines with a number from our list,
-- and a declined call alters neither the module nor the caller's buffer."
-- Document 02, E7, of 27: "that refusal alters only the sleep state and the count, one more exception to demand 1".
-- Of seven calls; the same with blocks of looks, and with the exception that these have, is Demand1Wide on the page Blocks.
pub record Demand1 (M : Machine) : Type 0 where
  -- of every state whose parts are values of their types
  pub exact : (σ : M.State) → Typed (M.parts σ) → (c : Call) → First (rules M σ c) (M.does σ c).number
  pub declined : (σ : M.State) (c : Call) → ((M.does σ c).number ≡ 0 → ⊥) → ((M.does σ c).number ≡ 27 → ⊥)
      → ((M.does σ c).next ≡ σ) × (((M.does σ c).buffer ≡ lent c) × ((M.does σ c).answer ≡ false))
  pub refused : (σ : M.State) (c : Call) → (M.does σ c).number ≡ 27
      → (M.parts (M.does σ c).next ≡ woken (M.parts σ)) × (((M.does σ c).buffer ≡ lent c) × ((M.does σ c).answer ≡ false))

-- "Number 8 is given exactly otherwise, and never for a state reached by calls from reset."
pub record NeverUnsound (M : Machine) : Type 0 where
  pub never : (cs : List Call) → all fits cs ≡ true → Said (M.parts (after M cs))

unfoldable pub bytes_of : ℕ → ℕ → Past → List ℕ
bytes_of a zero past = []
bytes_of a (suc n) past = sheet.byte_of (register_at a) past ∷ bytes_of (next a) n (got (register_at a) ∷ past)

-- "2. Held keys, fetched bytes, flags and the interrupt line are what the LM8328 data sheet, as narrowed by document 01,
-- gives for the looks and bus accesses made so far. That holds for setting registers as well as for fetching them."
-- Document 02, E6, for the line: "demand 2's rule for it gains that clause". What is driven: DriveDemand2, on the page Pins.
pub record Demand2 (M : Machine) : Type 0 where
  pub bytes : (cs : List Call) (a : ℕ) (out : List ℕ) → (M.does (after M cs) (read a out)).number ≡ 0
      → (M.does (after M cs) (read a out)).buffer ≡ bytes_of a (length out) (done M cs)
  pub keys : (cs : List Call) → all fits cs ≡ true → (row col : ℕ) → row ≤ 7 → col ≤ 12
      → (M.does (after M cs) (held row col)).answer ≡ sheet.held (13 * row + col) (done M cs)
  pub line : (cs : List Call) → all fits cs ≡ true → (M.does (after M cs) interrupt).answer ≡ sheet.line (done M cs)

-- "3. Start from the last reset or accepted write of the keypad size. The codes taken from the queue since then (its empty mark is no code),
-- followed by those still waiting, are exactly the changes that the contacts' own history demands under the bounce settings in force,
-- each once and in order, less only those that arrived when 15 were waiting.
-- If none arrived so, replaying the codes from no key held gives the keys held now."
pub record Demand3 (M : Machine) : Type 0 where
  pub ledger : (cs : List Call) → all fits cs ≡ true → fetched M cs ++ seen M (after M cs) ≡ kept (arrivals (done M cs))
  -- a byte of EVTCODE is 0x7F only when nothing waits
  pub progress : (cs : List Call) → all fits cs ≡ true → (M.does (awake M (after M cs)) (read 0x10 (0 ∷ []))).buffer ≡ 0x7F ∷ []
      → fetched M cs ≡ kept (arrivals (done M cs))
  pub replay : (cs : List Call) → all fits cs ≡ true → lost (arrivals (done M cs)) ≡ []
      → (row col : ℕ) → row ≤ 7 → col ≤ 12
      → replayed (13 * row + col) false (fetched M cs ++ seen M (after M cs)) ≡ (M.does (after M cs) (held row col)).answer

-- RELINT, bit 3 of KBDRIS, is set exactly when a change was lost since the restart or the last done KBDIC write with bit 1
pub record NoSilentLoss (M : Machine) : Type 0 where
  pub told : (cs : List Call) → all fits cs ≡ true → all (bit 3) (M.does (awake M (after M cs)) (read 0x06 (0 ∷ []))).buffer ≡ some (unreported (done M cs))
