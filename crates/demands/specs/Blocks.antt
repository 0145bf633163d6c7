-- BLOCKS OF LOOKS: request E2. "The scan chip in the wide panel hands over a block of looks at once."
--
--    Block                what a block of looks gives back
--    Wide                 any machine, and what it makes of a block of looks
--    singles M n σ s      what n single looks of eight samples each give, up to the first that is declined
--    block_rules M σ s    the rows of the table for a block, before its first look
--    BlockDemand W        a block gives what single looks give
--    Act                  a call, or a block; number_of W σ a, its number
--    Leads M n σ s τ      n looks of the samples s, each of them done, lead from the state σ to τ
--    Unaltered W σ a      the act leaves module and buffer as they came
--    Woken W σ a          the act is an access that the panel's sleep declined: it woke the panel, and altered nothing else
--    Stopped W σ a        the act is a block that stopped at a look, and left what its done looks left
--    Demand1Wide W        DEMAND 1, WITH ITS TWO EXCEPTIONS
--    after_acts, past_of, fetched    the state after acts, newest first, what has happened, and the codes fetched: a block is its looks, one by one
--    DemandsWide W        DEMANDS 2 AND 3, over every list of acts
--    spelled W acts       the acts as calls, each block as the looks that were done
use Rattle.std.specs.Prelude.{ℕ, zero, suc, ◌+◌, ◌*◌, ◌/◌, ◌%◌, ◌≤◌, ◌≡◌, ◌⊎◌, Bool, true, false, List, [], ◌∷◌, ◌++◌, length, take, drop, eqb}
use Rattle.words.specs.Words.{◌if◌, ◌else◌, all, some, bit}
use Rattle.keys.specs.Replay.{replayed}
use Rattle.sheet.specs.Sheet as sheet
use Rattle.sheet.specs.Sheet.{Past, looked}
use Rattle.sheet.specs.Ledger.{kept, lost, arrivals, unreported}
use Rattle.state.specs.Module.{woken}
use Rattle.state.specs.Typed.{Typed}
use Rattle.sound.specs.Said.{Said}
use Rattle.demands.specs.Machine as machine
use Rattle.demands.specs.Machine.{Call, look, write, read, held, interrupt, Machine, lent, noted, fits, awake, seen}
use Rattle.demands.specs.Table.{Rule, ◌⇒◌, First, Unsound}
use Rattle.demands.specs.Demands.{Demand1, bytes_of}

pub record Block (State : Type 0) : Type 0 where
  pub number : ℕ
  -- how many looks were done
  pub done : ℕ
  pub next : State

pub record Wide : Type 1 where
  pub calls : Machine
  pub looks : calls.State → List ℕ → Block calls.State

-- no look is done, with the number n
abbrev pub none : {S : Type 0} → ℕ → S → Block S
none n σ = record { number = n; done = 0; next = σ }

-- one look was done before these
abbrev pub one_more : {S : Type 0} → Block S → Block S
one_more b = record { number = b.number; done = b.done + 1; next = b.next }

-- "Take a list of samples eight to a look and give what single looks give, in order. An empty list does nothing.
-- At a look that is declined stop, keep the earlier ones, and give its number and how many were done"
unfoldable pub singles : (M : Machine) → ℕ → M.State → List ℕ → Block M.State
singles M zero σ s = none 0 σ
singles M (suc n) σ s =
    let one = M.does σ (look (take 8 s)) in
    one_more (singles M n one.next (drop 8 s)) if eqb one.number 0 else none one.number σ

-- "if the length isn't a multiple of eight"
abbrev pub NotEights : List ℕ → Type 0
NotEights s = length s % 8 ≡ 0 → ⊥

-- "Refusals: 8 first, then 1"
unfoldable pub block_rules : (M : Machine) → M.State → List ℕ → List Rule
block_rules M σ s = Unsound (M.parts σ) ⇒ 8 ∷ NotEights s ⇒ 1 ∷ []

pub record BlockDemand (W : Wide) : Type 0 where
  -- the number that declines a block before its first look, or 0
  pub refusal : W.calls.State → List ℕ → ℕ
  -- of every state whose parts are values of their types
  pub exact : (σ : W.calls.State) → Typed (W.calls.parts σ) → (s : List ℕ) → First (block_rules W.calls σ s) (refusal σ s)
  -- "with nothing done"; else "what single looks give"
  pub gives : (σ : W.calls.State) (s : List ℕ)
      → W.looks σ s ≡ (singles W.calls (length s / 8) σ s if eqb (refusal σ s) 0 else none (refusal σ s) σ)

-- ---- demand 1
pub data Act : Type 0 where
  call : Call → Act
  -- the samples
  block : List ℕ → Act

unfoldable pub Leads : (M : Machine) → ℕ → M.State → List ℕ → M.State → Type 0
Leads M zero σ s τ = τ ≡ σ
Leads M (suc n) σ s τ =
    let one = M.does σ (look (take 8 s)) in
    (one.number ≡ 0) × Leads M n one.next (drop 8 s) τ

module _ (W : Wide) where
  unfoldable pub number_of : W.calls.State → Act → ℕ
  number_of σ (call c) = (W.calls.does σ c).number
  number_of σ (block s) = (W.looks σ s).number

  -- "alters neither the module nor the caller's buffer"
  unfoldable pub Unaltered : W.calls.State → Act → Type 0
  Unaltered σ (call c) = let g = W.calls.does σ c in (g.next ≡ σ) × ((g.buffer ≡ lent c) × (g.answer ≡ false))
  Unaltered σ (block s) = ((W.looks σ s).next ≡ σ) × ((W.looks σ s).done ≡ 0)

  -- "that refusal alters only the sleep state and the count"
  unfoldable pub Woken : W.calls.State → Act → Type 0
  Woken σ (call c) =
      let g = W.calls.does σ c in
      (g.number ≡ 27) × ((W.calls.parts g.next ≡ woken (W.calls.parts σ)) × ((g.buffer ≡ lent c) × (g.answer ≡ false)))
  Woken σ (block s) = ⊥

  -- its number is that of the look behind the done ones
  unfoldable pub Stopped : W.calls.State → Act → Type 0
  Stopped σ (call c) = ⊥
  Stopped σ (block s) =
      let b = W.looks σ s in
      Leads W.calls b.done σ s b.next × ((W.calls.does b.next (look (take 8 (drop (8 * b.done) s)))).number ≡ b.number)

-- "1. The module takes every call, with every value, and finishes it. What it can't do it declines with a number from our list,
-- and a declined call alters neither the module nor the caller's buffer": "demand 1's rule on declined calls gains this exception"; E7: "one more exception"
pub record Demand1Wide (W : Wide) : Type 0 where
  pub calls : Demand1 W.calls
  pub blocks : BlockDemand W
  pub declined : (σ : W.calls.State) (a : Act) → (number_of W σ a ≡ 0 → ⊥) → Unaltered W σ a ⊎ (Woken W σ a ⊎ Stopped W σ a)

-- ---- demands 2 and 3
-- n looks of the samples s, one by one
unfoldable pub lookeds : ℕ → List ℕ → Past → Past
lookeds zero s past = past
lookeds (suc n) s past = lookeds n (drop 8 s) (looked (take 8 s) ∷ past)

unfoldable pub fit : Act → Bool
fit (call c) = fits c
fit (block s) = true

module _ (W : Wide) where
  unfoldable pub after_acts : List Act → W.calls.State
  after_acts [] = W.calls.start
  after_acts (call c ∷ acts) = (W.calls.does (after_acts acts) c).next
  after_acts (block s ∷ acts) = (W.looks (after_acts acts) s).next

  unfoldable pub past_of : List Act → Past
  past_of [] = []
  past_of (call c ∷ acts) = noted (W.calls.does (after_acts acts) c).number c (past_of acts)
  past_of (block s ∷ acts) = lookeds (W.looks (after_acts acts) s).done s (past_of acts)

  unfoldable pub fetched : List Act → List ℕ
  fetched [] = []
  fetched (call c ∷ acts) =
      let g = W.calls.does (after_acts acts) c in
      machine.fetched_by c g.buffer (fetched acts) if eqb g.number 0 else fetched acts
  fetched (block s ∷ acts) = fetched acts

-- "Demand 3 reads a block as its single looks.": each line is one of specs/Demands.antt, over acts
pub record DemandsWide (W : Wide) : Type 0 where
  pub never : (acts : List Act) → all fit acts ≡ true → Said (W.calls.parts (after_acts W acts))
  pub bytes : (acts : List Act) → all fit acts ≡ true → (a : ℕ) (out : List ℕ) → (W.calls.does (after_acts W acts) (read a out)).number ≡ 0
      → (W.calls.does (after_acts W acts) (read a out)).buffer ≡ bytes_of a (length out) (past_of W acts)
  pub keys : (acts : List Act) → all fit acts ≡ true → (row col : ℕ) → row ≤ 7 → col ≤ 12
      → (W.calls.does (after_acts W acts) (held row col)).answer ≡ sheet.held (13 * row + col) (past_of W acts)
  pub line : (acts : List Act) → all fit acts ≡ true → (W.calls.does (after_acts W acts) interrupt).answer ≡ sheet.line (past_of W acts)
  pub ledger : (acts : List Act) → all fit acts ≡ true → fetched W acts ++ seen W.calls (after_acts W acts) ≡ kept (arrivals (past_of W acts))
  pub progress : (acts : List Act) → all fit acts ≡ true → (W.calls.does (awake W.calls (after_acts W acts)) (read 0x10 (0 ∷ []))).buffer ≡ 0x7F ∷ []
      → fetched W acts ≡ kept (arrivals (past_of W acts))
  pub replay : (acts : List Act) → all fit acts ≡ true → lost (arrivals (past_of W acts)) ≡ []
      → (row col : ℕ) → row ≤ 7 → col ≤ 12
      → replayed (13 * row + col) false (fetched W acts ++ seen W.calls (after_acts W acts)) ≡ (W.calls.does (after_acts W acts) (held row col)).answer
  pub told : (acts : List Act) → all fit acts ≡ true
      → all (bit 3) (W.calls.does (awake W.calls (after_acts W acts)) (read 0x06 (0 ∷ []))).buffer ≡ some (unreported (past_of W acts))
  -- E7, as in specs/Sleep.antt
  pub sleep : (acts : List Act) → all fit acts ≡ true → (a : ℕ) (bytes : List ℕ)
      → (eqb (W.calls.does (after_acts W acts) (read a bytes)).number 27 ≡ sheet.asleep (past_of W acts))
      × (eqb (W.calls.does (after_acts W acts) (write a bytes)).number 27 ≡ sheet.asleep (past_of W acts))

-- ---- acts as calls
-- n looks of the samples s, made after the calls cs
unfoldable pub looks_of : ℕ → List ℕ → List Call → List Call
looks_of zero s cs = cs
looks_of (suc n) s cs = looks_of n (drop 8 s) (look (take 8 s) ∷ cs)

unfoldable pub spelled : (W : Wide) → List Act → List Call
spelled W [] = []
spelled W (call c ∷ acts) = c ∷ spelled W acts
spelled W (block s ∷ acts) = looks_of (W.looks (after_acts W acts) s).done s (spelled W acts)
