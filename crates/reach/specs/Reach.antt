-- What is meant by: a state is reached by calls from reset. Every sound state is, but for its pins, its count and its sleep: calls reach the one with its keypad,
-- awake, with a count of 0, and with the pins as after reset.
-- Not every state of the pins is reached, and soundness asks nothing of them: no size frees pins 0, 1, 8 and 9, so their edges are never pending after calls.
-- Nor is every count, with keys that have a run: of the sound states with such pins those are reached that have a count of 0, or no run (proofs/Resting.antt).
--
--    callable c         the values of a call are of their types: samples u16, of pins u32; addresses, bytes, rows and columns u8
--    ReachedBy m        calls from reset that end in the state m
--    SoundIsReached     THE THEOREM: of every sound state the keypad is reached, awake, with a count of 0, and with the pins as after reset; and what is reached is sound
--    Shows m past       demand 2 of one state: its bytes, held keys and line are the sheet's for a past
--    after_from M σ cs  the state after calls, newest first, that begin in the state σ
use Rattle.std.specs.Prelude.{ℕ, ◌+◌, ◌*◌, ◌≤◌, ◌≡◌, Bool, true, ◌&&◌, List, [], ◌∷◌, length, ltb}
use Rattle.words.specs.Words.{all}
use Rattle.sheet.specs.Sheet as sheet
use Rattle.sheet.specs.Sheet.{Past}
use Rattle.state.specs.declared.Module.{Module}
use Rattle.state.specs.Module.{keypad}
use Rattle.state.specs.Typed.{Typed}
use Rattle.sound.specs.Said.{Said}
use Rattle.demands.specs.Machine.{Call, reset, look, write, read, held, interrupt, pins, Machine, after}
use Rattle.demands.specs.Demands.{bytes_of}
use Rattle.demands.specs.Ours.{called, ours}

unfoldable pub callable : Call → Bool
callable reset = true
callable (look s) = all (λ x. ltb x 0x10000) s
callable (write a bs) = ltb a 256 && all (λ b. ltb b 256) bs
callable (read a out) = ltb a 256 && all (λ b. ltb b 256) out
callable (held row col) = ltb row 256 && ltb col 256
callable interrupt = true
callable (pins x) = ltb x 0x100000000

pub record ReachedBy (m : Module) : Type 0 where
  -- newest first
  pub calls : List Call
  pub types : all callable calls ≡ true
  pub there : after ours calls ≡ m

-- `keypad m` is m itself if it is awake, with a count of 0, and with the pins as after reset
pub record SoundIsReached : Type 0 where
  pub reached : (m : Module) → Typed m → Said m → ReachedBy (keypad m)
  pub sound : (m : Module) → ReachedBy m → Typed m × Said m

pub record Shows (m : Module) (past : Past) : Type 0 where
  pub bytes : (a : ℕ) (out : List ℕ) → (called m (read a out)).number ≡ 0 → (called m (read a out)).buffer ≡ bytes_of a (length out) past
  pub keys : (row col : ℕ) → row ≤ 7 → col ≤ 12 → (called m (held row col)).answer ≡ sheet.held (13 * row + col) past
  pub line : (called m interrupt).answer ≡ sheet.line past

unfoldable pub after_from : (M : Machine) → M.State → List Call → M.State
after_from M σ [] = σ
after_from M σ (c ∷ cs) = (M.does (after_from M σ cs) c).next
