-- THE TABLE OF NUMBERS, as propositions in document 01's words. With the module it shares the ground floor alone, which is anchored to literal tables:
-- `register_at`, `allowed`, `next`, `acceptable`, `in_size` and `bit`.
--
--    Rule, P ⇒ n         a row of the table: n, when P holds
--    First rules n       "A number is given exactly when its line is true and no line before it in this order is."
--    place a k           the address of place k of a run that begins at a
--    Unsound, NotEight, HighBits, Asleep, NotAllowed, BadSize, NoKey, HighPin    the conditions of rows 8, 1, 2, 27, 5, 6, 7 and 26
--    rules M σ c         the rows for a call c that is made in the state σ, in document 01's order
use Rattle.std.specs.Prelude.{ℕ, zero, suc, ◌<◌, ◌≡◌, ◌⊎◌, true, false, List, [], ◌∷◌, length, get_or}
use Rattle.words.specs.Words.{bit}
use Rattle.keys.specs.Keys.{acceptable}
use Rattle.registers.specs.declared.Access.{Access}
use Rattle.registers.specs.declared.Access.TheVariants.{Read, Write}
use Rattle.registers.specs.Registers.{register_at, allowed}
use Rattle.registers.specs.Runs.{next}
use Rattle.state.specs.declared.Module.{Module}
use Rattle.sound.specs.Said.{Said}
use Rattle.demands.specs.Machine.{Call, reset, look, write, read, held, interrupt, pins, Machine}

infix 70 ◌⇒◌
pub data Rule : Type 1 where
  ◌⇒◌ : Type 0 → ℕ → Rule

unfoldable pub First : List Rule → ℕ → Type 0
First [] n = n ≡ 0
First ((P ⇒ k) ∷ rules) n = (P × (n ≡ k)) ⊎ ((P → ⊥) × First rules n)

-- "The address rises by one per byte, except at 0x10, where it stays. It doesn't wrap after 0xFF: there is no address 0x100."
unfoldable pub place : ℕ → ℕ → ℕ
place a zero = a
place a (suc k) = next (place a k)

-- "module state unsound"
abbrev pub Unsound : Module → Type 0
Unsound m = Said m → ⊥

-- "list isn't eight samples"
abbrev pub NotEight : List ℕ → Type 0
NotEight s = length s ≡ 8 → ⊥

-- "some sample has bit 13, 14 or 15 set"
abbrev pub HighBits : List ℕ → Type 0
HighBits s = (k : ℕ) × ((k < length s) × ((bit 13 (get_or s k 0) ≡ true) ⊎ ((bit 14 (get_or s k 0) ≡ true) ⊎ (bit 15 (get_or s k 0) ≡ true))))

-- document 02, E7: "asleep"
abbrev pub Asleep : Module → Type 0
Asleep m = m.asleep ≡ true

-- "some address of the run is unknown, or can't be read or written as asked"
abbrev pub NotAllowed : Access → ℕ → ℕ → Type 0
NotAllowed way a n = (k : ℕ) × ((k < n) × (allowed way (register_at (place a k)) ≡ false))

-- "a byte for KBDSIZE isn't acceptable"
abbrev pub BadSize : ℕ → List ℕ → Type 0
BadSize a bs = (k : ℕ) × ((k < length bs) × ((place a k ≡ 0x03) × (acceptable (get_or bs k 0) ≡ false)))

-- "row above 7 or column above 12"
abbrev pub NoKey : ℕ → ℕ → Type 0
NoKey row col = (7 < row) ⊎ (12 < col)

-- document 02, E6: "a pin sample with a bit above 18"
abbrev pub HighPin : ℕ → Type 0
HighPin x = (k : ℕ) × ((18 < k) × (bit k x ≡ true))

-- "Order: 8; then 1, 2, 9 for a look; 3, 4, 5, 6 for an access; 7 for the held question.": without 9, which is retired. E6: "26 [..], after 8". E7: "27 asleep, after 8 and before 3"
unfoldable pub rules : (M : Machine) → M.State → Call → List Rule
rules M σ reset = []
rules M σ (look s) = Unsound (M.parts σ) ⇒ 8 ∷ NotEight s ⇒ 1 ∷ HighBits s ⇒ 2 ∷ []
rules M σ (write a bs) =
    Unsound (M.parts σ) ⇒ 8 ∷ Asleep (M.parts σ) ⇒ 27
    ∷ (length bs ≡ 0) ⇒ 3 ∷ (32 < length bs) ⇒ 4 ∷ NotAllowed Write a (length bs) ⇒ 5 ∷ BadSize a bs ⇒ 6 ∷ []
rules M σ (read a out) =
    Unsound (M.parts σ) ⇒ 8 ∷ Asleep (M.parts σ) ⇒ 27
    ∷ (length out ≡ 0) ⇒ 3 ∷ (32 < length out) ⇒ 4 ∷ NotAllowed Read a (length out) ⇒ 5 ∷ []
rules M σ (held row col) = Unsound (M.parts σ) ⇒ 8 ∷ NoKey row col ⇒ 7 ∷ []
rules M σ interrupt = Unsound (M.parts σ) ⇒ 8 ∷ []
rules M σ (pins x) = Unsound (M.parts σ) ⇒ 8 ∷ HighPin x ⇒ 26 ∷ []
