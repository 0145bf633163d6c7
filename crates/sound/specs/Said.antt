-- "A state is sound when:", sentence by sentence, as propositions over rows, columns and places. No walk of the module is cited, and of its tests
-- `acceptable` and `in_size` alone, which are anchored to literal tables.
--
--    Code size c    the byte c is "a press or release code of a key in the size"
--    Said m         document 01's sentences hold of the module m
--
-- The module judges a state sound exactly when they hold: proofs/Exactly.antt.
use Rattle.std.specs.Prelude.{ℕ, ◌+◌, ◌*◌, ◌≤◌, ◌<◌, ◌≡◌, ◌⊎◌, true, false, get_or}
use Rattle.keys.specs.Keys.{acceptable, in_size}
use Rattle.state.specs.declared.Module.{Module}

-- "A key's press code is 16 × row + column; its release code is that plus 128"
pub record Code (size c : ℕ) : Type 0 where
  pub row : ℕ
  pub col : ℕ
  pub row_low : row ≤ 7
  pub col_low : col ≤ 12
  pub within : in_size size row col ≡ true
  pub is : (c ≡ 16 * row + col) ⊎ (c ≡ 16 * row + col + 128)

pub record Said (m : Module) : Type 0 where
  -- "KBDSIZE is acceptable"
  pub size : acceptable m.size ≡ true
  -- "no key out of the size is held or has a run of samples remembered"
  pub out : (row col : ℕ) → row ≤ 7 → col ≤ 12 → in_size m.size row col ≡ false
      → (get_or m.held (13 * row + col) false ≡ false) × (get_or m.run (13 * row + col) 0 ≡ 0)
  -- "no run is above 254"
  pub low : (row col : ℕ) → row ≤ 7 → col ≤ 12 → get_or m.run (13 * row + col) 0 ≤ 254
  -- "at most 15 codes wait"
  pub few : m.count ≤ 15
  -- "each a press or release code of a key in the size, kept oldest first from the first place"
  pub codes : (i : ℕ) → i < m.count → Code m.size (get_or m.queue i 0)
  -- "and unused places hold 0x7F"
  pub rest : (i : ℕ) → m.count ≤ i → i < 15 → get_or m.queue i 0 ≡ 0x7F
  -- "KBDMSK is at most 0x0F"
  pub mask : m.mask ≤ 0x0F
  -- "the four picture registers aren't all marked read"
  pub marks : ((n : ℕ) → n < 4 → get_or m.seen n false ≡ true) → ⊥
  -- document 02, E7: "the count is at most 255, and 255 exactly while asleep"
  pub counted : m.quiet ≤ 255
  pub sleeps : m.asleep ≡ true → m.quiet ≡ 255
  pub wakes : m.asleep ≡ false → m.quiet ≡ 255 → ⊥
