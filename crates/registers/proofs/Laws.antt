-- Laws of addresses and of runs of them.
--
--    run_end             an access of no bytes has no address
--    run_no, run_yes     the first address decides, or the rest does
--    run_in from to a n   do n bytes from the address a on all lie in the registers from one address up to another?
--    run_from, run_to    where such a run begins, and where it ends
--    picture_from, picture_to    of the picture's four registers
--    keypad_below, pin_from      below 0x91 the registers are the keypad's, and from there on the pins'
--    pin_known, pin_known_write  a register of the pins that can be read, and one that can be written
--    next_pin            behind an address of the pins comes the next one
--    reads_pulls, reads_settings, reads_edges, reads_drains    those of the pins that can be read one after another
--    no_address, small   above 0xFF there is no register; the number of a picture register fits a byte
-- Assumes nothing.
use Prim.Native.Nat.{ℕ, zero, suc, ◌+◌, ◌-◌, ◌≤◌, ◌<◌}
use native.Mathlib.Nat.{not-suc-le-zero}
use native.Mathlib.Numerals.{sub-one}
use native.Mathlib.Omega.{arith}
use mathlib.Core.Path.{◌≡◌, refl, sym, ap, ◌∙◌}
use mathlib.Core.Bool.{Bool, true, false, ◌&&◌, or-true, and-false}
use lib.Dec.{leb}
use borrow.Author.Tests.{ne_eqb, lt-leb, leb-true, lt-ltb, le-ltb}
use Rattle.words.specs.Words.{all, all_below, within}
use Rattle.words.proofs.Laws.{and_left, and_right, all_no, all_yes, all_below_lem}
use Rattle.registers.specs.declared.Access.{Access}
use Rattle.registers.specs.declared.Register.TheVariants.{PIN, Unknown}
use Rattle.registers.specs.Registers.{pin_reads, pin_writes, pin_at, keypad_at, register_at, allowed}
use Rattle.registers.specs.Runs.{next, addresses, run_allowed}

module _ (way : Access) (a : ℕ) where
  pub run_end : run_allowed way a 0 ≡ true
  unfolding run_allowed addresses all
  run_end = refl

  pub run_no : (n : ℕ) → 0 < n → allowed way (register_at a) ≡ false → run_allowed way a n ≡ false
  unfolding run_allowed addresses
  run_no zero h e = absurd (not-suc-le-zero h)
  run_no (suc n) h e = all_no (λ b. allowed way (register_at b)) a (addresses (next a) n) e

  pub run_yes : (n : ℕ) → 0 < n → allowed way (register_at a) ≡ true → run_allowed way a n ≡ run_allowed way (next a) (n - 1)
  unfolding run_allowed addresses
  run_yes zero h e = absurd (not-suc-le-zero h)
  run_yes (suc n) h e = simp sub-one (all_yes (λ b. allowed way (register_at b)) a (addresses (next a) n) e)

-- do n bytes from the address a on all lie in the registers from one address up to another?
abbrev pub run_in : ℕ → ℕ → ℕ → ℕ → Bool
run_in from to a n = leb from a && leb (a + n) to

module _ (from to a n : ℕ) where
  pub run_from : run_in from to a n ≡ true → from ≤ a
  run_from e = leb-true from a (and_left (leb from a) (leb (a + n) to) e)

  pub run_to : run_in from to a n ≡ true → a + n ≤ to
  run_to e = leb-true (a + n) to (and_right (leb from a) (leb (a + n) to) e)

-- the picture's four registers
module _ (a n : ℕ) where
  pub picture_from : run_in 0x0B 0x0F a n ≡ true → 0x0B ≤ a
  picture_from = run_from 0x0B 0x0F a n

  pub picture_to : run_in 0x0B 0x0F a n ≡ true → a + n ≤ 0x0F
  picture_to = run_to 0x0B 0x0F a n

-- ---- the keypad's addresses, and the pins'
module _ (a : ℕ) where
  pub keypad_below : a < 0x91 → register_at a ≡ keypad_at a
  unfolding register_at
  keypad_below h = rw (lt-ltb a 0x91 h)

  module _ (h : 0x91 ≤ a) where
    pub pin_from : register_at a ≡ pin_at a
    unfolding register_at
    pin_from = rw (le-ltb a 0x91 h)

    pub pin_known : pin_reads a ≡ true → register_at a ≡ PIN a
    pin_known e = pin_from ∙ rw e

    pub pin_known_write : pin_writes a ≡ true → register_at a ≡ PIN a
    pin_known_write e = pin_from ∙ rw (e, or-true (pin_reads a))

    pub next_pin : a < 0x100 → next a ≡ a + 1
    unfolding next
    next_pin l = rw (ne_eqb a 0x10 (omega arith), lt-leb 0x100 a l)

-- the pins' registers that can be read one after another
module _ (lo n : ℕ) (e : all_below (λ k. pin_reads (lo + k)) n ≡ true) (a : ℕ) (l : lo ≤ a) where
  from_lo : lo + (a - lo) ≡ a
  from_lo = omega arith

  reads_at : a < lo + n → pin_reads a ≡ true
  reads_at h = sym (ap pin_reads from_lo) ∙ all_below_lem (λ k. pin_reads (lo + k)) n e (a - lo) (omega arith)

-- IOPC
pub reads_pulls : (a : ℕ) → 0xAA ≤ a → a ≤ 0xAF → pin_reads a ≡ true
unfolding pin_reads all_below
reads_pulls a l h = reads_at 0xAA 6 refl a l (omega arith)

-- GPIODIR to GPIOIE
pub reads_settings : (a : ℕ) → 0xC6 ≤ a → a ≤ 0xD4 → pin_reads a ≡ true
unfolding pin_reads all_below
reads_settings a l h = reads_at 0xC6 15 refl a l (omega arith)

-- GPIORIS and GPIOMIS
pub reads_edges : (a : ℕ) → 0xD6 ≤ a → a ≤ 0xDB → pin_reads a ≡ true
unfolding pin_reads all_below
reads_edges a l h = reads_at 0xD6 6 refl a l (omega arith)

-- GPIOOME and GPIOOMS
pub reads_drains : (a : ℕ) → 0xE0 ≤ a → a ≤ 0xE5 → pin_reads a ≡ true
unfolding pin_reads all_below
reads_drains a l h = reads_at 0xE0 6 refl a l (omega arith)

past : (lo hi a : ℕ) → hi < a → within lo hi a ≡ false
past lo hi a h = rw (lt-leb a hi h) (and-false (leb lo a))

module _ (a : ℕ) (h : 0xFF < a) where
  no_read : pin_reads a ≡ false
  unfolding pin_reads
  no_read =
      rw (ne_eqb a 0x91 (omega arith), past 0xAA 0xAF a (omega arith), ne_eqb a 0xC0 (omega arith), ne_eqb a 0xC2 (omega arith), ne_eqb a 0xC4 (omega arith), past 0xC6 0xD4 a (omega arith), past 0xD6 0xDB a (omega arith), past 0xE0 0xE5 a (omega arith))

  no_write : pin_writes a ≡ false
  unfolding pin_writes
  no_write =
      rw (past 0xAA 0xAF a (omega arith), past 0xC0 0xD4 a (omega arith), past 0xDC 0xDE a (omega arith), past 0xE0 0xE5 a (omega arith))

  -- "there is no address 0x100"
  pub no_address : register_at a ≡ Unknown
  no_address = pin_from a (omega arith) ∙ rw (no_read, no_write)

-- which of the picture's four it is fits a byte
pub small : (a : ℕ) → a < 0x0F → a - 0x0B < 256
small a h = omega arith
