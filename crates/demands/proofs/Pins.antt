-- The spare pins: what is made of the pins' part that the sheet wrote down is what the sheet writes down, and what can be seen of it is what the sheet says.
--
--    kept_shown, pending_shown, level_shown, newest_shown    at every register that has a place, and at every pin
--    written_shown                 A BYTE WRITTEN to one of the pins' registers
--    sampled_shown                 THE PINS ARE SAMPLED
--    raised_shown                  an enabled edge is pending
--    pins_byte_shown               the byte that a read of one of the pins' registers gives, if it can be read
--    driven_shown, levels_shown    the pins that are driven, and those that are driven to 1
-- Assumes nothing.
use Prim.Native.Nat.{ℕ, ◌+◌, ◌/◌, ◌<◌, ◌≤◌}
use native.Mathlib.Decide.{dec_lt}
use native.Mathlib.Omega.{arith}
use mathlib.Core.Path.{◌≡◌, refl, sym, ap, ◌∙◌}
use mathlib.Core.Logic.{◌⊎◌, inl, inr}
use mathlib.Core.Bool.{Bool, true, false, cond, not, ◌&&◌, ◌||◌, or-true, and-true}
use mathlib.Core.List.{List, [], ◌∷◌}
use borrow.Author.Tests.{eqb-true, eq-eqb, ne_eqb, lt-ltb}
use lib.Dec.{eqb, ltb}
use lib.ListN.{set, get_or-replicate}
use Rattle.words.specs.Words.{some, bit, within, table}
use Rattle.words.proofs.Laws.{true_false}
use Rattle.words.proofs.Bits.{bit_none}
use Rattle.words.proofs.Tables.{table_at, table_same}
use Rattle.pins.specs.declared.Pins.{Pins}
use Rattle.pins.specs.Rules.{edge, clears, is_data, reads}
use Rattle.pins.specs.Pins.{place, address_of, flag_in, newest_of, pins, cleared, written, edged}
use Rattle.pins.specs.Pins as part
use Rattle.pins.proofs.Laws.{within_from, within_to, place_pulls, place_below, place_below_drains, place_where, place_address, kept_table, set_table, written_kept, written_clears, clears_elsewhere}
use Rattle.pins.proofs.Laws.{word_same, drives_same, high_same, edge_same, raised_same, reads_same}
use Rattle.registers.specs.declared.Register.TheVariants.{PIN}
use Rattle.registers.specs.Registers.{pin_reads, ◌is_pin◌}
use Rattle.sheet.specs.Sheet as sheet
use Rattle.sheet.specs.Sheet.{Past, sampled, wrote, beside, size, kept_at, pin_samples, newest, pending}
use Rattle.sheet.proofs.Pins.{clears_exactly}
use Rattle.demands.specs.Shown.{pins_shown}

-- ---- register by register, and pin by pin
module _ (past : Past) where
  pub kept_shown : (a : ℕ) → place a < 33 → part.kept (pins_shown past) a ≡ kept_at past a
  unfolding pins_shown
  kept_shown a h = kept_table (kept_at past) a h

  module _ (i : ℕ) (h : i < 19) where
    pub pending_shown : part.pending (pins_shown past) i ≡ pending past i
    unfolding pins_shown
    pending_shown = table_at (pending past) 19 i false h

    pub level_shown : flag_in (pins_shown past).level i ≡ newest past i
    unfolding pins_shown
    level_shown = table_at (newest past) 19 i false h

    by_samples : (l : List ℕ) → pin_samples past ≡ l → part.newest (pins_shown past) i ≡ newest past i
    unfolding newest_of pins_shown newest some
    by_samples [] e = rw e (get_or-replicate 19 i false false h ∙ sym (bit_none i))
    by_samples (x ∷ l) e = rw e (rw e at level_shown)

    -- before the first sample too
    pub newest_shown : part.newest (pins_shown past) i ≡ newest past i
    newest_shown = by_samples (pin_samples past) refl

-- ---- a byte written
turned : (a b : ℕ) → eqb a b ≡ eqb b a
turned a b = go (eqb b a) refl
  where
    go : (t : Bool) → eqb b a ≡ t → eqb a b ≡ eqb b a
    go true e = let q = eqb-true b a e in rw q
    go false e = ne_eqb a b (λ q. true_false (sym (eq-eqb b a (sym q)) ∙ e)) ∙ sym e

-- GPIOIC keeps no byte
no_place : (a i : ℕ) → i < 19 → place a < 33 → a ≡ 0xDC + i / 8 → ⊥
no_place a i h p e = go (place_where a p)
  where
    go : ((0xAA ≤ a) × (a ≤ 0xAF)) ⊎ (((0xC0 ≤ a) × (a ≤ 0xD4)) ⊎ ((0xE0 ≤ a) × (a ≤ 0xE5))) → ⊥
    go (inl l) = let k = l.1 in omega arith
    go (inr (inl l)) = let k = l.1 in omega arith
    go (inr (inr l)) = let k = l.0 in omega arith

cleared_one : (t p : Bool) → cond t false p ≡ (p && not t)
cleared_one true true = refl
cleared_one true false = refl
cleared_one false true = refl
cleared_one false false = refl

module _ (a b : ℕ) (past : Past) where
  -- the pins' part, with these kept bytes and pending edges
  parts : List ℕ → List Bool → Pins
  parts k e = pins k e (table (newest past) 19) (some (pin_samples past))

  -- a byte that is kept clears nothing
  kept_there : place a < 33 → written (pins_shown past) a b ≡ pins_shown (wrote (PIN a) b ∷ past)
  unfolding pins_shown kept_at pin_samples newest ◌is_pin◌ parts
  kept_there p = written_kept (pins_shown past) a b p ∙ (λ i. parts (bytes i) (edges i))
    where
      bytes : set (table (λ n. kept_at past (address_of n)) 33) (place a) b ≡ table (λ n. kept_at (wrote (PIN a) b ∷ past) (address_of n)) 33
      bytes = set_table (kept_at past) a b p ∙ table_same _ _ 33 (λ n h. ap (λ t. cond t b (kept_at past (address_of n))) (turned (address_of n) a))

      still : (n : ℕ) → n < 19 → pending past n ≡ pending (wrote (PIN a) b ∷ past) n
      still n h = sym (clears_exactly a b past n ∙ rw (clears_elsewhere a b n (no_place a n h p)) (and-true (pending past n)))

      edges : table (pending past) 19 ≡ table (pending (wrote (PIN a) b ∷ past)) 19
      edges = table_same (pending past) (pending (wrote (PIN a) b ∷ past)) 19 still

  -- one that isn't clears what GPIOIC says
  cleared_there : 33 ≤ place a → written (pins_shown past) a b ≡ pins_shown (wrote (PIN a) b ∷ past)
  unfolding pins_shown kept_at pin_samples newest ◌is_pin◌ cleared parts
  cleared_there p = written_clears (pins_shown past) a b p ∙ (λ i. parts (bytes i) (edges i))
    where
      still : (n : ℕ) → n < 33 → kept_at past (address_of n) ≡ kept_at (wrote (PIN a) b ∷ past) (address_of n)
      still n h = let q = place_address n h in rw (ne_eqb a (address_of n) (λ e. let f = ap place e in omega arith))

      bytes : table (λ n. kept_at past (address_of n)) 33 ≡ table (λ n. kept_at (wrote (PIN a) b ∷ past) (address_of n)) 33
      bytes = table_same (λ n. kept_at past (address_of n)) (λ n. kept_at (wrote (PIN a) b ∷ past) (address_of n)) 33 still

      clearing : (n : ℕ) → n < 19 → cond (clears a b n) false (part.pending (pins_shown past) n) ≡ pending (wrote (PIN a) b ∷ past) n
      clearing n h = cleared_one (clears a b n) (part.pending (pins_shown past) n) ∙ rw (pending_shown past n h) (sym (clears_exactly a b past n))

      edges : cleared (table (pending past) 19) a b ≡ table (pending (wrote (PIN a) b ∷ past)) 19
      edges = table_same _ (pending (wrote (PIN a) b ∷ past)) 19 clearing

  pub written_shown : written (pins_shown past) a b ≡ pins_shown (wrote (PIN a) b ∷ past)
  written_shown = go (dec_lt (place a) 33)
    where
      go : Dec (place a < 33) → written (pins_shown past) a b ≡ pins_shown (wrote (PIN a) b ∷ past)
      go (yes p) = kept_there p
      go (no p) = cleared_there (omega arith)

-- ---- the pins sampled
module _ (x : ℕ) (past : Past) where
  edged_shown : (i : ℕ) → i < 19 → edged (pins_shown past) (size past) x i ≡ pending (beside (sampled x) ∷ past) i
  unfolding edged pending pins_shown
  edged_shown i h =
      let edges : edge (part.kept (pins_shown past)) (size past) i (flag_in (pins_shown past).level i) (bit i x) ≡ edge (kept_at past) (size past) i (newest past i) (bit i x) =
      rw (level_shown past i h) (edge_same (part.kept (pins_shown past)) (kept_at past) (kept_shown past) (size past) i h (newest past i) (bit i x)) in
      λ k. pending_shown past i h k || (some (pin_samples past) && edges k)

  pub sampled_shown : part.sampled (pins_shown past) (size past) x ≡ pins_shown (beside (sampled x) ∷ past)
  unfolding part.sampled pins_shown kept_at pin_samples newest some
  sampled_shown =
      ap (λ (e : List Bool). pins (table (λ n. kept_at past (address_of n)) 33) e (table (λ i. bit i x) 19) true)
      (table_same (edged (pins_shown past) (size past) x) (pending (beside (sampled x) ∷ past)) 19 edged_shown)

-- ---- what can be seen
-- a register of the pins that can be read: IRQST, one that is kept, GPIODATA, GPIORIS or GPIOMIS
can_read_lem : (a : ℕ) → pin_reads a ≡ true → eqb a 0x91 ≡ false → (ltb (place a) 33 || (is_data a || within 0xD6 0xDB a)) ≡ true
unfolding pin_reads is_data
can_read_lem a e n = go (within 0xAA 0xAF a) (eqb a 0xC0) (eqb a 0xC2) (eqb a 0xC4) (within 0xC6 0xD4 a) (within 0xD6 0xDB a) refl refl refl refl refl refl
  where
    here : place a < 33 → (ltb (place a) 33 || (is_data a || within 0xD6 0xDB a)) ≡ true
    here p = rw (lt-ltb (place a) 33 p)

    go : (p c d f s r : Bool) → within 0xAA 0xAF a ≡ p → eqb a 0xC0 ≡ c → eqb a 0xC2 ≡ d → eqb a 0xC4 ≡ f → within 0xC6 0xD4 a ≡ s → within 0xD6 0xDB a ≡ r
        → (ltb (place a) 33 || (is_data a || within 0xD6 0xDB a)) ≡ true
    go true c d f s r p₁ c₁ d₁ f₁ s₁ r₁ =
        let u = within_from 0xAA 0xAF a p₁ in
        let v = within_to 0xAA 0xAF a p₁ in
        let q = place_pulls a u v in
        here (omega arith)
    go false true d f s r p₁ c₁ d₁ f₁ s₁ r₁ = let q = eqb-true a 0xC0 c₁ in here (place_below a (omega arith) (omega arith))
    go false false true f s r p₁ c₁ d₁ f₁ s₁ r₁ = let q = eqb-true a 0xC2 d₁ in here (place_below a (omega arith) (omega arith))
    go false false false true s r p₁ c₁ d₁ f₁ s₁ r₁ = let q = eqb-true a 0xC4 f₁ in here (place_below a (omega arith) (omega arith))
    go false false false false true r p₁ c₁ d₁ f₁ s₁ r₁ =
        let u = within_from 0xC6 0xD4 a s₁ in
        let v = within_to 0xC6 0xD4 a s₁ in
        here (place_below a (omega arith) (omega arith))
    go false false false false false true p₁ c₁ d₁ f₁ s₁ r₁ = rw (r₁, or-true (is_data a), or-true (ltb (place a) 33))
    go false false false false false false p₁ c₁ d₁ f₁ s₁ r₁ =
        let z : within 0xE0 0xE5 a ≡ true = rw (n, p₁, c₁, d₁, f₁, s₁, r₁) at e in
        let u = within_from 0xE0 0xE5 a z in
        let v = within_to 0xE0 0xE5 a z in
        here (place_below_drains a (omega arith) (omega arith))

module _ (past : Past) where
  pub raised_shown : part.raised (pins_shown past).kept (pins_shown past).edge ≡ sheet.raised past
  unfolding part.raised sheet.raised
  raised_shown = raised_same (part.kept (pins_shown past)) (kept_at past) (kept_shown past) (part.pending (pins_shown past)) (pending past) (pending_shown past)

  pub pins_byte_shown : (a : ℕ) → pin_reads a ≡ true → eqb a 0x91 ≡ false
      → part.byte_of (pins_shown past) (size past) a ≡ reads (kept_at past) (pending past) (newest past) (size past) a
  unfolding part.byte_of
  pins_byte_shown a e n =
      reads_same (part.kept (pins_shown past)) (kept_at past) (kept_shown past) (part.pending (pins_shown past)) (pending past) (pending_shown past)
      (part.newest (pins_shown past)) (newest past) (newest_shown past) (size past) a (can_read_lem a e n)

  pub driven_shown : part.driven (pins_shown past) (size past) ≡ sheet.driven past
  unfolding part.driven sheet.driven
  driven_shown = word_same _ _ (λ i h. drives_same (part.kept (pins_shown past)) (kept_at past) (kept_shown past) (size past) i h)

  pub levels_shown : part.levels (pins_shown past) (size past) ≡ sheet.levels past
  unfolding part.levels sheet.levels
  levels_shown = word_same _ _ (λ i h. high_same (part.kept (pins_shown past)) (kept_at past) (kept_shown past) (size past) i h)
