-- THE SPARE PINS, on the sheet, for every past.
--
--    line_irqst          the line is asserted exactly when IRQST isn't 0
--    unenabled_silent    while no pin is enabled, no pin raises the line
--    first_makes_none    the first sample after reset makes no edge
--    used_makes_none     a pin used by the size makes no edge
--    clears_exactly      a byte written to a register of the pins clears the edges that GPIOIC says, and no other
--    used_not_driven     a pin used by the size is not driven
--    size_keeps          a size write keeps the kept bytes, the samples and the pending edges
--    kept_until_free     after a size write a pin that is free is driven exactly as its kept bits say
-- Assumes nothing.
use Prim.Native.Nat.{ℕ, ◌+◌, ◌/◌, ◌%◌, ◌<◌}
use mathlib.Core.Path.{◌≡◌, refl, ap}
use mathlib.Core.Bool.{Bool, true, false, not, ◌&&◌, ◌||◌, beq, cond, and-false}
use mathlib.Core.List.{[], ◌∷◌}
use lib.Dec.{eqb}
use Rattle.words.specs.Words.{some, bit, without}
use Rattle.words.proofs.Laws.{below_all}
use Rattle.words.proofs.Bits.{some_flag}
use Rattle.pins.specs.Rules as pins
use Rattle.registers.specs.declared.Register.TheVariants.{KBDSIZE, PIN}
use Rattle.registers.specs.Registers.{◌is◌, address, ◌is_pin◌}
use Rattle.sheet.specs.Sheet.{Past, wrote, beside, sampled, size, kept_at, pin_samples, newest, pending, raised, mis, porirq, line, irqst}

-- ---- the line
-- the line is asserted exactly when IRQST isn't 0
pub line_irqst : (past : Past) → line past ≡ not (eqb (irqst past) 0)
unfolding line irqst
line_irqst past = some_flag (porirq past) (not (eqb (mis past) 0)) (raised past)

-- while no pin is enabled, no pin raises the line
pub unenabled_silent : (past : Past) → ((i : ℕ) → i < 19 → pins.IE (kept_at past) i ≡ false) → raised past ≡ false
unfolding raised
unenabled_silent past e = ap not (below_all (λ i. not (pending past i && pins.IE (kept_at past) i)) 19 (λ i h. rw (e i h, and-false (pending past i))))

-- ---- edges
no_edge : (p a b : Bool) → (p || (a && (b && false))) ≡ p
no_edge true a b = refl
no_edge false true b = and-false b
no_edge false false b = refl

-- the first sample after reset makes no edge
pub first_makes_none : (x : ℕ) (past : Past) → pin_samples past ≡ [] → (i : ℕ) → pending (beside (sampled x) ∷ past) i ≡ pending past i
unfolding pending some
first_makes_none x past e i = rw e (no_edge (pending past i) false false)

-- a pin used by the size makes no edge
pub used_makes_none : (x : ℕ) (past : Past) (i : ℕ) → pins.used (size past) i ≡ true → pending (beside (sampled x) ∷ past) i ≡ pending past i
unfolding pending pins.edge
used_makes_none x past i e = rw e (no_edge (pending past i) (some (pin_samples past)) (not (beq (newest past i) (bit i x))))

clearing : (at one p : Bool) → cond at (cond one false p) p ≡ (p && not (at && one))
clearing true true true = refl
clearing true true false = refl
clearing true false true = refl
clearing true false false = refl
clearing false one true = refl
clearing false one false = refl

-- a byte written to a register of the pins clears the edges that GPIOIC says, and no other
pub clears_exactly : (a b : ℕ) (past : Past) (i : ℕ) → pending (wrote (PIN a) b ∷ past) i ≡ (pending past i && not (pins.clears a b i))
unfolding pending without pins.clears ◌is_pin◌
clears_exactly a b past i = clearing (eqb a (0xDC + i / 8)) (bit (i % 8) b) (pending past i)

-- ---- the size
-- a pin used by the size is not driven
pub used_not_driven : (past : Past) (i : ℕ) → pins.used (size past) i ≡ true → pins.drives (kept_at past) (size past) i ≡ false
unfolding pins.drives
used_not_driven past i e = rw e

-- a size write keeps the kept bytes, the samples and the pending edges
pub size_keeps : (b : ℕ) (past : Past)
    → (kept_at (wrote KBDSIZE b ∷ past) ≡ kept_at past) × (pin_samples (wrote KBDSIZE b ∷ past) ≡ pin_samples past) × (pending (wrote KBDSIZE b ∷ past) ≡ pending past)
unfolding kept_at pin_samples pending ◌is_pin◌
size_keeps b past = (refl, refl, refl)

-- after a size write a pin that is free is driven exactly as its kept bits say
pub kept_until_free : (b : ℕ) (past : Past) (i : ℕ) → pins.used b i ≡ false
    → pins.drives (kept_at (wrote KBDSIZE b ∷ past)) (size (wrote KBDSIZE b ∷ past)) i
    ≡ (pins.DIR (kept_at past) i && (pins.MASK (kept_at past) i && (not (pins.OME (kept_at past) i) || beq (pins.OMS (kept_at past) i) (pins.DATA (kept_at past) i))))
unfolding pins.drives size ◌is◌ address
kept_until_free b past i e = rw ((size_keeps b past).0, e)
