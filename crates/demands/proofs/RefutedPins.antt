-- NO WRONG MACHINE OF specs/WrongPins.antt MEETS THE DEMANDS: for each a short list of calls after which it is seen.
--
--    rising, dark             the calls, newest first
--    SampleWrong              a declined sample alters the module
--    Told, told               what is found of each machine, and what was to be found: ALL COMPUTED
--    keypad_edge_refuted, ..  no wrong machine meets the demand
-- Assumes nothing.
use Prim.Native.Nat.{ℕ}
use native.Mathlib.Omega.{arith}
use mathlib.Core.Path.{◌≡◌, refl, sym, ap, ◌∙◌}
use mathlib.Core.Bool.{true, false}
use mathlib.Core.List.{List, [], ◌∷◌}
use Rattle.words.proofs.Laws.{true_false}
use Rattle.state.specs.declared.Module.{Module}
use Rattle.demands.specs.Machine.{Call, write, pins, after}
use Rattle.demands.specs.Demands.{Demand1, Demand2}
use Rattle.demands.specs.Pins.{DriveDemand2}
use Rattle.demands.specs.WrongPins.{keypad_edge, first_edge, raw_line, size_clears, size_forgets, declined_sample, used_drives}
use Rattle.demands.proofs.Failing.{BytesWrong, no_bytes_lem, LineWrong, no_line, DrivenWrong, no_driven}
use Rattle.demands.proofs.Opened.{opened}

-- ---- the calls, newest first. After reset the size is 22: pin 0 is used, pin 2 is free, and both are inputs watched for a rising edge
-- the pins x rise, in two samples
abbrev rising : ℕ → List Call → List Call
rising x cs = pins x ∷ pins 0 ∷ cs

-- PORIRQ is cleared
abbrev dark : List Call
dark = write 0x84 (1 ∷ []) ∷ []

-- a sample with bit 19, though it is declined, counts as the first
abbrev SampleWrong : Type 0
SampleWrong =
    let m = after declined_sample [] in
    let g = declined_sample.does m (pins 0x80000) in
    (g.number ≡ 26) × (m.pins.sampled ≡ false) × (g.next.pins.sampled ≡ true)

-- ---- what is found, and what was to be found; GPIORIS is at D6, GPIODIR at C6, GPIOMASK at C1
record Told : Type 0 where
  keypad_edge : BytesWrong keypad_edge (rising 0x01 []) 0xD6 (0x01 ∷ []) (0x00 ∷ [])
  first_edge : BytesWrong first_edge (pins 0x04 ∷ []) 0xD6 (0x04 ∷ []) (0x00 ∷ [])
  raw_line : LineWrong raw_line (rising 0x04 dark) true
  size_clears : BytesWrong size_clears (write 0x03 (0x22 ∷ []) ∷ rising 0x04 []) 0xD6 (0x00 ∷ []) (0x04 ∷ [])
  size_forgets : BytesWrong size_forgets (write 0x03 (0x22 ∷ []) ∷ write 0xC6 (0xFF ∷ []) ∷ []) 0xC6 (0x00 ∷ []) (0xFF ∷ [])
  declined_sample : SampleWrong
  used_drives : DrivenWrong used_drives (write 0xC6 (0x05 ∷ []) ∷ write 0xC1 (0x05 ∷ []) ∷ []) 0x05 0x04

told : Told
unfolding opened
told =
    record {
      keypad_edge = (refl, refl, refl, refl);
      first_edge = (refl, refl, refl, refl);
      raw_line = (refl, refl, refl);
      size_clears = (refl, refl, refl, refl);
      size_forgets = (refl, refl, refl, refl);
      declined_sample = (refl, refl, refl);
      used_drives = (refl, refl, refl, refl);
    }

-- "A pin used by the keypad size isn't plain I/O and makes no edge"
pub keypad_edge_refuted : Demand2 keypad_edge → ⊥
keypad_edge_refuted = no_bytes_lem keypad_edge _ 0xD6 _ _ told.keypad_edge

-- "the first after reset makes no edge"
pub first_edge_refuted : Demand2 first_edge → ⊥
first_edge_refuted = no_bytes_lem first_edge _ 0xD6 _ _ told.first_edge

-- "The interrupt line now also follows enabled pin edges"
pub raw_line_refuted : Demand2 raw_line → ⊥
raw_line_refuted = no_line raw_line _ true told.raw_line

-- the pending edges stay over a size write
pub size_clears_refuted : Demand2 size_clears → ⊥
size_clears_refuted = no_bytes_lem size_clears _ 0xD6 _ _ told.size_clears

-- "a size write keeps the pin registers"
pub size_forgets_refuted : Demand2 size_forgets → ⊥
size_forgets_refuted = no_bytes_lem size_forgets _ 0xC6 _ _ told.size_forgets

-- "a declined call alters neither the module nor the caller's buffer"
pub declined_sample_refuted : Demand1 declined_sample → ⊥
declined_sample_refuted d =
    let t = told.declined_sample in
    let e = d.declined (after declined_sample []) (pins 0x80000) (λ z. omega (arith, sym t.0 ∙ z)) (λ z. omega (arith, sym t.0 ∙ z)) in
    true_false (sym t.2 ∙ ap (λ (m : Module). m.pins.sampled) e.0 ∙ t.1)

-- "a write to its bits is kept but drives nothing until the pin is free"
pub used_drives_refuted : DriveDemand2 used_drives → ⊥
used_drives_refuted = no_driven used_drives _ _ _ told.used_drives
