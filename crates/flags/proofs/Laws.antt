-- Laws of the flags.
--
--    four a b c d            four flags as the bits 3 to 0 of a byte
--    weigh_times             a flag weighs its weight times, or not at all
--    four_binary             four flags are the number with these bits
--    four_bits               and back: Bits n a b c d says that the bits of the byte n are these
--    weigh_most, four_most   the most that one flag and four can weigh
--    ris_most, mis_most      "the rest 0": KBDRIS and KBDMIS are below 16
--    ris_bits_lem                the bits of KBDRIS are the flags
--    mis_shows, mis_bits_lem     a bit of KBDMIS is that of KBDRIS, or 0 if KBDMSK has it set
--    line_porirq, line_mis, line_pins   the line if PORIRQ is set; else, if KBDMIS isn't 0; else
--    line_irqst              the line is asserted exactly when IRQST isn't 0
-- Assumes nothing.
use Prim.Native.Nat.{ℕ, zero, suc, ◌+◌, ◌*◌, ◌<◌, ◌≤◌}
use native.Mathlib.Omega.{arith}
use mathlib.Core.Path.{◌≡◌, sym, ap, ◌∙◌}
use mathlib.Core.Bool.{Bool, true, false, not, ◌||◌}
use mathlib.Core.List.{[], ◌∷◌}
use lib.Dec.{eqb}
use Rattle.words.specs.Words.{◌if◌, ◌else◌, bit, without}
use Rattle.words.specs.Bits.{binary}
use Rattle.words.proofs.Bits.{binary_bit, some_flag}
use Rattle.state.specs.declared.Module.{Module}
use Rattle.state.specs.Queue.{waits}
use Rattle.flags.specs.Flags.{weigh, ris, mis, raised, line, irqst}

abbrev pub four : Bool → Bool → Bool → Bool → ℕ
four a b c d = weigh a 8 + weigh b 4 + weigh c 2 + weigh d 1

abbrev pub Bits : ℕ → Bool → Bool → Bool → Bool → Type 0
Bits n a b c d = (bit 3 n ≡ a) × (bit 2 n ≡ b) × (bit 1 n ≡ c) × (bit 0 n ≡ d)

weigh_times : (f : Bool) (w : ℕ) → weigh f w ≡ w * (1 if f else 0)
unfolding weigh
weigh_times true w = omega arith
weigh_times false w = omega arith

four_binary : (a b c d : Bool) → four a b c d ≡ binary (d ∷ c ∷ b ∷ a ∷ [])
unfolding binary
four_binary a b c d = omega (arith, weigh_times a 8, weigh_times b 4, weigh_times c 2, weigh_times d 1)

pub four_bits : (a b c d : Bool) → Bits (four a b c d) a b c d
four_bits a b c d =
    let l = d ∷ c ∷ b ∷ a ∷ [] in
    rw (four_binary a b c d) (binary_bit l 3, binary_bit l 2, binary_bit l 1, binary_bit l 0)

weigh_most : (f : Bool) (w : ℕ) → weigh f w ≤ w
unfolding weigh
weigh_most true w = omega arith
weigh_most false w = omega arith

four_most : (a b c d : Bool) → four a b c d < 16
four_most a b c d = omega (arith, weigh_most a 8, weigh_most b 4, weigh_most c 2, weigh_most d 1)

module _ (m : Module) where
  -- a flag, as the mask lets it through
  abbrev kept : ℕ → Bool → Bool
  kept c f = without c f m.mask

  pub ris_most : ris m < 16
  unfolding ris
  ris_most = four_most m.relint (waits m.count) m.rklint m.rsint

  pub mis_most : mis m < 16
  unfolding mis
  mis_most = four_most (kept 3 m.relint) (kept 2 (waits m.count)) (kept 1 m.rklint) (kept 0 m.rsint)

  pub ris_bits_lem : Bits (ris m) m.relint (waits m.count) m.rklint m.rsint
  unfolding ris
  ris_bits_lem = four_bits m.relint (waits m.count) m.rklint m.rsint

  mis_shows : Bits (mis m) (kept 3 m.relint) (kept 2 (waits m.count)) (kept 1 m.rklint) (kept 0 m.rsint)
  unfolding mis
  mis_shows = four_bits (kept 3 m.relint) (kept 2 (waits m.count)) (kept 1 m.rklint) (kept 0 m.rsint)

  pub mis_bits_lem : (c : ℕ) → c < 4 → bit c (mis m) ≡ without c (bit c (ris m)) m.mask
  mis_bits_lem zero h = mis_shows.3 ∙ ap (kept 0) (sym ris_bits_lem.3)
  mis_bits_lem (suc zero) h = mis_shows.2 ∙ ap (kept 1) (sym ris_bits_lem.2)
  mis_bits_lem (suc (suc zero)) h = mis_shows.1 ∙ ap (kept 2) (sym ris_bits_lem.1)
  mis_bits_lem (suc (suc (suc zero))) h = mis_shows.0 ∙ ap (kept 3) (sym ris_bits_lem.0)
  mis_bits_lem (suc (suc (suc (suc c)))) h = absurd (omega arith)

  pub line_porirq : m.porirq ≡ true → line m ≡ true
  unfolding line
  line_porirq e = rw e

  module _ (clear : m.porirq ≡ false) where
    pub line_mis : not (eqb (mis m) 0) ≡ true → line m ≡ true
    unfolding line
    line_mis e = λ i. clear i || (e i || raised m)

    pub line_pins : not (eqb (mis m) 0) ≡ false → line m ≡ raised m
    unfolding line
    line_pins e = λ i. clear i || (e i || raised m)

  pub line_irqst : line m ≡ not (eqb (irqst m) 0)
  unfolding line irqst weigh
  line_irqst = some_flag m.porirq (not (eqb (mis m) 0)) (raised m)
