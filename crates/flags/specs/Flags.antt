-- The keypad flags, the interrupt line and the IRQ status register. Nothing of this is stored but the four flags.
--
--    weigh f w    w if the flag f is set, else 0
--    ris m        what KBDRIS reads; ris_of of its parts
--    mis m        what KBDMIS reads; mis_of of its parts
--    raised m     an enabled edge of a pin is pending
--    line m       the interrupt line is asserted
--    irqst m      what IRQST reads; irqst_of of its parts
use Rattle.std.specs.Prelude.{ℕ, ◌+◌, Bool, not, ◌||◌, eqb}
use Rattle.words.specs.Words.{◌if◌, ◌else◌, without}
use Rattle.pins.specs.Pins as pins
use Rattle.state.specs.declared.Module.{Module}
use Rattle.state.specs.Queue.{waits}

unfoldable pub weigh : Bool → ℕ → ℕ
weigh f w = w if f else 0

-- "bit 3 RELINT, 2 REVTINT, 1 RKLINT, 0 RSINT; the rest 0"; "REVTINT is 1 exactly while a code waits"
abbrev pub ris_of : Bool → ℕ → Bool → Bool → ℕ
ris_of relint count rklint rsint = weigh relint 8 + weigh (waits count) 4 + weigh rklint 2 + weigh rsint 1

unfoldable pub ris : Module → ℕ
ris m = ris_of m.relint m.count m.rklint m.rsint

-- "KBDRIS with the bits set in KBDMSK made 0"
abbrev pub mis_of : Bool → ℕ → Bool → Bool → ℕ → ℕ
mis_of relint count rklint rsint mask =
    weigh (without 3 relint mask) 8
    + weigh (without 2 (waits count) mask) 4
    + weigh (without 1 rklint mask) 2
    + weigh (without 0 rsint mask) 1

unfoldable pub mis : Module → ℕ
mis m = mis_of m.relint m.count m.rklint m.rsint m.mask

abbrev pub raised : Module → Bool
raised m = pins.raised m.pins.kept m.pins.edge

-- "The interrupt line is asserted exactly when PORIRQ is set or KBDMIS isn't 0."
-- Document 02, E6: "The interrupt line now also follows enabled pin edges"
unfoldable pub line : Module → Bool
line m = m.porirq || (not (eqb (mis m) 0) || raised m)

-- "7 PORIRQ, 6 KBDIRQ, 0 GPIOIRQ"; the rest 0
abbrev pub irqst_of : Bool → ℕ → Bool → ℕ
irqst_of porirq mis raised = weigh porirq 128 + weigh (not (eqb mis 0)) 64 + weigh raised 1

unfoldable pub irqst : Module → ℕ
irqst m = irqst_of m.porirq (mis m) (raised m)
