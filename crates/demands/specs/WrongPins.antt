-- WRONG MACHINES with spare pins: ours, with one thing wrong in each. None meets the demands: proofs/RefutedPins.antt.
--
--    keypad_edge     a pin that the keypad uses makes an edge
--    first_edge      the first sample after reset makes an edge
--    raw_line        the line follows pending edges, enabled or not
--    size_clears     a size write clears the pending edges
--    size_forgets    a size write forgets the pins' registers
--    declined_sample a declined sample is one all the same
--    used_drives     a pin that the keypad uses is driven
use Rattle.std.specs.Prelude.{ℕ, Bool, true, false, not, ◌||◌, List, replicate, eqb}
use Rattle.words.specs.Words.{◌if◌, ◌else◌}
use Rattle.pins.specs.Rules.{some_pin}
use Rattle.pins.specs.Pins as pins
use Rattle.state.specs.declared.Module.{Module}
use Rattle.state.specs.Module.{with_pins}
use Rattle.access.specs.Accesses.{wrote, read_all, bytes_read}
use Rattle.flags.specs.Flags.{mis, line}
use Rattle.scan.specs.Scan.{looked}
use Rattle.calls.specs.Calls.{interrupt_number, sampling}
use Rattle.demands.specs.Machine as machine
use Rattle.demands.specs.Machine.{Call, Gives, Machine, covers}
use Rattle.demands.specs.Pins.{Driven, Pinned}
use Rattle.demands.specs.Ours.{ours, called}
use Rattle.demands.specs.Wrong.{built, doing, writing}

-- ours, but that done pin samples do this, and that this is the line
abbrev pub pinning : (Module → ℕ → Module) → (Module → Bool) → Machine
pinning f g = built (record { look = looked; write = wrote; read = read_all; bytes = bytes_read; line = g; pins = f })

-- as if no pin were used
unfoldable pub all_plain : Module → ℕ → Module
all_plain m x = with_pins m (pins.sampled m.pins 0x00 x)

abbrev pub keypad_edge : Machine
keypad_edge = pinning all_plain line

-- as if there had been a sample
unfoldable pub sampled_before : Module → ℕ → Module
sampled_before m x = let p = m.pins in with_pins m (pins.sampled (pins.pins p.kept p.edge p.level true) m.size x)

abbrev pub first_edge : Machine
first_edge = pinning sampled_before line

unfoldable pub line_by_raw : Module → Bool
line_by_raw m = m.porirq || (not (eqb (mis m) 0) || some_pin (pins.pending m.pins))

abbrev pub raw_line : Machine
raw_line = pinning sampling line_by_raw

unfoldable pub edges_cleared : Module → ℕ → List ℕ → Module
edges_cleared m a bs =
    let n = wrote m a bs in
    let p = n.pins in
    with_pins n (pins.pins p.kept (replicate 19 false) p.level p.sampled) if covers a bs else n

abbrev pub size_clears : Machine
size_clears = writing edges_cleared

unfoldable pub pins_forgotten : Module → ℕ → List ℕ → Module
pins_forgotten m a bs = with_pins (wrote m a bs) pins.fresh if covers a bs else wrote m a bs

abbrev pub size_forgets : Machine
size_forgets = writing pins_forgotten

-- a declined call alters the module
unfoldable pub any_sample : Module → Call → Gives Module
any_sample m (machine.pins x) =
    let g = called m (machine.pins x) in
    record { number = g.number; next = sampling m x; buffer = g.buffer; answer = g.answer }
any_sample m machine.reset = called m machine.reset
any_sample m (machine.look s) = called m (machine.look s)
any_sample m (machine.write a bs) = called m (machine.write a bs)
any_sample m (machine.read a out) = called m (machine.read a out)
any_sample m (machine.held row col) = called m (machine.held row col)
any_sample m machine.interrupt = called m machine.interrupt

abbrev pub declined_sample : Machine
declined_sample = doing any_sample

unfoldable pub driven_anyway : Module → Driven Module
driven_anyway m = record { number = interrupt_number m; next = m; driven = pins.driven m.pins 0x00; level = pins.levels m.pins 0x00 }

abbrev pub used_drives : Pinned
used_drives = record { calls = ours; drives = driven_anyway }
