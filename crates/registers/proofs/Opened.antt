-- EVERY DEFINITION of the crate and of the crates below, opened by one name: a proof by computing says `unfolding opened`.
use mathlib.Core.Bool.{Bool, true}
use Rattle.words.proofs.Opened as words
use Rattle.pins.specs.Rules as pins
use Rattle.registers.specs.Registers.{pin_reads, pin_writes, register_at, allowed, after_reset, address, ◌is◌, pictured, ◌is_pin◌}
use Rattle.registers.specs.Runs.{next, addresses, run_allowed}

unfoldable pub opened : Bool
unfolding words.opened pins.after_reset
    pin_reads pin_writes register_at allowed after_reset address ◌is◌ pictured ◌is_pin◌
    next addresses run_allowed
opened = true
