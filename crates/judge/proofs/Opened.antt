-- EVERY DEFINITION of the crate and of the crates below, opened by one name: a proof by computing says `unfolding opened`.
use mathlib.Core.Bool.{Bool, true}
use Rattle.numbers.proofs.Opened as numbers
use Rattle.keys.proofs.Opened as keys
use Rattle.registers.proofs.Opened as registers
use Rattle.judge.specs.Lines.{high, sample_lines, access_lines, byte_fits, sizes_fit, read_lines, write_lines, key_lines, pin_lines}

unfoldable pub opened : Bool
unfolding numbers.opened keys.opened registers.opened
    high sample_lines access_lines byte_fits sizes_fit read_lines write_lines key_lines pin_lines
opened = true
