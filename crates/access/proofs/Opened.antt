-- EVERY DEFINITION of the crate and of the crates below, opened by one name: a proof by computing says `unfolding opened`.
use mathlib.Core.Bool.{Bool, true}
use Rattle.registers.proofs.Opened as registers
use Rattle.flags.proofs.Opened as flags
use Rattle.picture.proofs.Opened as picture
use Rattle.access.specs.Accesses.{wrote, read_all, bytes_read}
use Rattle.access.specs.Bytes.{written, byte_of, read_out}
use Rattle.access.specs.Pins.{pin_byte, along, items, kept_run}

unfoldable pub opened : Bool
unfolding registers.opened flags.opened picture.opened
    wrote read_all bytes_read
    written byte_of read_out
    pin_byte along items kept_run
opened = true
