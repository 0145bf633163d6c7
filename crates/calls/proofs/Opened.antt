-- EVERY DEFINITION of the crate and of the crates below, opened by one name: a proof by computing says `unfolding opened`.
use mathlib.Core.Bool.{Bool, true}
use Rattle.judge.proofs.Opened as judge
use Rattle.sound.proofs.Opened as sound
use Rattle.scan.proofs.Opened as scan
use Rattle.access.proofs.Opened as access
use Rattle.calls.specs.Calls.{look_lines, held_lines, look_number, access_number, write_number, read_number, held_number, interrupt_number, outcome, accessed, answer, reset_call, look_call, write_call, read_call, read_buffer, held_call, interrupt_call, pins_number, sampling, pins_call, drive_of, drive_call}
use Rattle.calls.specs.Blocks.{singles, block_lines, looks_call}

unfoldable pub opened : Bool
unfolding judge.opened sound.opened scan.opened access.opened
    look_lines held_lines look_number access_number write_number read_number held_number interrupt_number outcome accessed answer reset_call look_call write_call read_call read_buffer held_call interrupt_call pins_number sampling pins_call drive_of drive_call
    singles block_lines looks_call
opened = true
