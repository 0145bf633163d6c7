-- TOTAL: the eight calls, blocks of looks, and the five of packed lists, take every value. Each Pre is what the toolchain makes of a function's `requires` lines in crates/calls/src/ and
-- crates/carry/src/: there are none, and it holds of all arguments.
--
--    reset_total, look_total, write_total, read_total, held_total, interrupt_total, pins_total, drive_total
--    looks_total
--    pack_total, add_total, check_total, record_total, play_total
-- Assumes nothing.
use contract.Lifetimes.{Lfts}
use borrow.Fn.Kinds.{Dens}
use Rattle.calls.proofs.reset.Kinds as reset-kinds
use Rattle.calls.proofs.reset.Reads as resets
use Rattle.calls.proofs.look.Kinds as look-kinds
use Rattle.calls.proofs.look.Reads as looks
use Rattle.calls.proofs.looks.Kinds as looks-kinds
use Rattle.calls.proofs.looks.Reads as blocks
use Rattle.calls.proofs.write.Kinds as write-kinds
use Rattle.calls.proofs.write.Reads as writes
use Rattle.calls.proofs.read.Kinds as read-kinds
use Rattle.calls.proofs.read.Reads as reads
use Rattle.calls.proofs.held.Kinds as held-kinds
use Rattle.calls.proofs.held.Reads as helds
use Rattle.calls.proofs.interrupt.Kinds as interrupt-kinds
use Rattle.calls.proofs.interrupt.Reads as interrupts
use Rattle.calls.proofs.pins.Kinds as pins-kinds
use Rattle.calls.proofs.pins.Reads as samples
use Rattle.calls.proofs.drive.Kinds as drive-kinds
use Rattle.calls.proofs.drive.Reads as drives
use Rattle.carry.proofs.writer.pack.Kinds as pack-kinds
use Rattle.carry.proofs.writer.pack.Reads as packs
use Rattle.carry.proofs.writer.add.Kinds as add-kinds
use Rattle.carry.proofs.writer.add.Reads as adds
use Rattle.carry.proofs.reader.check.Kinds as check-kinds
use Rattle.carry.proofs.reader.check.Reads as checks
use Rattle.carry.proofs.reader.record_at.Kinds as record-kinds
use Rattle.carry.proofs.reader.record_at.Reads as records
use Rattle.carry.proofs.player.play.Kinds as play-kinds
use Rattle.carry.proofs.player.play.Reads as plays

-- "1. The module takes every call, with every value"
pub reset_total : (κs : Lfts 0) (a : Dens κs reset-kinds.ps) → resets.Pre κs a
reset_total κs a = tt

pub look_total : (κs : Lfts 1) (a : Dens κs look-kinds.ps) → looks.Pre κs a
look_total κs a = tt

pub write_total : (κs : Lfts 1) (a : Dens κs write-kinds.ps) → writes.Pre κs a
write_total κs a = tt

pub read_total : (κs : Lfts 1) (a : Dens κs read-kinds.ps) → reads.Pre κs a
read_total κs a = tt

pub held_total : (κs : Lfts 0) (a : Dens κs held-kinds.ps) → helds.Pre κs a
held_total κs a = tt

pub interrupt_total : (κs : Lfts 0) (a : Dens κs interrupt-kinds.ps) → interrupts.Pre κs a
interrupt_total κs a = tt

pub pins_total : (κs : Lfts 0) (a : Dens κs pins-kinds.ps) → samples.Pre κs a
pins_total κs a = tt

pub drive_total : (κs : Lfts 0) (a : Dens κs drive-kinds.ps) → drives.Pre κs a
drive_total κs a = tt

-- blocks of looks
pub looks_total : (κs : Lfts 1) (a : Dens κs looks-kinds.ps) → blocks.Pre κs a
looks_total κs a = tt

-- packed lists
pub pack_total : (κs : Lfts 2) (a : Dens κs pack-kinds.ps) → packs.Pre κs a
pack_total κs a = tt

pub add_total : (κs : Lfts 1) (a : Dens κs add-kinds.ps) → adds.Pre κs a
add_total κs a = tt

pub check_total : (κs : Lfts 1) (a : Dens κs check-kinds.ps) → checks.Pre κs a
check_total κs a = tt

pub record_total : (κs : Lfts 1) (a : Dens κs record-kinds.ps) → records.Pre κs a
record_total κs a = tt

pub play_total : (κs : Lfts 1) (a : Dens κs play-kinds.ps) → plays.Pre κs a
play_total κs a = tt
