-- OURS IS THE SOURCE: what the contract of each of these seven functions in crates/calls/src/lib.rt allows is what the machine `ours` does, of `looks`
-- there what the blocks of `wide` are, and of `drive` what `pinned` answers; and of the functions in crates/carry/src/, what the carrier `ours` does.
-- Lent.antt says it of the calls over a module that is lent, of which these are thin forms.
--
--    reset_source, look_source, write_source, read_source, held_source, interrupt_source, pins_source
--    looks_source, drive_source
--    pack_source, add_source, check_source, record_source, play_source
--
-- Each Post is what the toolchain makes of a function's `ensures` lines, and the function is proved to meet it. x is the result,
-- a the arguments, e the parameters at exit.
-- Assumes nothing.
use Prim.Native.Nat.{ℕ}
use mathlib.Core.Path.{◌≡◌, ap}
use mathlib.Core.List.{[]}
use lib.ListN.{length}
use contract.Lifetimes.{Lfts}
use denote.Triple.Clauses.{AtExit}
use borrow.Fn.Kinds.{Dens, ended_of}
use Rattle.state.specs.declared.Module.{Module}
use Rattle.calls.specs.declared.Done.{Done}
use Rattle.calls.specs.declared.Answered.{Answered}
use Rattle.calls.proofs.reset.Kinds as reset-kinds
use Rattle.calls.proofs.reset.Reads as resets
use Rattle.calls.proofs.look.Kinds as look-kinds
use Rattle.calls.proofs.look.Reads as looks
use Rattle.calls.specs.declared.Block.{Block}
use Rattle.calls.proofs.looks.Kinds as looks-kinds
use Rattle.calls.proofs.looks.Reads as blocks
use Rattle.calls.proofs.write.Kinds as write-kinds
use Rattle.calls.proofs.write.Reads as writes
use Rattle.calls.proofs.read.Kinds as read-kinds
use Rattle.calls.proofs.read.Reads as reads
use Rattle.calls.proofs.held.Kinds as held-kinds
use Rattle.calls.proofs.held.Reads as helds
use Rattle.calls.proofs.interrupt.Kinds as interrupt-kinds
use Rattle.calls.proofs.interrupt.Reads as interrupts
use Rattle.calls.specs.declared.Driven.{Driven}
use Rattle.calls.proofs.pins.Kinds as pins-kinds
use Rattle.calls.proofs.pins.Reads as samples
use Rattle.calls.proofs.drive.Kinds as drive-kinds
use Rattle.calls.proofs.drive.Reads as drives
use Rattle.std.specs.Prelude.{Result}
use Rattle.numbers.specs.declared.Refusal.{Refusal}
use Rattle.numbers.specs.Refusals.{told}
use Rattle.carry.specs.declared.call.Place.{Place}
use Rattle.carry.specs.declared.reader.Record.{Record}
use Rattle.carry.specs.Writer.{as_packed, as_added, add_call, add_buffer}
use Rattle.carry.specs.Statements as carry
use Rattle.carry.proofs.writer.pack.Kinds as pack-kinds
use Rattle.carry.proofs.writer.pack.Reads as packs
use Rattle.carry.proofs.writer.add.Kinds as add-kinds
use Rattle.carry.proofs.writer.add.Reads as adds
use Rattle.carry.proofs.reader.check.Kinds as check-kinds
use Rattle.carry.proofs.reader.check.Reads as checks
use Rattle.carry.proofs.reader.record_at.Kinds as record-kinds
use Rattle.carry.proofs.reader.record_at.Reads as records
use Rattle.carry.proofs.player.play.Kinds as play-kinds
use Rattle.carry.proofs.player.play.Reads as plays
use Rattle.demands.specs.Machine.{reset, look, write, read, held, interrupt, pins}
use Rattle.demands.specs.Ours.{changing, asking, called, blocking, wide, driving, pinned}

pub reset_source : (κs : Lfts 0) (a : Dens κs reset-kinds.ps) (x : Done) (e : AtExit (ended_of 0 reset-kinds.ps reset-kinds.r) κs)
    → resets.Post κs a x e → (m : Module) → changing x [] ≡ called m reset
unfolding called
reset_source κs a x e p m = ap (λ (d : Done). changing d []) p

pub look_source : (κs : Lfts 1) (a : Dens κs look-kinds.ps) (x : Done) (e : AtExit (ended_of 1 look-kinds.ps look-kinds.r) κs)
    → looks.Post κs a x e → changing x [] ≡ called a.0 (look a.1.0.now)
unfolding called
look_source κs a x e p = ap (λ (d : Done). changing d []) p

pub write_source : (κs : Lfts 1) (a : Dens κs write-kinds.ps) (x : Done) (e : AtExit (ended_of 1 write-kinds.ps write-kinds.r) κs)
    → writes.Post κs a x e → changing x [] ≡ called a.0 (write a.1.0 a.1.1.0.now)
unfolding called
write_source κs a x e p = ap (λ (d : Done). changing d []) p

pub read_source : (κs : Lfts 1) (a : Dens κs read-kinds.ps) (x : Done) (e : AtExit (ended_of 1 read-kinds.ps read-kinds.r) κs)
    → reads.Post κs a x e → changing x e.1.1.0.now ≡ called a.0 (read a.1.0 a.1.1.0.now)
unfolding called
read_source κs a x e p = λ i. changing (p.0 i) (p.1 i)

pub held_source : (κs : Lfts 0) (a : Dens κs held-kinds.ps) (x : Answered) (e : AtExit (ended_of 0 held-kinds.ps held-kinds.r) κs)
    → helds.Post κs a x e → asking x ≡ called a.0 (held a.1.0.0 a.1.1.0.0)
unfolding called
held_source κs a x e p = ap asking p

pub interrupt_source : (κs : Lfts 0) (a : Dens κs interrupt-kinds.ps) (x : Answered) (e : AtExit (ended_of 0 interrupt-kinds.ps interrupt-kinds.r) κs)
    → interrupts.Post κs a x e → asking x ≡ called a.0 interrupt
unfolding called
interrupt_source κs a x e p = ap asking p

pub pins_source : (κs : Lfts 0) (a : Dens κs pins-kinds.ps) (x : Done) (e : AtExit (ended_of 0 pins-kinds.ps pins-kinds.r) κs)
    → samples.Post κs a x e → changing x [] ≡ called a.0 (pins a.1.0)
unfolding called
pins_source κs a x e p = ap (λ (d : Done). changing d []) p

-- ---- blocks of looks

pub looks_source : (κs : Lfts 1) (a : Dens κs looks-kinds.ps) (x : Block) (e : AtExit (ended_of 1 looks-kinds.ps looks-kinds.r) κs)
    → blocks.Post κs a x e → blocking x ≡ wide.looks a.0 a.1.0.now
looks_source κs a x e p = ap blocking p

-- ---- what is driven

pub drive_source : (κs : Lfts 0) (a : Dens κs drive-kinds.ps) (x : Driven) (e : AtExit (ended_of 0 drive-kinds.ps drive-kinds.r) κs)
    → drives.Post κs a x e → driving x ≡ pinned.drives a.0
drive_source κs a x e p = ap driving p

-- ---- packed lists

pub pack_source : (κs : Lfts 2) (a : Dens κs pack-kinds.ps) (x : Result ℕ Refusal) (e : AtExit (ended_of 2 pack-kinds.ps pack-kinds.r) κs)
    → packs.Post κs a x e → (as_packed x ≡ (carry.ours).packs a.0.now a.1.0.now) × (e.1.0.now ≡ (carry.ours).leaves a.0.now a.1.0.now)
pack_source κs a x e p = p

pub add_source : (κs : Lfts 1) (a : Dens κs add-kinds.ps) (x : Result Place Refusal) (e : AtExit (ended_of 1 add-kinds.ps add-kinds.r) κs)
    → adds.Post κs a x e
    → (as_added a.1.1.0 x ≡ add_call a.0 (length a.1.0.now) a.1.1.0.byte a.1.1.0.bit) × (e.1.0.now ≡ add_buffer a.0 a.1.0.now a.1.1.0.byte a.1.1.0.bit)
add_source κs a x e p = p

pub check_source : (κs : Lfts 1) (a : Dens κs check-kinds.ps) (x : Result Unit Refusal) (e : AtExit (ended_of 1 check-kinds.ps check-kinds.r) κs)
    → checks.Post κs a x e → told x ≡ (carry.ours).checks a.0.now
check_source κs a x e p = p

pub record_source : (κs : Lfts 1) (a : Dens κs record-kinds.ps) (x : Record) (e : AtExit (ended_of 1 record-kinds.ps record-kinds.r) κs)
    → records.Post κs a x e → x ≡ (carry.ours).finds a.0.now a.1.0 a.1.1.0
record_source κs a x e p = p

pub play_source : (κs : Lfts 1) (a : Dens κs play-kinds.ps) (x : Done) (e : AtExit (ended_of 1 play-kinds.ps play-kinds.r) κs)
    → plays.Post κs a x e → x ≡ (carry.ours).plays a.0.now
play_source κs a x e p = p
