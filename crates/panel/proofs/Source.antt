-- THE EXPORTED FUNCTIONS ARE THE SOURCE: what the toolchain makes of the contracts in src/lib.rt is what specs/Lent.antt says, and for reset and what carries a session
-- what the calls by value give.
--
--    look_source, looks_source, write_source, read_source, held_source, interrupt_source, pins_source, drive_source, reset_source
--    wire_ahead_source, wire_listens_source, wire_takes_source, wire_gives_source, wire_ends_source, wire_drops_source
--    pack_source, add_source, unpack_source
--
-- `clauses` is the toolchain's own reading of a function's `ensures` and `requires` lines, and the function is proved to meet it. a are the arguments, x is the result,
-- e what was lent, at exit; `fact` makes an assertion of a proposition. Where neither module nor wire is lent, Post is a proposition itself.
-- Assumes nothing.
use mathlib.Core.Path.{◌≡◌, refl}
use seplogic.Ra.Ura.{Ura}
use base.Logic.{SProp}
use prog.Memory.{Memory}
use prog.Routine.{Routine}
use types.Logic.{Logic}
use contract.Monad.{Fun, fact}
use contract.Lifetimes.{Lfts}
use lib.ListN.{length}
use denote.Triple.Entry.{Res, Args}
use denote.Triple.Clauses.{AtExit}
use borrow.Fn.Kinds.{Dens, ended_of}
use Rattle.calls.specs.declared.Done.{Done}
use Rattle.calls.specs.Calls.{reset_call}
use Rattle.carry.specs.declared.reader.Record.{Record}
use Rattle.carry.specs.Calls.{call_at}
use Rattle.carry.specs.Writer.{pack_call, pack_buffer, add_call, add_buffer}
use Rattle.carry.specs.Reader.{record_at}
use Rattle.wire.specs.Wire.{begin_read, begin_write, take_byte, next_byte, stop, drop_open}
use Rattle.panel.specs.Lent.{LookLent, LooksLent, WriteLent, ReadLent, HeldLent, InterruptLent, PinsLent, DriveLent, BegunLent, KeptLent, HandedLent, EndedLent}
use Rattle.panel.specs.declared.Written.{Written}
use Rattle.panel.specs.Written.{of_packed, of_added}
use Rattle.panel.proofs.panel_reset_value.Kinds as reset-kinds
use Rattle.panel.proofs.panel_reset_value.Reads as resets
use Rattle.panel.proofs.panel_pack_numbers.Kinds as pack-kinds
use Rattle.panel.proofs.panel_pack_numbers.Reads as packs
use Rattle.panel.proofs.panel_add_numbers.Kinds as add-kinds
use Rattle.panel.proofs.panel_add_numbers.Reads as adds
use Rattle.panel.proofs.panel_unpack_value.Kinds as unpack-kinds
use Rattle.panel.proofs.panel_unpack_value.Reads as unpacks
use Rattle.panel.specs.contracts.panel_look as looks
use Rattle.panel.specs.contracts.panel_looks as blocks
use Rattle.panel.specs.contracts.panel_write as writes
use Rattle.panel.specs.contracts.panel_read as reads
use Rattle.panel.specs.contracts.panel_held as helds
use Rattle.panel.specs.contracts.panel_interrupt as lines
use Rattle.panel.specs.contracts.panel_pins as samples
use Rattle.panel.specs.contracts.panel_drive as drives
use Rattle.panel.specs.contracts.panel_wire_ahead as wire-ahead
use Rattle.panel.specs.contracts.panel_wire_listens as wire-listens
use Rattle.panel.specs.contracts.panel_wire_takes as wire-takes
use Rattle.panel.specs.contracts.panel_wire_gives as wire-gives
use Rattle.panel.specs.contracts.panel_wire_ends as wire-ends
use Rattle.panel.specs.contracts.panel_wire_drops as wire-drops

module _ {M : Type 1} {𝓤 : Ura M} (𝓛 : Logic 𝓤) (at_mem : Memory → SProp 𝓤) (run : Routine → Fun 𝓤) where
  pub look_source : (κs : Lfts 2) (a : Args looks.signature κs) (x : Res looks.signature κs) (e : AtExit looks.ended κs)
      → (looks.clauses 𝓛 at_mem run κs a).ensures tt x e ≡ fact 𝓤 (LookLent a.0.now a.1.0.now x e.0.now)
  look_source κs a x e = refl

  pub looks_source : (κs : Lfts 3) (a : Args blocks.signature κs) (x : Res blocks.signature κs) (e : AtExit blocks.ended κs)
      → (blocks.clauses 𝓛 at_mem run κs a).ensures tt x e ≡ fact 𝓤 (LooksLent a.0.now a.1.0.now x e.0.now e.1.1.0.now)
  looks_source κs a x e = refl

  pub write_source : (κs : Lfts 2) (a : Args writes.signature κs) (x : Res writes.signature κs) (e : AtExit writes.ended κs)
      → (writes.clauses 𝓛 at_mem run κs a).ensures tt x e ≡ fact 𝓤 (WriteLent a.0.now a.1.0 a.1.1.0.now x e.0.now)
  write_source κs a x e = refl

  pub read_source : (κs : Lfts 2) (a : Args reads.signature κs) (x : Res reads.signature κs) (e : AtExit reads.ended κs)
      → (reads.clauses 𝓛 at_mem run κs a).ensures tt x e ≡ fact 𝓤 (ReadLent a.0.now a.1.0 a.1.1.0.now x e.0.now e.1.1.0.now)
  read_source κs a x e = refl

  pub held_source : (κs : Lfts 2) (a : Args helds.signature κs) (x : Res helds.signature κs) (e : AtExit helds.ended κs)
      → (helds.clauses 𝓛 at_mem run κs a).ensures tt x e ≡ fact 𝓤 (HeldLent a.0.now a.1.0.0 a.1.1.0.0 x e.1.1.1.0.now)
  held_source κs a x e = refl

  pub interrupt_source : (κs : Lfts 2) (a : Args lines.signature κs) (x : Res lines.signature κs) (e : AtExit lines.ended κs)
      → (lines.clauses 𝓛 at_mem run κs a).ensures tt x e ≡ fact 𝓤 (InterruptLent a.0.now x e.1.0.now)
  interrupt_source κs a x e = refl

  pub pins_source : (κs : Lfts 1) (a : Args samples.signature κs) (x : Res samples.signature κs) (e : AtExit samples.ended κs)
      → (samples.clauses 𝓛 at_mem run κs a).ensures tt x e ≡ fact 𝓤 (PinsLent a.0.now a.1.0 x e.0.now)
  pins_source κs a x e = refl

  pub drive_source : (κs : Lfts 3) (a : Args drives.signature κs) (x : Res drives.signature κs) (e : AtExit drives.ended κs)
      → (drives.clauses 𝓛 at_mem run κs a).ensures tt x e ≡ fact 𝓤 (DriveLent a.0.now x e.1.0.now e.1.1.0.now)
  drive_source κs a x e = refl

  pub wire_ahead_source : (κs : Lfts 2) (a : Args wire-ahead.signature κs) (x : Res wire-ahead.signature κs) (e : AtExit wire-ahead.ended κs)
      → (wire-ahead.clauses 𝓛 at_mem run κs a).ensures tt x e ≡ fact 𝓤 (BegunLent (begin_read a.0.now a.1.0.now) x e.1.0.now)
  wire_ahead_source κs a x e = refl

  pub wire_listens_source : (κs : Lfts 2) (a : Args wire-listens.signature κs) (x : Res wire-listens.signature κs) (e : AtExit wire-listens.ended κs)
      → (wire-listens.clauses 𝓛 at_mem run κs a).ensures tt x e ≡ fact 𝓤 (BegunLent (begin_write a.0.now a.1.0.now) x e.1.0.now)
  wire_listens_source κs a x e = refl

  pub wire_takes_source : (κs : Lfts 1) (a : Args wire-takes.signature κs) (x : Res wire-takes.signature κs) (e : AtExit wire-takes.ended κs)
      → (wire-takes.clauses 𝓛 at_mem run κs a).ensures tt x e ≡ fact 𝓤 (KeptLent (take_byte a.0.now a.1.0) x e.0.now)
  wire_takes_source κs a x e = refl

  pub wire_gives_source : (κs : Lfts 1) (a : Args wire-gives.signature κs) (x : Res wire-gives.signature κs) (e : AtExit wire-gives.ended κs)
      → (wire-gives.clauses 𝓛 at_mem run κs a).ensures tt x e ≡ fact 𝓤 (HandedLent (next_byte a.0.now) x e.0.now)
  wire_gives_source κs a x e = refl

  pub wire_ends_source : (κs : Lfts 2) (a : Args wire-ends.signature κs) (x : Res wire-ends.signature κs) (e : AtExit wire-ends.ended κs)
      → (wire-ends.clauses 𝓛 at_mem run κs a).ensures tt x e ≡ fact 𝓤 (EndedLent (stop a.0.now a.1.0.now a.1.1.0) x e.1.0.now)
  wire_ends_source κs a x e = refl

  pub wire_drops_source : (κs : Lfts 1) (a : Args wire-drops.signature κs) (x : Res wire-drops.signature κs) (e : AtExit wire-drops.ended κs)
      → (wire-drops.clauses 𝓛 at_mem run κs a).ensures tt x e ≡ fact 𝓤 (KeptLent (drop_open a.0.now) x e.0.now)
  wire_drops_source κs a x e = refl

pub reset_source : (κs : Lfts 0) (a : Dens κs reset-kinds.ps) (x : Done) (e : AtExit (ended_of 0 reset-kinds.ps reset-kinds.r) κs) → resets.Post κs a x e → x ≡ reset_call
reset_source κs a x e p = p

pub pack_source : (κs : Lfts 2) (a : Dens κs pack-kinds.ps) (x : Written) (e : AtExit (ended_of 2 pack-kinds.ps pack-kinds.r) κs)
    → packs.Post κs a x e → (x ≡ of_packed (pack_call a.0.now (length a.1.0.now))) × (e.1.0.now ≡ pack_buffer a.0.now a.1.0.now)
pack_source κs a x e p = p

pub add_source : (κs : Lfts 2) (a : Dens κs add-kinds.ps) (x : Written) (e : AtExit (ended_of 2 add-kinds.ps add-kinds.r) κs)
    → adds.Post κs a x e
    → (x ≡ of_added (add_call (call_at a.0.now 0) (length a.1.0.now) a.1.1.0 a.1.1.1.0)) × (e.1.0.now ≡ add_buffer (call_at a.0.now 0) a.1.0.now a.1.1.0 a.1.1.1.0)
add_source κs a x e p = p

pub unpack_source : (κs : Lfts 1) (a : Dens κs unpack-kinds.ps) (x : Record) (e : AtExit (ended_of 1 unpack-kinds.ps unpack-kinds.r) κs)
    → unpacks.Post κs a x e → x ≡ record_at a.0.now a.1.0 a.1.1.0
unpack_source κs a x e p = p
