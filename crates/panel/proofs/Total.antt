-- TOTAL: the exported functions take every value. What the toolchain makes of a contract asks nothing of the arguments.
--
--    look_total, looks_total, write_total, read_total, held_total, interrupt_total, pins_total, drive_total, reset_total
--    wire_ahead_total, wire_listens_total, wire_takes_total, wire_gives_total, wire_ends_total, wire_drops_total
--    pack_total, add_total, unpack_total
-- Assumes nothing.
use mathlib.Core.Path.{◌≡◌, refl}
use seplogic.Ra.Ura.{Ura}
use base.Logic.{SProp}
use prog.Memory.{Memory}
use prog.Routine.{Routine}
use types.Logic.{Logic}
use contract.Monad.{Fun}
use contract.Lifetimes.{Lfts}
use contract.Notation.{connectives}
use denote.Triple.Entry.{Args}
use borrow.Fn.Kinds.{Dens}
use Rattle.panel.proofs.panel_reset_value.Kinds as reset-kinds
use Rattle.panel.proofs.panel_reset_value.Reads as resets
use Rattle.panel.proofs.panel_pack_numbers.Kinds as pack-kinds
use Rattle.panel.proofs.panel_pack_numbers.Reads as packs
use Rattle.panel.proofs.panel_add_numbers.Kinds as add-kinds
use Rattle.panel.proofs.panel_add_numbers.Reads as adds
use Rattle.panel.proofs.panel_unpack_value.Kinds as unpack-kinds
use Rattle.panel.proofs.panel_unpack_value.Reads as unpacks
use Rattle.panel.specs.contracts.panel_look as looks
use Rattle.panel.specs.contracts.panel_looks as blocks
use Rattle.panel.specs.contracts.panel_write as writes
use Rattle.panel.specs.contracts.panel_read as reads
use Rattle.panel.specs.contracts.panel_held as helds
use Rattle.panel.specs.contracts.panel_interrupt as lines
use Rattle.panel.specs.contracts.panel_pins as samples
use Rattle.panel.specs.contracts.panel_drive as drives
use Rattle.panel.specs.contracts.panel_wire_ahead as wire-ahead
use Rattle.panel.specs.contracts.panel_wire_listens as wire-listens
use Rattle.panel.specs.contracts.panel_wire_takes as wire-takes
use Rattle.panel.specs.contracts.panel_wire_gives as wire-gives
use Rattle.panel.specs.contracts.panel_wire_ends as wire-ends
use Rattle.panel.specs.contracts.panel_wire_drops as wire-drops

-- "1. The module takes every call, with every value"
module _ {M : Type 1} {𝓤 : Ura M} (𝓛 : Logic 𝓤) (at_mem : Memory → SProp 𝓤) (run : Routine → Fun 𝓤) where
  pub look_total : (κs : Lfts 2) (a : Args looks.signature κs) → (looks.clauses 𝓛 at_mem run κs a).requires tt ≡ (connectives 𝓤).⊤ₛ
  look_total κs a = refl

  pub looks_total : (κs : Lfts 3) (a : Args blocks.signature κs) → (blocks.clauses 𝓛 at_mem run κs a).requires tt ≡ (connectives 𝓤).⊤ₛ
  looks_total κs a = refl

  pub write_total : (κs : Lfts 2) (a : Args writes.signature κs) → (writes.clauses 𝓛 at_mem run κs a).requires tt ≡ (connectives 𝓤).⊤ₛ
  write_total κs a = refl

  pub read_total : (κs : Lfts 2) (a : Args reads.signature κs) → (reads.clauses 𝓛 at_mem run κs a).requires tt ≡ (connectives 𝓤).⊤ₛ
  read_total κs a = refl

  pub held_total : (κs : Lfts 2) (a : Args helds.signature κs) → (helds.clauses 𝓛 at_mem run κs a).requires tt ≡ (connectives 𝓤).⊤ₛ
  held_total κs a = refl

  pub interrupt_total : (κs : Lfts 2) (a : Args lines.signature κs) → (lines.clauses 𝓛 at_mem run κs a).requires tt ≡ (connectives 𝓤).⊤ₛ
  interrupt_total κs a = refl

  pub pins_total : (κs : Lfts 1) (a : Args samples.signature κs) → (samples.clauses 𝓛 at_mem run κs a).requires tt ≡ (connectives 𝓤).⊤ₛ
  pins_total κs a = refl

  pub drive_total : (κs : Lfts 3) (a : Args drives.signature κs) → (drives.clauses 𝓛 at_mem run κs a).requires tt ≡ (connectives 𝓤).⊤ₛ
  drive_total κs a = refl

  pub wire_ahead_total : (κs : Lfts 2) (a : Args wire-ahead.signature κs) → (wire-ahead.clauses 𝓛 at_mem run κs a).requires tt ≡ (connectives 𝓤).⊤ₛ
  wire_ahead_total κs a = refl

  pub wire_listens_total : (κs : Lfts 2) (a : Args wire-listens.signature κs) → (wire-listens.clauses 𝓛 at_mem run κs a).requires tt ≡ (connectives 𝓤).⊤ₛ
  wire_listens_total κs a = refl

  pub wire_takes_total : (κs : Lfts 1) (a : Args wire-takes.signature κs) → (wire-takes.clauses 𝓛 at_mem run κs a).requires tt ≡ (connectives 𝓤).⊤ₛ
  wire_takes_total κs a = refl

  pub wire_gives_total : (κs : Lfts 1) (a : Args wire-gives.signature κs) → (wire-gives.clauses 𝓛 at_mem run κs a).requires tt ≡ (connectives 𝓤).⊤ₛ
  wire_gives_total κs a = refl

  pub wire_ends_total : (κs : Lfts 2) (a : Args wire-ends.signature κs) → (wire-ends.clauses 𝓛 at_mem run κs a).requires tt ≡ (connectives 𝓤).⊤ₛ
  wire_ends_total κs a = refl

  pub wire_drops_total : (κs : Lfts 1) (a : Args wire-drops.signature κs) → (wire-drops.clauses 𝓛 at_mem run κs a).requires tt ≡ (connectives 𝓤).⊤ₛ
  wire_drops_total κs a = refl

pub reset_total : (κs : Lfts 0) (a : Dens κs reset-kinds.ps) → resets.Pre κs a
reset_total κs a = tt

pub pack_total : (κs : Lfts 2) (a : Dens κs pack-kinds.ps) → packs.Pre κs a
pack_total κs a = tt

pub add_total : (κs : Lfts 2) (a : Dens κs add-kinds.ps) → adds.Pre κs a
add_total κs a = tt

pub unpack_total : (κs : Lfts 1) (a : Dens κs unpack-kinds.ps) → unpacks.Pre κs a
unpack_total κs a = tt
