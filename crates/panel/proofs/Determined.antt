-- DETERMINED: two outcomes that the contract of an exported function allows for the same arguments are equal.
--
--    two_facts    what follows from two propositions follows from the assertions of both
--    look_determined, looks_determined, write_determined, read_determined, held_determined, interrupt_determined, pins_determined, drive_determined, reset_determined
--    wire_ahead_determined, wire_listens_determined, wire_takes_determined, wire_gives_determined, wire_ends_determined, wire_drops_determined
--    pack_determined, add_determined, unpack_determined
--
-- An outcome is the result, x or y, and what everything lent to be altered holds at exit, e or f. Each theorem is on the clauses that the toolchain makes of the source
-- (proofs/Source.antt says what they are), and reads: where the `ensures` of both outcomes holds, they are the same.
-- Assumes nothing.
use mathlib.Core.Path.{◌≡◌, sym, ◌∙◌}
use seplogic.Ra.Ura.{Ura}
use base.Logic.{SProp, ent, emp}
use prog.Memory.{Memory}
use prog.Routine.{Routine}
use types.Logic.{Logic}
use contract.Conj.{conj}
use contract.Fact.{fact, fact_i, guard-conj, conj-guard}
use contract.Monad.{Fun}
use contract.Lifetimes.{Lfts}
use denote.Triple.Entry.{Res, Args}
use denote.Triple.Clauses.{AtExit}
use borrow.Fn.Kinds.{Dens, ended_of}
use Rattle.calls.specs.declared.Done.{Done}
use Rattle.carry.specs.declared.reader.Record.{Record}
use Rattle.panel.specs.declared.Written.{Written}
use Rattle.panel.proofs.panel_reset_value.Kinds as reset-kinds
use Rattle.panel.proofs.panel_reset_value.Reads as resets
use Rattle.panel.proofs.panel_pack_numbers.Kinds as pack-kinds
use Rattle.panel.proofs.panel_pack_numbers.Reads as packs
use Rattle.panel.proofs.panel_add_numbers.Kinds as add-kinds
use Rattle.panel.proofs.panel_add_numbers.Reads as adds
use Rattle.panel.proofs.panel_unpack_value.Kinds as unpack-kinds
use Rattle.panel.proofs.panel_unpack_value.Reads as unpacks
use Rattle.panel.specs.contracts.panel_look as looks
use Rattle.panel.specs.contracts.panel_looks as blocks
use Rattle.panel.specs.contracts.panel_write as writes
use Rattle.panel.specs.contracts.panel_read as reads
use Rattle.panel.specs.contracts.panel_held as helds
use Rattle.panel.specs.contracts.panel_interrupt as lines
use Rattle.panel.specs.contracts.panel_pins as samples
use Rattle.panel.specs.contracts.panel_drive as drives
use Rattle.panel.specs.contracts.panel_wire_ahead as wire-ahead
use Rattle.panel.specs.contracts.panel_wire_listens as wire-listens
use Rattle.panel.specs.contracts.panel_wire_takes as wire-takes
use Rattle.panel.specs.contracts.panel_wire_gives as wire-gives
use Rattle.panel.specs.contracts.panel_wire_ends as wire-ends
use Rattle.panel.specs.contracts.panel_wire_drops as wire-drops

module _ {M : Type 1} (𝓤 : Ura M) where
  two_facts : (P Q R : Type 0) → (P → Q → R) → ent 𝓤 (conj 𝓤 (fact 𝓤 P) (fact 𝓤 Q)) (fact 𝓤 R)
  two_facts P Q R h = guard-conj 𝓤 P (emp 𝓤) (fact 𝓤 Q) (λ p. conj-guard 𝓤 Q (emp 𝓤) (emp 𝓤) (λ q. fact_i 𝓤 R (conj 𝓤 (emp 𝓤) (emp 𝓤)) (h p q)))

-- "Every public call's contract determines its number, its next state and each byte of the lent buffer, for all arguments
-- and for declined calls too. Prove that two outcomes allowed for one call are equal"
module _ {M : Type 1} {𝓤 : Ura M} (𝓛 : Logic 𝓤) (at_mem : Memory → SProp 𝓤) (run : Routine → Fun 𝓤) where
  pub look_determined : (κs : Lfts 2) (a : Args looks.signature κs) (x y : Res looks.signature κs) (e f : AtExit looks.ended κs)
      → ent 𝓤 (conj 𝓤 ((looks.clauses 𝓛 at_mem run κs a).ensures tt x e) ((looks.clauses 𝓛 at_mem run κs a).ensures tt y f))
      (fact 𝓤 ((x ≡ y) × (e.0.now ≡ f.0.now)))
  look_determined κs a x y e f = two_facts 𝓤 _ _ _ (λ p q. (p.0 ∙ sym q.0, p.1 ∙ sym q.1))

  pub looks_determined : (κs : Lfts 3) (a : Args blocks.signature κs) (x y : Res blocks.signature κs) (e f : AtExit blocks.ended κs)
      → ent 𝓤 (conj 𝓤 ((blocks.clauses 𝓛 at_mem run κs a).ensures tt x e) ((blocks.clauses 𝓛 at_mem run κs a).ensures tt y f))
      (fact 𝓤 ((x ≡ y) × (e.0.now ≡ f.0.now) × (e.1.1.0.now ≡ f.1.1.0.now)))
  looks_determined κs a x y e f = two_facts 𝓤 _ _ _ (λ p q. (p.0 ∙ sym q.0, p.1 ∙ sym q.1, p.2 ∙ sym q.2))

  pub write_determined : (κs : Lfts 2) (a : Args writes.signature κs) (x y : Res writes.signature κs) (e f : AtExit writes.ended κs)
      → ent 𝓤 (conj 𝓤 ((writes.clauses 𝓛 at_mem run κs a).ensures tt x e) ((writes.clauses 𝓛 at_mem run κs a).ensures tt y f))
      (fact 𝓤 ((x ≡ y) × (e.0.now ≡ f.0.now)))
  write_determined κs a x y e f = two_facts 𝓤 _ _ _ (λ p q. (p.0 ∙ sym q.0, p.1 ∙ sym q.1))

  pub read_determined : (κs : Lfts 2) (a : Args reads.signature κs) (x y : Res reads.signature κs) (e f : AtExit reads.ended κs)
      → ent 𝓤 (conj 𝓤 ((reads.clauses 𝓛 at_mem run κs a).ensures tt x e) ((reads.clauses 𝓛 at_mem run κs a).ensures tt y f))
      (fact 𝓤 ((x ≡ y) × (e.0.now ≡ f.0.now) × (e.1.1.0.now ≡ f.1.1.0.now)))
  read_determined κs a x y e f = two_facts 𝓤 _ _ _ (λ p q. (p.0 ∙ sym q.0, p.1 ∙ sym q.1, p.2 ∙ sym q.2))

  pub held_determined : (κs : Lfts 2) (a : Args helds.signature κs) (x y : Res helds.signature κs) (e f : AtExit helds.ended κs)
      → ent 𝓤 (conj 𝓤 ((helds.clauses 𝓛 at_mem run κs a).ensures tt x e) ((helds.clauses 𝓛 at_mem run κs a).ensures tt y f))
      (fact 𝓤 ((x ≡ y) × (e.1.1.1.0.now ≡ f.1.1.1.0.now)))
  held_determined κs a x y e f = two_facts 𝓤 _ _ _ (λ p q. (p.0 ∙ sym q.0, p.1 ∙ sym q.1))

  pub interrupt_determined : (κs : Lfts 2) (a : Args lines.signature κs) (x y : Res lines.signature κs) (e f : AtExit lines.ended κs)
      → ent 𝓤 (conj 𝓤 ((lines.clauses 𝓛 at_mem run κs a).ensures tt x e) ((lines.clauses 𝓛 at_mem run κs a).ensures tt y f))
      (fact 𝓤 ((x ≡ y) × (e.1.0.now ≡ f.1.0.now)))
  interrupt_determined κs a x y e f = two_facts 𝓤 _ _ _ (λ p q. (p.0 ∙ sym q.0, p.1 ∙ sym q.1))

  pub pins_determined : (κs : Lfts 1) (a : Args samples.signature κs) (x y : Res samples.signature κs) (e f : AtExit samples.ended κs)
      → ent 𝓤 (conj 𝓤 ((samples.clauses 𝓛 at_mem run κs a).ensures tt x e) ((samples.clauses 𝓛 at_mem run κs a).ensures tt y f))
      (fact 𝓤 ((x ≡ y) × (e.0.now ≡ f.0.now)))
  pins_determined κs a x y e f = two_facts 𝓤 _ _ _ (λ p q. (p.0 ∙ sym q.0, p.1 ∙ sym q.1))

  pub drive_determined : (κs : Lfts 3) (a : Args drives.signature κs) (x y : Res drives.signature κs) (e f : AtExit drives.ended κs)
      → ent 𝓤 (conj 𝓤 ((drives.clauses 𝓛 at_mem run κs a).ensures tt x e) ((drives.clauses 𝓛 at_mem run κs a).ensures tt y f))
      (fact 𝓤 ((x ≡ y) × (e.1.0.now ≡ f.1.0.now) × (e.1.1.0.now ≡ f.1.1.0.now)))
  drive_determined κs a x y e f = two_facts 𝓤 _ _ _ (λ p q. (p.0 ∙ sym q.0, p.1 ∙ sym q.1, p.2 ∙ sym q.2))

  pub wire_ahead_determined : (κs : Lfts 2) (a : Args wire-ahead.signature κs) (x y : Res wire-ahead.signature κs) (e f : AtExit wire-ahead.ended κs)
      → ent 𝓤 (conj 𝓤 ((wire-ahead.clauses 𝓛 at_mem run κs a).ensures tt x e) ((wire-ahead.clauses 𝓛 at_mem run κs a).ensures tt y f))
      (fact 𝓤 ((x ≡ y) × (e.1.0.now ≡ f.1.0.now)))
  wire_ahead_determined κs a x y e f = two_facts 𝓤 _ _ _ (λ p q. (p.0 ∙ sym q.0, p.1 ∙ sym q.1))

  pub wire_listens_determined : (κs : Lfts 2) (a : Args wire-listens.signature κs) (x y : Res wire-listens.signature κs) (e f : AtExit wire-listens.ended κs)
      → ent 𝓤 (conj 𝓤 ((wire-listens.clauses 𝓛 at_mem run κs a).ensures tt x e) ((wire-listens.clauses 𝓛 at_mem run κs a).ensures tt y f))
      (fact 𝓤 ((x ≡ y) × (e.1.0.now ≡ f.1.0.now)))
  wire_listens_determined κs a x y e f = two_facts 𝓤 _ _ _ (λ p q. (p.0 ∙ sym q.0, p.1 ∙ sym q.1))

  pub wire_takes_determined : (κs : Lfts 1) (a : Args wire-takes.signature κs) (x y : Res wire-takes.signature κs) (e f : AtExit wire-takes.ended κs)
      → ent 𝓤 (conj 𝓤 ((wire-takes.clauses 𝓛 at_mem run κs a).ensures tt x e) ((wire-takes.clauses 𝓛 at_mem run κs a).ensures tt y f))
      (fact 𝓤 ((x ≡ y) × (e.0.now ≡ f.0.now)))
  wire_takes_determined κs a x y e f = two_facts 𝓤 _ _ _ (λ p q. (p.0 ∙ sym q.0, p.1 ∙ sym q.1))

  pub wire_gives_determined : (κs : Lfts 1) (a : Args wire-gives.signature κs) (x y : Res wire-gives.signature κs) (e f : AtExit wire-gives.ended κs)
      → ent 𝓤 (conj 𝓤 ((wire-gives.clauses 𝓛 at_mem run κs a).ensures tt x e) ((wire-gives.clauses 𝓛 at_mem run κs a).ensures tt y f))
      (fact 𝓤 ((x ≡ y) × (e.0.now ≡ f.0.now)))
  wire_gives_determined κs a x y e f = two_facts 𝓤 _ _ _ (λ p q. (p.0 ∙ sym q.0, p.1 ∙ sym q.1))

  pub wire_ends_determined : (κs : Lfts 2) (a : Args wire-ends.signature κs) (x y : Res wire-ends.signature κs) (e f : AtExit wire-ends.ended κs)
      → ent 𝓤 (conj 𝓤 ((wire-ends.clauses 𝓛 at_mem run κs a).ensures tt x e) ((wire-ends.clauses 𝓛 at_mem run κs a).ensures tt y f))
      (fact 𝓤 ((x ≡ y) × (e.1.0.now ≡ f.1.0.now)))
  wire_ends_determined κs a x y e f = two_facts 𝓤 _ _ _ (λ p q. (p.0 ∙ sym q.0, p.1 ∙ sym q.1))

  pub wire_drops_determined : (κs : Lfts 1) (a : Args wire-drops.signature κs) (x y : Res wire-drops.signature κs) (e f : AtExit wire-drops.ended κs)
      → ent 𝓤 (conj 𝓤 ((wire-drops.clauses 𝓛 at_mem run κs a).ensures tt x e) ((wire-drops.clauses 𝓛 at_mem run κs a).ensures tt y f))
      (fact 𝓤 ((x ≡ y) × (e.0.now ≡ f.0.now)))
  wire_drops_determined κs a x y e f = two_facts 𝓤 _ _ _ (λ p q. (p.0 ∙ sym q.0, p.1 ∙ sym q.1))

pub reset_determined : (κs : Lfts 0) (a : Dens κs reset-kinds.ps) (x y : Done) (e f : AtExit (ended_of 0 reset-kinds.ps reset-kinds.r) κs) → resets.Post κs a x e → resets.Post κs a y f → x ≡ y
reset_determined κs a x y e f p q = p ∙ sym q

-- of what is lent to these, the buffer alone can be altered
pub pack_determined : (κs : Lfts 2) (a : Dens κs pack-kinds.ps) (x y : Written) (e f : AtExit (ended_of 2 pack-kinds.ps pack-kinds.r) κs)
    → packs.Post κs a x e → packs.Post κs a y f → (x ≡ y) × (e.1.0.now ≡ f.1.0.now)
pack_determined κs a x y e f p q = (p.0 ∙ sym q.0, p.1 ∙ sym q.1)

pub add_determined : (κs : Lfts 2) (a : Dens κs add-kinds.ps) (x y : Written) (e f : AtExit (ended_of 2 add-kinds.ps add-kinds.r) κs)
    → adds.Post κs a x e → adds.Post κs a y f → (x ≡ y) × (e.1.0.now ≡ f.1.0.now)
add_determined κs a x y e f p q = (p.0 ∙ sym q.0, p.1 ∙ sym q.1)

pub unpack_determined : (κs : Lfts 1) (a : Dens κs unpack-kinds.ps) (x y : Record) (e f : AtExit (ended_of 1 unpack-kinds.ps unpack-kinds.r) κs)
    → unpacks.Post κs a x e → unpacks.Post κs a y f → x ≡ y
unpack_determined κs a x y e f p q = p ∙ sym q
