-- THE LENT CALLS ARE THE SOURCE TOO: console, player and exported functions make the eight calls of crates/calls/src/lent.rt, over a module that is lent. What the contract
-- of each allows is what `ours` does, of `looks` what the blocks of `wide` are, and of `drive` what `pinned` answers. Two outcomes that a contract allows for the same
-- arguments are equal, and none asks anything of them.
--
--    one_answer         two answers are one, if they are told by one number and stand for the same value, a refusal for one that is fixed
--    lent_look_source, lent_looks_source, lent_write_source, lent_read_source, lent_held_source, lent_interrupt_source, lent_pins_source, lent_drive_source
--    lent_look_determined, lent_looks_determined, lent_write_determined, lent_read_determined, lent_held_determined, lent_interrupt_determined, lent_pins_determined,
--    lent_drive_determined
--    lent_look_total, lent_looks_total, lent_write_total, lent_read_total, lent_held_total, lent_interrupt_total, lent_pins_total, lent_drive_total
--
-- `clauses` is the toolchain's own reading of a function's `ensures` and `requires` lines, and the function is proved to meet it. a are the arguments, x is the result,
-- e what was lent, at exit; `fact` makes an assertion of a proposition.
-- Assumes nothing.
use mathlib.Core.Path.{◌≡◌, refl, sym, ap, ◌∙◌}
use mathlib.Core.List.{[]}
use seplogic.Ra.Ura.{Ura}
use base.Logic.{SProp, ent, emp}
use prog.Memory.{Memory}
use prog.Routine.{Routine}
use types.Logic.{Logic}
use contract.Conj.{conj}
use contract.Fact.{fact, fact_i, fact_mono, guard-conj, conj-guard}
use contract.Monad.{Fun}
use contract.Lifetimes.{Lfts}
use contract.Notation.{connectives}
use denote.Triple.Entry.{Res, Args}
use denote.Triple.Clauses.{AtExit}
use Rattle.std.specs.Prelude.{false, Result, Ok, Err}
use Rattle.std.specs.Result.{result_unwrap_or}
use Rattle.numbers.specs.declared.Refusal.{Refusal}
use Rattle.numbers.specs.Refusals.{told}
use Rattle.numbers.proofs.Laws.{refused, number_one, told_one}
use Rattle.calls.specs.contracts.lent.look as looks
use Rattle.calls.specs.contracts.lent.looks as blocks
use Rattle.calls.specs.contracts.lent.write as writes
use Rattle.calls.specs.contracts.lent.read as reads
use Rattle.calls.specs.contracts.lent.held as helds
use Rattle.calls.specs.contracts.lent.interrupt as lines
use Rattle.calls.specs.contracts.lent.pins as samples
use Rattle.calls.specs.contracts.lent.drive as drives
use Rattle.calls.specs.Lent.{undriven}
use Rattle.demands.specs.Machine.{look, write, read, held, interrupt, pins}
use Rattle.demands.specs.Ours.{changing, asking, called, blocking, wide, driving, pinned, as_done, as_answered, as_block, as_driven}

pub one_answer : {A : Type 0} (x y : Result A Refusal) (d : A) → told x ≡ told y → result_unwrap_or x d ≡ result_unwrap_or y d → x ≡ y
one_answer (Ok v) (Ok w) d e f = ap Ok f
one_answer (Ok v) (Err r) d e f = absurd (refused r (sym e))
one_answer (Err r) (Ok w) d e f = absurd (refused r e)
one_answer (Err r) (Err s) d e f = ap Err (number_one r s e)

module _ {M : Type 1} (𝓤 : Ura M) where
  -- what follows from two propositions follows from the assertions of both
  two_facts : (P Q R : Type 0) → (P → Q → R) → ent 𝓤 (conj 𝓤 (fact 𝓤 P) (fact 𝓤 Q)) (fact 𝓤 R)
  two_facts P Q R h = guard-conj 𝓤 P (emp 𝓤) (fact 𝓤 Q) (λ p. conj-guard 𝓤 Q (emp 𝓤) (emp 𝓤) (λ q. fact_i 𝓤 R (conj 𝓤 (emp 𝓤) (emp 𝓤)) (h p q)))

module _ {M : Type 1} {𝓤 : Ura M} (𝓛 : Logic 𝓤) (at_mem : Memory → SProp 𝓤) (run : Routine → Fun 𝓤) where
  -- what a contract allows is what our calls do
  pub lent_look_source : (κs : Lfts 2) (a : Args looks.signature κs) (x : Res looks.signature κs) (e : AtExit looks.ended κs)
      → ent 𝓤 ((looks.clauses 𝓛 at_mem run κs a).ensures tt x e) (fact 𝓤 (changing (as_done x e.0.now) [] ≡ called a.0.now (look a.1.0.now)))
  unfolding called
  lent_look_source κs a x e = fact_mono 𝓤 _ _ (λ p i. changing (record { after = p.1 i; number = p.0 i }) [])

  pub lent_looks_source : (κs : Lfts 2) (a : Args blocks.signature κs) (x : Res blocks.signature κs) (e : AtExit blocks.ended κs)
      → ent 𝓤 ((blocks.clauses 𝓛 at_mem run κs a).ensures tt x e) (fact 𝓤 (blocking (as_block x e.0.now) ≡ wide.looks a.0.now a.1.0.now))
  lent_looks_source κs a x e = fact_mono 𝓤 _ _ (λ p i. blocking (record { after = p.2 i; done = p.1 i; number = p.0 i }))

  pub lent_write_source : (κs : Lfts 2) (a : Args writes.signature κs) (x : Res writes.signature κs) (e : AtExit writes.ended κs)
      → ent 𝓤 ((writes.clauses 𝓛 at_mem run κs a).ensures tt x e) (fact 𝓤 (changing (as_done x e.0.now) [] ≡ called a.0.now (write a.1.0 a.1.1.0.now)))
  unfolding called
  lent_write_source κs a x e = fact_mono 𝓤 _ _ (λ p i. changing (record { after = p.1 i; number = p.0 i }) [])

  pub lent_read_source : (κs : Lfts 2) (a : Args reads.signature κs) (x : Res reads.signature κs) (e : AtExit reads.ended κs)
      → ent 𝓤 ((reads.clauses 𝓛 at_mem run κs a).ensures tt x e) (fact 𝓤 (changing (as_done x e.0.now) e.1.1.0.now ≡ called a.0.now (read a.1.0 a.1.1.0.now)))
  unfolding called
  lent_read_source κs a x e = fact_mono 𝓤 _ _ (λ p i. changing (record { after = p.0.1 i; number = p.0.0 i }) (p.1 i))

  pub lent_held_source : (κs : Lfts 1) (a : Args helds.signature κs) (x : Res helds.signature κs) (e : AtExit helds.ended κs)
      → ent 𝓤 ((helds.clauses 𝓛 at_mem run κs a).ensures tt x e) (fact 𝓤 (asking (as_answered x a.0.now) ≡ called a.0.now (held a.1.0.0 a.1.1.0.0)))
  unfolding called
  lent_held_source κs a x e = fact_mono 𝓤 _ _ (λ p i. asking (record { after = p.2 i; number = p.0 i; yes = p.1 i }))

  pub lent_interrupt_source : (κs : Lfts 1) (a : Args lines.signature κs) (x : Res lines.signature κs) (e : AtExit lines.ended κs)
      → ent 𝓤 ((lines.clauses 𝓛 at_mem run κs a).ensures tt x e) (fact 𝓤 (asking (as_answered x a.0.now) ≡ called a.0.now interrupt))
  unfolding called
  lent_interrupt_source κs a x e = fact_mono 𝓤 _ _ (λ p i. asking (record { after = p.2 i; number = p.0 i; yes = p.1 i }))

  pub lent_pins_source : (κs : Lfts 1) (a : Args samples.signature κs) (x : Res samples.signature κs) (e : AtExit samples.ended κs)
      → ent 𝓤 ((samples.clauses 𝓛 at_mem run κs a).ensures tt x e) (fact 𝓤 (changing (as_done x e.0.now) [] ≡ called a.0.now (pins a.1.0)))
  unfolding called
  lent_pins_source κs a x e = fact_mono 𝓤 _ _ (λ p i. changing (record { after = p.1 i; number = p.0 i }) [])

  pub lent_drive_source : (κs : Lfts 1) (a : Args drives.signature κs) (x : Res drives.signature κs) (e : AtExit drives.ended κs)
      → ent 𝓤 ((drives.clauses 𝓛 at_mem run κs a).ensures tt x e) (fact 𝓤 (driving (as_driven x a.0.now) ≡ pinned.drives a.0.now))
  lent_drive_source κs a x e = fact_mono 𝓤 _ _ (λ p i. driving (record { after = p.3 i; number = p.0 i; driven = p.1 i; level = p.2 i }))

  -- "Every public call's contract determines its number, its next state and each byte of the lent buffer, for all arguments
  -- and for declined calls too. Prove that two outcomes allowed for one call are equal"
  pub lent_look_determined : (κs : Lfts 2) (a : Args looks.signature κs) (x y : Res looks.signature κs) (e f : AtExit looks.ended κs)
      → ent 𝓤 (conj 𝓤 ((looks.clauses 𝓛 at_mem run κs a).ensures tt x e) ((looks.clauses 𝓛 at_mem run κs a).ensures tt y f))
      (fact 𝓤 ((x ≡ y) × (e.0.now ≡ f.0.now)))
  lent_look_determined κs a x y e f = two_facts 𝓤 _ _ _ (λ p q. (told_one x y (p.0 ∙ sym q.0), p.1 ∙ sym q.1))

  pub lent_looks_determined : (κs : Lfts 2) (a : Args blocks.signature κs) (x y : Res blocks.signature κs) (e f : AtExit blocks.ended κs)
      → ent 𝓤 (conj 𝓤 ((blocks.clauses 𝓛 at_mem run κs a).ensures tt x e) ((blocks.clauses 𝓛 at_mem run κs a).ensures tt y f))
      (fact 𝓤 ((x ≡ y) × (e.0.now ≡ f.0.now)))
  lent_looks_determined κs a x y e f = two_facts 𝓤 _ _ _ (λ p q. (λ i. record { done = (p.1 ∙ sym q.1) i; outcome = told_one x.outcome y.outcome (p.0 ∙ sym q.0) i }, p.2 ∙ sym q.2))

  pub lent_write_determined : (κs : Lfts 2) (a : Args writes.signature κs) (x y : Res writes.signature κs) (e f : AtExit writes.ended κs)
      → ent 𝓤 (conj 𝓤 ((writes.clauses 𝓛 at_mem run κs a).ensures tt x e) ((writes.clauses 𝓛 at_mem run κs a).ensures tt y f))
      (fact 𝓤 ((x ≡ y) × (e.0.now ≡ f.0.now)))
  lent_write_determined κs a x y e f = two_facts 𝓤 _ _ _ (λ p q. (told_one x y (p.0 ∙ sym q.0), p.1 ∙ sym q.1))

  pub lent_read_determined : (κs : Lfts 2) (a : Args reads.signature κs) (x y : Res reads.signature κs) (e f : AtExit reads.ended κs)
      → ent 𝓤 (conj 𝓤 ((reads.clauses 𝓛 at_mem run κs a).ensures tt x e) ((reads.clauses 𝓛 at_mem run κs a).ensures tt y f))
      (fact 𝓤 ((x ≡ y) × (e.0.now ≡ f.0.now) × (e.1.1.0.now ≡ f.1.1.0.now)))
  lent_read_determined κs a x y e f = two_facts 𝓤 _ _ _ (λ p q. (told_one x y (p.0.0 ∙ sym q.0.0), p.0.1 ∙ sym q.0.1, p.1 ∙ sym q.1))

  pub lent_held_determined : (κs : Lfts 1) (a : Args helds.signature κs) (x y : Res helds.signature κs) (e f : AtExit helds.ended κs)
      → ent 𝓤 (conj 𝓤 ((helds.clauses 𝓛 at_mem run κs a).ensures tt x e) ((helds.clauses 𝓛 at_mem run κs a).ensures tt y f))
      (fact 𝓤 (x ≡ y))
  lent_held_determined κs a x y e f = two_facts 𝓤 _ _ _ (λ p q. one_answer x y false (p.0 ∙ sym q.0) (p.1 ∙ sym q.1))

  pub lent_interrupt_determined : (κs : Lfts 1) (a : Args lines.signature κs) (x y : Res lines.signature κs) (e f : AtExit lines.ended κs)
      → ent 𝓤 (conj 𝓤 ((lines.clauses 𝓛 at_mem run κs a).ensures tt x e) ((lines.clauses 𝓛 at_mem run κs a).ensures tt y f))
      (fact 𝓤 (x ≡ y))
  lent_interrupt_determined κs a x y e f = two_facts 𝓤 _ _ _ (λ p q. one_answer x y false (p.0 ∙ sym q.0) (p.1 ∙ sym q.1))

  pub lent_pins_determined : (κs : Lfts 1) (a : Args samples.signature κs) (x y : Res samples.signature κs) (e f : AtExit samples.ended κs)
      → ent 𝓤 (conj 𝓤 ((samples.clauses 𝓛 at_mem run κs a).ensures tt x e) ((samples.clauses 𝓛 at_mem run κs a).ensures tt y f))
      (fact 𝓤 ((x ≡ y) × (e.0.now ≡ f.0.now)))
  lent_pins_determined κs a x y e f = two_facts 𝓤 _ _ _ (λ p q. (told_one x y (p.0 ∙ sym q.0), p.1 ∙ sym q.1))

  pub lent_drive_determined : (κs : Lfts 1) (a : Args drives.signature κs) (x y : Res drives.signature κs) (e f : AtExit drives.ended κs)
      → ent 𝓤 (conj 𝓤 ((drives.clauses 𝓛 at_mem run κs a).ensures tt x e) ((drives.clauses 𝓛 at_mem run κs a).ensures tt y f))
      (fact 𝓤 (x ≡ y))
  lent_drive_determined κs a x y e f = two_facts 𝓤 _ _ _ (λ p q. one_answer x y undriven (p.0 ∙ sym q.0) (λ i. record { driven = (p.1 ∙ sym q.1) i; level = (p.2 ∙ sym q.2) i }))

  -- "1. The module takes every call, with every value"
  pub lent_look_total : (κs : Lfts 2) (a : Args looks.signature κs) → (looks.clauses 𝓛 at_mem run κs a).requires tt ≡ (connectives 𝓤).⊤ₛ
  lent_look_total κs a = refl

  pub lent_looks_total : (κs : Lfts 2) (a : Args blocks.signature κs) → (blocks.clauses 𝓛 at_mem run κs a).requires tt ≡ (connectives 𝓤).⊤ₛ
  lent_looks_total κs a = refl

  pub lent_write_total : (κs : Lfts 2) (a : Args writes.signature κs) → (writes.clauses 𝓛 at_mem run κs a).requires tt ≡ (connectives 𝓤).⊤ₛ
  lent_write_total κs a = refl

  pub lent_read_total : (κs : Lfts 2) (a : Args reads.signature κs) → (reads.clauses 𝓛 at_mem run κs a).requires tt ≡ (connectives 𝓤).⊤ₛ
  lent_read_total κs a = refl

  pub lent_held_total : (κs : Lfts 1) (a : Args helds.signature κs) → (helds.clauses 𝓛 at_mem run κs a).requires tt ≡ (connectives 𝓤).⊤ₛ
  lent_held_total κs a = refl

  pub lent_interrupt_total : (κs : Lfts 1) (a : Args lines.signature κs) → (lines.clauses 𝓛 at_mem run κs a).requires tt ≡ (connectives 𝓤).⊤ₛ
  lent_interrupt_total κs a = refl

  pub lent_pins_total : (κs : Lfts 1) (a : Args samples.signature κs) → (samples.clauses 𝓛 at_mem run κs a).requires tt ≡ (connectives 𝓤).⊤ₛ
  lent_pins_total κs a = refl

  pub lent_drive_total : (κs : Lfts 1) (a : Args drives.signature κs) → (drives.clauses 𝓛 at_mem run κs a).requires tt ≡ (connectives 𝓤).⊤ₛ
  lent_drive_total κs a = refl
