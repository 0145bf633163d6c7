-- `access::read` meets its contract: by the address.
use mathlib.Core.Path.{◌≡◌, sym, ◌∙◌}
use borrow.Author.Tests.{eq-eqb}
use lib.ListN.{length}
use Rattle.words.proofs.Laws.{true_false}
use Rattle.registers.specs.declared.Access.TheVariants.{Read}
use Rattle.access.proofs.Pins.{keypad_run}
use Rattle.access.proofs.read.Goals as goal

pub fill_from-requires : goal.fill_from-requires
fill_from-requires c =
    let away : c.args.first ≡ 0x10 → ⊥ = λ e. true_false (sym (eq-eqb c.args.first 0x10 e) ∙ sym c.stays.ensures ∙ c.if-stays.false) in
    keypad_run Read (length c.args.out.now) c.args.first c.if-first-ge-IRQST.false away c.requires
