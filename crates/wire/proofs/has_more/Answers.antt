-- `wire::has_more` meets its contract: by each of its three tests.
use mathlib.Core.Path.{sym, ◌∙◌}
use mathlib.Core.Bool.{true≢false}
use borrow.Author.Tests.{eq-eqb, ne_eqb}
use Rattle.wire.specs.Wire.{has_more}
use Rattle.wire.proofs.has_more.Goals as goal
use Rattle.wire.proofs.has_more.Goals.{then-w-eq-READS, else-w-eq-READS}

pub returns-then-w : goal.returns-then-w
unfolding has_more
returns-then-w c =
    elim c.if-w-eq-READS.branch [
      | then-w-eq-READS w ↦ rw (eq-eqb _ _ w.if-w-eq-READS.true, sym w.value-is ∙ c.if-w.true)
      | else-w-eq-READS w ↦ absurd (true≢false (sym c.if-w.true ∙ w.value-is ∙ ne_eqb _ _ w.if-w-eq-READS.false))
    ]

pub returns-else-w : goal.returns-else-w
unfolding has_more
returns-else-w c =
    elim c.if-w-eq-READS.branch [
      | then-w-eq-READS w ↦ rw (eq-eqb _ _ w.if-w-eq-READS.true, sym w.value-is ∙ c.if-w.false) c.if-w.false
      | else-w-eq-READS w ↦ rw (ne_eqb _ _ w.if-w-eq-READS.false) (w.value-is ∙ ne_eqb _ _ w.if-w-eq-READS.false)
    ]
