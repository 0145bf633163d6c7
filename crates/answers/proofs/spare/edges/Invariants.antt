-- `spare::edges` meets its contract: each turn writes where the others do.
use Rattle.answers.specs.Outputs.{Kept}
use Rattle.answers.proofs.spare.edges.Given as goal

abbrev pub invariant-loop-pending : goal.invariant-loop-pending
invariant-loop-pending l = Kept l.initial.out l.out
