-- `spare::levels` meets its contract: each turn writes where the others do.
use Rattle.answers.specs.Outputs.{Kept}
use Rattle.answers.proofs.spare.levels.Given as goal

abbrev pub invariant-loop-pin : goal.invariant-loop-pin
invariant-loop-pin l = Kept l.initial.out l.out
