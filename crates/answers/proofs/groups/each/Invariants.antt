-- `groups::each` meets its contract: each turn writes where the others do.
use Rattle.answers.specs.Outputs.{Passed}
use Rattle.answers.proofs.groups.each.Given as goal

abbrev pub invariant-loop-end : goal.invariant-loop-end
invariant-loop-end g l = Passed l.initial.out l.out
