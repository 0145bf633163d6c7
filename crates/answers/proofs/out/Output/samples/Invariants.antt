-- `out::Output::samples` meets its contract: each turn writes where the others do.
use Rattle.answers.specs.Outputs.{Kept}
use Rattle.answers.proofs.out.Output.samples.Given as goal

abbrev pub invariant-loop-sample : goal.invariant-loop-sample
invariant-loop-sample l = Kept l.initial.self l.self
