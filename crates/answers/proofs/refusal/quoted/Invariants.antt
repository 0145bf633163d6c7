-- `refusal::quoted` meets its contract: each turn writes where the others do.
use Rattle.answers.specs.Outputs.{Passed}
use Rattle.answers.proofs.refusal.quoted.Given as goal

abbrev pub invariant-loop-byte : goal.invariant-loop-byte
invariant-loop-byte l = Passed l.initial.out l.out
