-- `draw::keys_of` meets its contract: each turn writes where the others do.
use Rattle.answers.specs.Outputs.{Kept}
use Rattle.answers.proofs.draw.keys_of.Given as goal

abbrev pub invariant-loop-col : goal.invariant-loop-col
invariant-loop-col l = Kept l.initial.out l.out
