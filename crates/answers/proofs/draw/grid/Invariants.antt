-- `draw::grid` meets its contract: each turn writes where the others do.
use Rattle.answers.specs.Outputs.{Kept}
use Rattle.answers.proofs.draw.grid.Given as goal

abbrev pub invariant-loop-row : goal.invariant-loop-row
invariant-loop-row l = Kept l.initial.out l.out
