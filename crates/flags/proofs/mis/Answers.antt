-- `flags::mis` meets its contract, by what `cleared` and `byte` ensure.
use mathlib.Core.Path.{◌∙◌}
use Rattle.state.specs.Queue.{waits}
use Rattle.flags.specs.Flags.{mis}
use Rattle.flags.proofs.Laws.{four}
use Rattle.flags.proofs.mis.Goals as goal

pub returns : goal.returns
unfolding waits mis
returns c =
    c.byte.ensures
    ∙ (λ i. four (c.cleared.ensures i) (c.cleared-2.ensures i)
    (c.cleared-3.ensures i) (c.cleared-4.ensures i))
