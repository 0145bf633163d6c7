-- `flags::ris` meets its contract, by what `byte` ensures.
use Rattle.state.specs.Queue.{waits}
use Rattle.flags.specs.Flags.{ris}
use Rattle.flags.proofs.ris.Goals as goal

pub returns : goal.returns
unfolding waits ris
returns c = c.byte.ensures
