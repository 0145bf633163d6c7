-- `flags::irqst` meets its contract, by what `weigh` ensures.
use Rattle.flags.specs.Flags.{irqst}
use Rattle.flags.proofs.irqst.Goals as goal

pub returns : goal.returns
unfolding irqst
returns c = cc
