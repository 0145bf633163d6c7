-- `calls::reset` meets its contract: the fresh state.
use Rattle.calls.specs.Calls.{reset_call}
use Rattle.calls.proofs.reset.Goals as goal

pub returns : goal.returns
unfolding reset_call
returns c = λ i. record { after = c.fresh.ensures i; number = 0 }
