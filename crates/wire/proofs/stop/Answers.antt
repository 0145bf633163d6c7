-- `wire::stop` meets its contract.
use Rattle.wire.specs.Wire.{stop}
use Rattle.wire.proofs.stop.Goals as goal

pub returns : goal.returns
unfolding stop
returns c = (c.counted-count.ensures.0, c.close.ensures)
