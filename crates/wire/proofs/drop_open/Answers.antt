-- `wire::drop_open` meets its contract.
use mathlib.Core.Path.{refl}
use Rattle.wire.specs.Wire.{drop_open}
use Rattle.wire.proofs.drop_open.Goals as goal

pub returns : goal.returns
unfolding drop_open
returns c = (refl, c.close.ensures)
