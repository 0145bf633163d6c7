-- `wire::close` meets its contract.
use mathlib.Core.Path.{refl}
use Rattle.wire.specs.Wire.{idle}
use Rattle.wire.proofs.close.Goals as goal

pub returns : goal.returns
unfolding idle
returns c = refl
