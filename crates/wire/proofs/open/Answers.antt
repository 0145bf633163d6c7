-- `wire::open` meets its contract.
use mathlib.Core.Path.{ap}
use mathlib.Core.List.{[]}
use Rattle.wire.specs.declared.Wire.{Wire}
use Rattle.wire.specs.Wire.{filled, idle, opened}
use Rattle.wire.proofs.open.Goals as goal

pub returns : goal.returns
unfolding opened filled idle
returns c = let room = filled [] in ap (λ (w : Wire). record { bytes = room; count = w.count; given = w.given; first = w.first; doing = c.args.doing }) c.close.ensures
