-- `state::fresh` meets its contract: the keypad's part by computing, the pins' by its own contract.
use mathlib.Core.Path.{ap}
use mathlib.Core.Bool.{true, false}
use lib.ListN.{replicate}
use Rattle.pins.specs.declared.Pins.{Pins}
use Rattle.state.specs.Module.{fresh, forgotten, keys, queue, settings, flags, sleep, made}
use Rattle.state.proofs.fresh.Goals as goal

pub returns : goal.returns
unfolding fresh forgotten
returns c =
    ap (λ (p : Pins). made (keys (replicate 104 false) (replicate 104 0)) (queue (replicate 15 0x7F) 0 false) (settings 3 0x22 3) (flags false false true (replicate 4 false)) p (sleep 0 false))
    c.fresh-pins.ensures
