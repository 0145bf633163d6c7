-- `flags::weigh` meets its contract: by the flag.
use Prim.Native.Nat.{ℕ, ◌*◌, ◌≤◌}
use native.Mathlib.Omega.{arith}
use mathlib.Core.Path.{◌≡◌}
use mathlib.Core.Bool.{Bool, true, false}
use mir.Val.{bool_byte}
use Rattle.flags.specs.Flags.{weigh}
use Rattle.flags.proofs.weigh.Goals as goal

times : (f : Bool) (w : ℕ) → (bool_byte f * w ≡ weigh f w) × (bool_byte f * w ≤ w)
unfolding weigh
times true w = (omega arith, omega arith)
times false w = (omega arith, omega arith)

pub returns : goal.returns
returns c = rw c.from.ensures (times c.args.flag c.args.weight)
