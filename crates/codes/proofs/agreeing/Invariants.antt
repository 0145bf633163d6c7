-- `codes::agreeing` meets its contract. The loop's invariant: as many codes agree as were passed, and as agree from place i on with the keys down now.
use Prim.Native.Nat.{◌+◌}
use mathlib.Core.Path.{◌≡◌}
use lib.ListN.{drop}
use Rattle.codes.specs.Codes.{none_down, agreeing}
use Rattle.codes.proofs.agreeing.Given as goal

abbrev pub invariant-loop-i : goal.invariant-loop-i
invariant-loop-i l = agreeing none_down l.codes ≡ l.i + agreeing l.down (drop l.i l.codes)
