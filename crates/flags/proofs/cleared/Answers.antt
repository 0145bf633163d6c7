-- `flags::cleared` meets its contract: by the flag, and by the bit.
use Prim.Native.Nat.{ℕ, ◌%◌}
use native.Mathlib.Omega.{arith}
use mathlib.Core.Path.{◌≡◌}
use mathlib.Core.Bool.{true, false}
use lib.Dec.{eqb}
use Rattle.std.proofs.lemmas.Bool.Decides.{nat_tests}
use Rattle.words.specs.Words.{◌if◌, ◌else◌, bit, without}
use Rattle.flags.proofs.cleared.Goals as goal

is_zero : (n : ℕ) → eqb (n % 2) 0 ≡ (false if eqb (n % 2) 1 else true)
is_zero n = grind (arith, nat_tests)

pub returns-then-flag : goal.returns-then-flag
unfolding without bit
returns-then-flag c = rw c.if-flag.true (is_zero _)

pub returns-else-flag : goal.returns-else-flag
unfolding without
returns-else-flag c = rw c.if-flag.false (grind (arith, nat_tests))
