-- `access::give` meets its contract. The loop's invariant: the places below i hold the bytes at hand.
use Prim.Native.Nat.{◌+◌}
use mathlib.Core.Path.{◌≡◌}
use lib.ListN.{get_or}
use Rattle.words.proofs.Tables.{replaced}
use Rattle.access.proofs.give.Given as goal

abbrev pub invariant-loop-i : goal.invariant-loop-i
invariant-loop-i l = l.out ≡ replaced (λ k. get_or l.from (l.at + k) 0) l.i l.initial.out
