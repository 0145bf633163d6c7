-- `carry::call::values_of` meets its contract. The loop's invariant: the values below i are the list's.
use mathlib.Core.Path.{◌≡◌}
use lib.ListN.{get_or}
use Rattle.words.proofs.Tables.{replaced}
use Rattle.carry.proofs.call.values_of.Given as goal

abbrev pub invariant-loop-i : goal.invariant-loop-i
invariant-loop-i l = l.values ≡ replaced (λ k. get_or l.list k 0) l.i l.initial.values
