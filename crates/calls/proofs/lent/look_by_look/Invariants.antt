-- `calls::lent::look_by_look` meets its contract. The loop's invariant: the looks that are left give, of the module as it is, what all of them give.
use mathlib.Core.Path.{◌≡◌}
use Rattle.std.specs.Iterator.Adapters.{enumerate_source, enumerate_count}
use Rattle.std.specs.Slice.Iter.{chunks_exact_rest, chunks_exact_size}
use Rattle.calls.proofs.Blocks.{Walked}
use Rattle.calls.proofs.lent.look_by_look.Given as goal

abbrev pub invariant-loop-done : goal.invariant-loop-done
invariant-loop-done l =
    let chunks = enumerate_source l.done-iterator in
    (chunks_exact_size chunks ≡ 8) × Walked l.initial.m l.samples l.m (enumerate_count l.done-iterator) (chunks_exact_rest chunks)
