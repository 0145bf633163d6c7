-- `access::write` meets its contract. The loop's invariant: the whole write does what is left of it does to the state so far.
use mathlib.Core.Path.{◌≡◌}
use lib.ListN.{drop}
use Rattle.access.specs.Accesses.{wrote}
use Rattle.access.proofs.write.Given as goal

abbrev pub invariant-loop-byte : goal.invariant-loop-byte
invariant-loop-byte l = wrote l.initial.m l.first l.bytes ≡ wrote l.m l.address (drop l.byte-index l.bytes)
