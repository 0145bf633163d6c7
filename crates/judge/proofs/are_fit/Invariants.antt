-- `judge::are_fit` meets its contract. The loop's invariant: all bytes fit exactly when those left do.
use mathlib.Core.Path.{◌≡◌}
use lib.ListN.{drop}
use Rattle.judge.specs.Lines.{sizes_fit}
use Rattle.judge.proofs.are_fit.Given as goal

abbrev pub invariant-loop-byte : goal.invariant-loop-byte
invariant-loop-byte l = sizes_fit l.first l.bytes ≡ sizes_fit l.address (drop l.byte-index l.bytes)
