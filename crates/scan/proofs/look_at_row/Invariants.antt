-- `scan::look_at_row` meets its contract. The loop's invariant: the columns below the next one are done, and from it on all are in sight.
use mathlib.Core.Bool.{false}
use Rattle.scan.specs.Walk.{Walked, parts_of, at_row}
use Rattle.scan.proofs.look_at_row.Given as goal

abbrev pub invariant-loop-col : goal.invariant-loop-col
invariant-loop-col l =
    Walked (at_row l.bounce l.size l.sample l.row (parts_of l.fn.m false) l.col) l.fn.m l.m l.any
