-- `scan::look_at_rows` meets its contract. The loop's invariant: the rows below the next one are done.
use mathlib.Core.Bool.{false}
use Rattle.scan.specs.Walk.{Walked, parts_of, at_rows}
use Rattle.scan.proofs.look_at_rows.Given as goal

abbrev pub invariant-loop-row : goal.invariant-loop-row
invariant-loop-row l = Walked (at_rows l.fn.m.bounce l.fn.m.size l.samples (parts_of l.fn.m false) l.row) l.fn.m l.m l.any
