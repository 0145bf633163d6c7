-- `scan::is_closed` meets its contract: by whether the key is in the size.
use mathlib.Core.Path.{sym}
use Rattle.words.specs.Words.{bit}
use Rattle.scan.specs.Walk.{counted}
use Rattle.scan.proofs.is_closed.Goals as goal

pub returns-then-is_in_size : goal.returns-then-is_in_size
unfolding counted bit
returns-then-is_in_size c = rw (sym c.if-is_in_size.ensures)

pub returns-else-is_in_size : goal.returns-else-is_in_size
unfolding counted
returns-else-is_in_size c = rw (sym c.if-is_in_size.ensures) c.if-is_in_size.false
