-- `scan::first_shown` meets its contract: by whether the contact is closed.
use mathlib.Core.Path.{sym}
use Rattle.scan.specs.Walk.{first_shown}
use Rattle.scan.proofs.first_shown.Goals as goal

pub returns-then-is_closed : goal.returns-then-is_closed
unfolding first_shown
returns-then-is_closed c = rw (sym c.if-is_closed.ensures)

pub returns-else-is_closed : goal.returns-else-is_closed
unfolding first_shown
returns-else-is_closed c = rw (sym c.if-is_closed.ensures)
