-- `scan::reading` meets its contract: by whether the contact is closed.
use mathlib.Core.Path.{sym}
use Rattle.contact.specs.Contact.{sight_of}
use Rattle.scan.proofs.reading.Goals as goal

pub returns-then-is_closed : goal.returns-then-is_closed
unfolding sight_of
returns-then-is_closed c = rw (sym c.if-is_closed.ensures)

pub returns-else-is_closed : goal.returns-else-is_closed
unfolding sight_of
returns-else-is_closed c = rw (sym c.if-is_closed.ensures)
