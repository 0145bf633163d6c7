-- How far a list is written, as C is told.
--
--    of_packed p    a whole list was: its length in bytes, and the number
--    of_added a     one call more was: the place behind its record, in bytes and bits more, and the number
use Rattle.carry.specs.Writer.{Packed, Added}
use Rattle.panel.specs.declared.Written.{Written}

unfoldable pub of_packed : Packed → Written
of_packed p = record { byte = p.length; bit = 0; number = p.number }

unfoldable pub of_added : Added → Written
of_added a = record { byte = a.byte; bit = a.bit; number = a.number }
