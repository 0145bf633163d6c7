-- PLACES OF A PACKED LIST, behind so many bytes and bits more.
--
--    bits_to p    how many bits are before the place p
use Rattle.std.specs.Prelude.{ℕ, ◌+◌, ◌*◌}
use Rattle.carry.specs.declared.call.Place.{Place}

abbrev pub bits_to : Place → ℕ
bits_to p = p.byte * 8 + p.bit
