-- A refusal's number, and the number of a call by how it went.
--
--    number r    the number of the refusal r: document 01's, by name
--    told x      the number of a call that gave x: done, or that of its refusal
use Rattle.std.specs.Prelude.{ℕ, Result, Ok, Err}
use Rattle.numbers.specs.Numbers.{done, not_eight, high_bits, no_bytes, too_many, not_allowed, bad_size, no_key, unsound, cut_short, no_room, beyond_end, bad_code, bad_change, inside_group, bad_pins, sleeping}
use Rattle.numbers.specs.declared.Refusal.{Refusal}
use Rattle.numbers.specs.declared.Refusal.TheVariants.{NotEight, HighBits, NoBytes, TooMany, NotAllowed, BadSize, NoKey, Unsound, CutShort, NoRoom, BeyondEnd, BadCode, BadChange, InsideGroup, BadPins, Asleep}

abbrev pub number : Refusal → ℕ
number NotEight = not_eight
number HighBits = high_bits
number NoBytes = no_bytes
number TooMany = too_many
number NotAllowed = not_allowed
number BadSize = bad_size
number NoKey = no_key
number Unsound = unsound
number CutShort = cut_short
number NoRoom = no_room
number BeyondEnd = beyond_end
number BadCode = bad_code
number BadChange = bad_change
number InsideGroup = inside_group
number BadPins = bad_pins
number Asleep = sleeping

abbrev pub told : {A : Type 0} → Result A Refusal → ℕ
told (Ok x) = done
told (Err r) = number r
