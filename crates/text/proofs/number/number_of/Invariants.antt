-- `number::number_of` meets its contract. The loop's invariant: all bytes are digits exactly when those left are, and the digits left
-- tell, behind the number that is held at one above the most, what all of them tell, up to one above the most.
use Rattle.std.proofs.Common.{◌≡◌, ◌≤◌, min, drop}
use Rattle.text.specs.Digits.{digits, told}
use Rattle.text.proofs.number.number_of.Given as goal

abbrev pub invariant-loop-byte : goal.invariant-loop-byte
invariant-loop-byte l = (l.value ≤ l.over) × (digits l.base l.word ≡ digits l.base (drop l.byte-index l.word)) × (min (told l.base 0 l.word) l.over ≡ min (told l.base l.value (drop l.byte-index l.word)) l.over)
