-- WHAT THE WRITER GIVES: its number, the list's length, and every byte of the buffer.
--
--    count_lines n            3 and 4, for an access of n bytes
--    own_lines c              1 to 4, for a call of the list
--    list_lines cs            those of all calls, in the list's order
--    writer_lines cs room     all lines of the writer, whose buffer has room for so many bytes
--    Packed                   what the writer hands back: a number, and the list's length
--    as_packed x              the same, by how it went
--    pack_call ws room        the writer's number and length, for a list of numbers
--    pack_buffer ws out       the buffer after it
--    add_lines c room byte bit    all lines of one call more, behind so many bytes and bits of a buffer
--    Added                    what one call more hands back: a number, and a place in bytes and bits more
--    as_added p x             the same, by how it went at the place p
--    add_call c room byte bit    its number, and the place behind its record
--    add_buffer c out byte bit    the buffer after it
use Rattle.std.specs.Prelude.{ℕ, ◌+◌, ◌*◌, ◌/◌, ◌%◌, ◌||◌, List, [], ◌∷◌, ◌++◌, length, drop, eqb, ltb, Result, Ok, Err}
use Rattle.words.specs.Words.{◌if◌, ◌else◌}
use Rattle.numbers.specs.Numbers.{Line, ◌gives◌, number_of, done, no_bytes, too_many, no_room}
use Rattle.numbers.specs.Refusals.{number}
use Rattle.numbers.specs.declared.Refusal.{Refusal}
use Rattle.judge.specs.Lines.{sample_lines}
use Rattle.bits.specs.Bits.{laid}
use Rattle.carry.specs.declared.call.Call.{Call}
use Rattle.carry.specs.declared.call.Place.{Place}
use Rattle.carry.specs.Carried.{Carried, look, write, read, reset, packed, size, packing}
use Rattle.carry.specs.Calls.{carried, listed}

-- "no bytes", "more than 32 bytes"
unfoldable pub count_lines : ℕ → List Line
count_lines n = eqb n 0 gives no_bytes ∷ ltb 32 n gives too_many ∷ []

unfoldable pub own_lines : Carried → List Line
own_lines (look samples) = sample_lines samples
own_lines (write a bytes) = count_lines (length bytes)
own_lines (read a n) = count_lines n
own_lines reset = []

unfoldable pub list_lines : List Carried → List Line
list_lines [] = []
list_lines (c ∷ cs) = own_lines c ++ list_lines cs

-- "for the writer 1 to 4 for the first call that those numbers decline, then 21 no room, given exactly when the packed
-- list is longer than the buffer"
unfoldable pub writer_lines : List Carried → ℕ → List Line
writer_lines cs room = list_lines cs ++ (ltb room (length (packing cs)) gives no_room ∷ [])

unfoldable pub pack_number : List ℕ → ℕ → ℕ
pack_number ws room = number_of (writer_lines (listed ws) room)

pub record Packed : Type 0 where
  pub length : ℕ
  pub number : ℕ

abbrev pub as_packed : Result ℕ Refusal → Packed
as_packed (Ok n) = record { length = n; number = done }
as_packed (Err r) = record { length = 0; number = number r }

-- declined: no length
unfoldable pub pack_call : List ℕ → ℕ → Packed
pack_call ws room = record { length = length (packing (listed ws)) if eqb (pack_number ws room) done else 0; number = pack_number ws room }

-- the list at the front and the rest untouched; declined: all of it untouched
unfoldable pub pack_buffer : List ℕ → List ℕ → List ℕ
pack_buffer ws out =
    packing (listed ws) ++ drop (length (packing (listed ws))) out if eqb (pack_number ws (length out)) done else out

-- ---- one call more

-- a place is behind whole bytes and at most seven bits
unfoldable pub add_lines : Carried → ℕ → ℕ → ℕ → List Line
add_lines c room byte bit = own_lines c ++ ((ltb 7 bit || ltb (room * 8) (byte * 8 + bit + size c)) gives no_room ∷ [])

unfoldable pub add_number : Call → ℕ → ℕ → ℕ → ℕ
add_number c room byte bit = number_of (add_lines (carried c) room byte bit)

pub record Added : Type 0 where
  pub byte : ℕ
  pub bit : ℕ
  pub number : ℕ

abbrev pub as_added : Place → Result Place Refusal → Added
as_added p (Ok q) = record { byte = q.byte; bit = q.bit; number = done }
as_added p (Err r) = record { byte = p.byte; bit = p.bit; number = number r }

-- declined: the place as given
unfoldable pub add_call : Call → ℕ → ℕ → ℕ → Added
add_call c room byte bit =
    record {
      byte = (byte * 8 + bit + size (carried c)) / 8 if eqb (add_number c room byte bit) done else byte;
      bit = (byte * 8 + bit + size (carried c)) % 8 if eqb (add_number c room byte bit) done else bit;
      number = add_number c room byte bit;
    }

-- the record behind the bits that are there, its last byte filled with 0 and the rest untouched; declined: all of it untouched
unfoldable pub add_buffer : Call → List ℕ → ℕ → ℕ → List ℕ
add_buffer c out byte bit = laid out (byte * 8 + bit) (packed (carried c)) if eqb (add_number c (length out) byte bit) done else out
