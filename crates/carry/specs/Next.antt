-- WHAT THE READER IS TOLD of a place, by how it went.
--
--    Whole bits s    a record of s bits is next, and it is all there
--    Comes bits x    what is next, where these are the bits: the end; a record, of so many bits, that is all there; or neither, by 20
--    as_record x     a call with the place behind its record, the end, or a refusal, as it is handed back
use Rattle.std.specs.Prelude.{ℕ, ◌≡◌, ◌≤◌, ◌<◌, Bool, true, false, List, length, Option, None, Some, Result, Ok, Err}
use Rattle.numbers.specs.Numbers.{done}
use Rattle.numbers.specs.Refusals.{number}
use Rattle.numbers.specs.declared.Refusal.{Refusal}
use Rattle.numbers.specs.declared.Refusal.TheVariants.{CutShort}
use Rattle.carry.specs.declared.call.Call.{Call}
use Rattle.carry.specs.declared.call.Place.{Place}
use Rattle.carry.specs.declared.reader.Record.{Record}
use Rattle.carry.specs.Carried.{size, told, ended}
use Rattle.carry.specs.Reader.{no_call}

pub record Whole (bits : List Bool) (s : ℕ) : Type 0 where
  pub more : ended bits ≡ false
  pub long : s ≡ size (told bits)
  pub room : s ≤ length bits
  pub least : 2 ≤ s
  pub most : s ≤ 271

abbrev pub Comes : List Bool → Result (Option ℕ) Refusal → Type 0
Comes bits (Ok None) = ended bits ≡ true
Comes bits (Ok (Some s)) = Whole bits s
Comes bits (Err r) = (r ≡ CutShort) × (ended bits ≡ false) × (length bits < size (told bits))

abbrev pub as_record : Result (Option (Call × Place)) Refusal → Record
as_record (Ok None) = no_call done true
as_record (Ok (Some (c, p))) = record { call = c; byte = p.byte; bit = p.bit; number = done; end = false }
as_record (Err r) = no_call (number r) false
