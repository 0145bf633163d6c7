-- WHAT THE READER GIVES: 20 for the whole list, and the call at a place.
--
--    is_list o             there are calls to be had
--    check_number bytes    0 or 20, for the whole list
--    Found                 what is at a place: a call and the place behind it, the end, or nothing
--    found_in bits p       what is at the place p, where these are the bits from it on
--    found_at bytes p      what is at the place p of a list
--    no_call n e           a record that isn't there: the number, and whether it is the end
--    record_of f           what is found, as it is handed back
--    record_at bytes byte bit    what is behind so many bytes and so many bits
--    Walk bytes p cs       going on from p gives the calls cs, then the end
use Rattle.std.specs.Prelude.{ℕ, ◌+◌, ◌*◌, ◌/◌, ◌%◌, ◌≡◌, Bool, true, false, not, List, [], ◌∷◌, length, leb, ltb}
use Rattle.std.proofs.Math.Option.{Option, none, some}
use Rattle.words.specs.Words.{◌if◌, ◌else◌}
use Rattle.numbers.specs.Numbers.{◌gives◌, number_of, done, cut_short}
use Rattle.bits.specs.Bits.{bits_from}
use Rattle.carry.specs.declared.reader.Record.{Record}
use Rattle.carry.specs.Carried.{Carried, look, size, told, ended, unpack}
use Rattle.carry.specs.Calls.{call_of}

unfoldable pub is_list : Option (List Carried) → Bool
is_list none = false
is_list (some cs) = true

-- "20 list cut short or padded wrongly"
unfoldable pub check_number : List ℕ → ℕ
check_number bytes = number_of (not (is_list (unpack bytes)) gives cut_short ∷ [])

pub data Found : Type 0 where
  call : Carried → ℕ → Found
  end : Found
  nothing : Found

unfoldable pub found_in : List Bool → ℕ → Found
found_in bits p = end if ended bits else (call (told bits) (p + size (told bits)) if leb (size (told bits)) (length bits) else nothing)

-- beyond the list's last bit there is nothing
unfoldable pub found_at : List ℕ → ℕ → Found
found_at bytes p = nothing if ltb (length bytes * 8) p else found_in (bits_from bytes p) p

-- a call that isn't there is a look of no samples
unfoldable pub no_call : ℕ → Bool → Record
no_call n e = record { call = call_of (look []); byte = 0; bit = 0; number = n; end = e }

unfoldable pub record_of : Found → Record
record_of (call c q) = record { call = call_of c; byte = q / 8; bit = q % 8; number = done; end = false }
record_of end = no_call done true
record_of nothing = no_call cut_short false

unfoldable pub record_at : List ℕ → ℕ → ℕ → Record
record_at bytes byte bit = record_of (nothing if ltb 7 bit else found_at bytes (byte * 8 + bit))

unfoldable pub Walk : List ℕ → ℕ → List Carried → Type 0
Walk bytes p [] = found_at bytes p ≡ end
Walk bytes p (c ∷ cs) = (q : ℕ) × (found_at bytes p ≡ call c q) × Walk bytes q cs
