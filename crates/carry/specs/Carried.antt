-- THE PACKED LIST of request E1: the calls that led to an odd undo, as bytes.
--
--    Carried           a call that a list can hold
--    fits c            none of the numbers 1 to 4 declines the call
--    count_fits n      neither 3 nor 4 declines an access of n bytes
--    packed c          the record of a call
--    size c            how many bits it has
--    records cs        the records of a list of calls
--    packing cs        the list as bytes
--    told_as a b bits  the call of a record of the kind a b, with the bits behind the kind
--    told bits         the call that the next record tells
--    ended bits        the bits at a boundary are the end
--    before c cs       the call c before the calls cs, if there are any to be had
--    calls n bits      the calls of at most n records, if that is what the bits are
--    calls_of bits     the calls of all records
--    unpack bytes      the calls of a packed list, if the bytes are one
use Rattle.std.specs.Prelude.{ℕ, zero, suc, ◌-◌, Bool, true, false, not, ◌&&◌, List, [], ◌∷◌, ◌++◌, length, drop, get_or, eqb, leb, ltb}
use Rattle.std.proofs.Math.Option.{Option, none, some}
use Rattle.words.specs.Words.{◌if◌, ◌else◌, all}
use Rattle.bits.specs.Bits.{below, bits_of, spelled, number, numbers, in_bytes}

-- a look with its samples, row 0 first; a write with its address and bytes; a read with its address and count; a reset
pub data Carried : Type 0 where
  look : List ℕ → Carried
  write : ℕ → List ℕ → Carried
  read : ℕ → ℕ → Carried
  reset : Carried

-- "no bytes", "more than 32 bytes": neither
unfoldable pub count_fits : ℕ → Bool
count_fits n = leb 1 n && leb n 32

-- "list isn't eight samples", "some sample has bit 13, 14 or 15 set", "no bytes", "more than 32 bytes": none of them;
-- and an address and bytes are of eight bits, as they are wherever a call can be made
unfoldable pub fits : Carried → Bool
fits (look samples) = eqb (length samples) 8 && all (below 13) samples
fits (write a bytes) = below 8 a && count_fits (length bytes) && all (below 8) bytes
fits (read a n) = below 8 a && count_fits n
fits reset = true

-- "a 2-bit kind; 00 a look, eight 13-bit samples, row 0 first, bit 12 first; 01 a write and 10 a read, with an 8-bit
-- address and a 5-bit count less one, then for a write its bytes; 11 a reset"
unfoldable pub packed : Carried → List Bool
packed (look samples) = false ∷ false ∷ spelled 13 samples
packed (write a bytes) = false ∷ true ∷ bits_of 8 a ++ (bits_of 5 (length bytes - 1) ++ spelled 8 bytes)
packed (read a n) = true ∷ false ∷ bits_of 8 a ++ bits_of 5 (n - 1)
packed reset = true ∷ true ∷ []

unfoldable pub size : Carried → ℕ
size c = length (packed c)

unfoldable pub records : List Carried → List Bool
records [] = []
records (c ∷ cs) = packed c ++ records cs

-- "fewer than eight bits, all 0, are the end; the writer pads so"
unfoldable pub packing : List Carried → List ℕ
packing cs = in_bytes (records cs)

-- ---- and back

unfoldable pub told_as : Bool → Bool → List Bool → Carried
told_as false false bits = look (numbers 8 13 bits)
told_as false true bits = write (number 8 bits) (numbers (suc (number 5 (drop 8 bits))) 8 (drop 13 bits))
told_as true false bits = read (number 8 bits) (suc (number 5 (drop 8 bits)))
told_as true true bits = reset

unfoldable pub told : List Bool → Carried
told bits = told_as (get_or bits 0 false) (get_or bits 1 false) (drop 2 bits)

-- "At a boundary between records fewer than eight bits, all 0, are the end"
unfoldable pub ended : List Bool → Bool
ended bits = ltb (length bits) 8 && all not bits

unfoldable pub before : Carried → Option (List Carried) → Option (List Carried)
before c none = none
before c (some cs) = some (c ∷ cs)

-- at a boundary: the end; or a record, which has to be all there, and the calls behind it; else "list cut short or padded wrongly"
unfoldable pub calls : ℕ → List Bool → Option (List Carried)
calls zero bits = none
calls (suc n) bits =
    some [] if ended bits else
    (before (told bits) (calls n (drop (size (told bits)) bits)) if leb (size (told bits)) (length bits) else none)

-- n bits have at most n records, and then their end
unfoldable pub calls_of : List Bool → Option (List Carried)
calls_of bits = calls (suc (length bits)) bits

unfoldable pub unpack : List ℕ → Option (List Carried)
unpack bytes = calls_of (spelled 8 bytes)
