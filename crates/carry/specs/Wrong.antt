-- WRONG CARRIERS: ours, with one thing wrong in each. None meets the statements: proofs/Refuted.antt.
--
--    writing p     ours, but that lists are packed by p
--    mirrored      bit 0 of a sample comes first
--    counting      the count is packed as it is, not less one
--    swapped       01 is a read and 10 a write
--    hasty         the room is judged before the calls
--    wasteful      a list that fills the buffer has no room
--    spilling      a declined list leaves its packing in the buffer, as far as it goes
--    checking e    ours, but that a boundary is the end by e
--    loose         any bits, fewer than eight, are the end
--    sleepy        bits that are all 0 are the end, however many
--    stopping      the player stops at the first call that is declined
--    eager         the player makes the calls of a list that is cut short
use Rattle.std.specs.Prelude.{ℕ, zero, suc, ◌-◌, Bool, true, false, not, List, [], ◌∷◌, ◌++◌, length, take, drop, eqb, leb, ltb}
use Rattle.std.proofs.Math.Option.{Option, none, some}
use Rattle.words.specs.Words.{◌if◌, ◌else◌, all, bit}
use Rattle.numbers.specs.Numbers.{Line, ◌gives◌, number_of, done, no_room, cut_short}
use Rattle.bits.specs.Bits.{bits_of, spelled, in_bytes}
use Rattle.state.specs.declared.Module.{Module}
use Rattle.state.specs.Module.{fresh}
use Rattle.calls.specs.declared.Done.{Done}
use Rattle.calls.specs.Calls.{reset_call, look_call, write_call, read_call}
use Rattle.carry.specs.Carried.{Carried, look, write, read, reset, packed, size, packing, told, before, unpack}
use Rattle.carry.specs.Calls.{listed}
use Rattle.carry.specs.Writer.{list_lines, Packed, pack_number, pack_buffer}
use Rattle.carry.specs.Reader.{is_list, check_number, record_at}
use Rattle.carry.specs.Player.{stepped, played_from, play_call}
use Rattle.carry.specs.Statements.{Carrier, ours}

-- ---- writers

unfoldable pub records_by : (Carried → List Bool) → List Carried → List Bool
records_by p [] = []
records_by p (c ∷ cs) = p c ++ records_by p cs

unfoldable pub leaves_by : (Carried → List Bool) → List ℕ → List ℕ → List ℕ
leaves_by p ws out =
    let list = in_bytes (records_by p (listed ws)) in
    list ++ drop (length list) out if eqb (pack_number ws (length out)) done else out

abbrev pub writing : (Carried → List Bool) → Carrier
writing p = record { packs = ours.packs; leaves = leaves_by p; checks = check_number; finds = record_at; plays = play_call }

unfoldable pub bits_back : ℕ → ℕ → List Bool
bits_back zero x = []
bits_back (suc w) x = bits_back w x ++ (bit w x ∷ [])

unfoldable pub spelled_back : List ℕ → List Bool
spelled_back [] = []
spelled_back (x ∷ xs) = bits_back 13 x ++ spelled_back xs

unfoldable pub packed_back : Carried → List Bool
packed_back (look samples) = false ∷ false ∷ spelled_back samples
packed_back (write a bytes) = packed (write a bytes)
packed_back (read a n) = packed (read a n)
packed_back reset = packed reset

abbrev pub mirrored : Carrier
mirrored = writing packed_back

unfoldable pub packed_count : Carried → List Bool
packed_count (look samples) = packed (look samples)
packed_count (write a bytes) = false ∷ true ∷ bits_of 8 a ++ (bits_of 5 (length bytes) ++ spelled 8 bytes)
packed_count (read a n) = true ∷ false ∷ bits_of 8 a ++ bits_of 5 n
packed_count reset = packed reset

abbrev pub counting : Carrier
counting = writing packed_count

unfoldable pub packed_swapped : Carried → List Bool
packed_swapped (look samples) = packed (look samples)
packed_swapped (write a bytes) = true ∷ false ∷ bits_of 8 a ++ (bits_of 5 (length bytes - 1) ++ spelled 8 bytes)
packed_swapped (read a n) = false ∷ true ∷ bits_of 8 a ++ bits_of 5 (n - 1)
packed_swapped reset = packed reset

abbrev pub swapped : Carrier
swapped = writing packed_swapped

-- a writer that gives the numbers of these lines
unfoldable pub packs_by : (List ℕ → ℕ → List Line) → List ℕ → List ℕ → Packed
packs_by lines ws out =
    let n = number_of (lines ws (length out)) in
    record { length = length (packing (listed ws)) if eqb n done else 0; number = n }

abbrev pub judging : (List ℕ → ℕ → List Line) → Carrier
judging lines = record { packs = packs_by lines; leaves = pack_buffer; checks = check_number; finds = record_at; plays = play_call }

abbrev pub hasty : Carrier
hasty = judging (λ ws room. ltb room (length (packing (listed ws))) gives no_room ∷ list_lines (listed ws))

abbrev pub wasteful : Carrier
wasteful = judging (λ ws room. list_lines (listed ws) ++ (leb room (length (packing (listed ws))) gives no_room ∷ []))

unfoldable pub spills : List ℕ → List ℕ → List ℕ
spills ws out = take (length out) (packing (listed ws) ++ drop (length (packing (listed ws))) out)

abbrev pub spilling : Carrier
spilling = record { packs = ours.packs; leaves = spills; checks = check_number; finds = record_at; plays = play_call }

-- ---- readers

unfoldable pub calls_by : (List Bool → Bool) → ℕ → List Bool → Option (List Carried)
calls_by e zero bits = none
calls_by e (suc n) bits = some [] if e bits else (before (told bits) (calls_by e n (drop (size (told bits)) bits)) if leb (size (told bits)) (length bits) else none)

unfoldable pub checks_by : (List Bool → Bool) → List ℕ → ℕ
checks_by e bytes = number_of (not (is_list (calls_by e (suc (length (spelled 8 bytes))) (spelled 8 bytes))) gives cut_short ∷ [])

abbrev pub checking : (List Bool → Bool) → Carrier
checking e = record { packs = ours.packs; leaves = pack_buffer; checks = checks_by e; finds = record_at; plays = play_call }

abbrev pub loose : Carrier
loose = checking (λ bits. ltb (length bits) 8)

abbrev pub sleepy : Carrier
sleepy = checking (λ bits. all not bits)

-- ---- players

unfoldable pub number_for : Module → Carried → ℕ
number_for m (look samples) = (look_call m samples).number
number_for m (write a bytes) = (write_call m a bytes).number
number_for m (read a n) = (read_call m a n).number
number_for m reset = reset_call.number

unfoldable pub stops_from : Module → List Carried → Module
stops_from m [] = m
stops_from m (c ∷ cs) = stops_from (stepped m c) cs if eqb (number_for m c) done else m

unfoldable pub plays_by : (Module → List Carried → Module) → Option (List Carried) → Done
plays_by f none = record { after = fresh; number = cut_short }
plays_by f (some cs) = record { after = f fresh cs; number = done }

abbrev pub stopping : Carrier
stopping = record { packs = ours.packs; leaves = pack_buffer; checks = check_number; finds = record_at; plays = λ bytes. plays_by stops_from (unpack bytes) }

-- the calls up to the place where the list is cut short
unfoldable pub calls_up_to : ℕ → List Bool → List Carried
calls_up_to zero bits = []
calls_up_to (suc n) bits = told bits ∷ calls_up_to n (drop (size (told bits)) bits) if leb (size (told bits)) (length bits) else []

unfoldable pub plays_eagerly : List ℕ → Done
plays_eagerly bytes = record { after = played_from fresh (calls_up_to (length (spelled 8 bytes)) (spelled 8 bytes)); number = check_number bytes }

abbrev pub eager : Carrier
eager = record { packs = ours.packs; leaves = pack_buffer; checks = check_number; finds = record_at; plays = plays_eagerly }
