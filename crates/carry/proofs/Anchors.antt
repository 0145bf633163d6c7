-- What the definitions say, by lists written out.
--
--    examples_packed, examples_read    each list of the table packs to its bytes, and its bytes are read as the list
--    none_read                         bytes that are no list
--    F0_walked                         two resets, place by place; beyond the last bit there is nothing
--    first_by_order, ..                the writer's numbers
--    rest_stays, all_stays             what it leaves in the buffer
-- Assumes nothing.
use Prim.Native.Nat.{ℕ}
use mathlib.Core.Path.{◌≡◌, refl}
use mathlib.Core.List.{List, [], ◌∷◌, map}
use mathlib.Core.Option.{none, some}
use lib.ListN.{length, replicate}
use Rattle.numbers.specs.Numbers.{number_of}
use Rattle.carry.specs.Carried.{Carried, look, read, reset, packing, unpack}
use Rattle.carry.specs.Writer.{writer_lines, pack_buffer}
use Rattle.carry.specs.Reader.{Found, call, end, nothing, found_at}
use Rattle.carry.specs.Statements.{Example, examples}
use Rattle.carry.proofs.Opened.{opened}

pub examples_packed : map (λ (e : Example). packing e.calls) examples ≡ map (λ (e : Example). e.bytes) examples
unfolding opened examples
examples_packed = refl

pub examples_read : map (λ (e : Example). unpack e.bytes) examples ≡ map (λ (e : Example). some e.calls) examples
unfolding opened examples
examples_read = refl

-- eight bits 0 are no end, alone or behind two resets; a reset and six bits that are neither 0 nor a record; three resets and a write's kind;
-- half a read; a look less its last two bits
abbrev broken : List (List ℕ)
broken = (0x00 ∷ []) ∷ (0xF0 ∷ 0x00 ∷ []) ∷ (0xC1 ∷ []) ∷ (0xFD ∷ []) ∷ (0x84 ∷ []) ∷ replicate 13 0x00 ∷ []

pub none_read : map unpack broken ≡ replicate (length broken) none
unfolding opened
none_read = refl

abbrev found : ℕ → Found
found p = found_at (0xF0 ∷ []) p

pub F0_walked : map found (0 ∷ 2 ∷ 4 ∷ 8 ∷ 9 ∷ []) ≡ call reset 2 ∷ call reset 4 ∷ end ∷ end ∷ nothing ∷ []
unfolding opened
F0_walked = refl

-- a look of seven samples
abbrev seven : Carried
seven = look (replicate 7 0)

-- a read of no byte before a look of seven samples is 3, behind it 1, whatever the room
pub first_by_order : number_of (writer_lines (reset ∷ read 0x10 0 ∷ seven ∷ []) 0) ≡ 3
unfolding opened
first_by_order = refl

pub seven_first : number_of (writer_lines (seven ∷ read 0x10 0 ∷ []) 0) ≡ 1
unfolding opened
seven_first = refl

-- counts aren't narrowed
pub long_count : number_of (writer_lines (read 0x10 257 ∷ []) 0) ≡ 4
unfolding opened
long_count = refl

-- four resets fill a byte, five don't
pub room_enough : number_of (writer_lines (replicate 4 reset) 1) ≡ 0
unfolding opened
room_enough = refl

pub no_room_lem : number_of (writer_lines (replicate 5 reset) 1) ≡ 21
unfolding opened
no_room_lem = refl

-- a call as numbers: a reset, and a read of 32 bytes
abbrev reset35 : List ℕ
reset35 = 3 ∷ replicate 34 0

abbrev read35 : List ℕ
read35 = 2 ∷ 0x10 ∷ 32 ∷ replicate 32 0

pub rest_stays : pack_buffer reset35 (0x55 ∷ 0x55 ∷ []) ≡ 0xC0 ∷ 0x55 ∷ []
unfolding opened
rest_stays = refl

pub all_stays : pack_buffer read35 (0x55 ∷ []) ≡ 0x55 ∷ []
unfolding opened
all_stays = refl
