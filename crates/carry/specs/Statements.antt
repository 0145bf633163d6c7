-- THE STATEMENTS OF REQUEST E1, over any carrier: what a writer, a reader and a player give.
--
--    Carrier       any writer, reader and player, as functions of what they are given
--    ours          ours: pack, check, record_at and play
--    Carries K     the statements
--    Example       a list of calls, and its bytes by document 02's sentence
--    examples      THE TABLE of such lists, written out by hand
use Rattle.std.specs.Prelude.{ℕ, ◌≡◌, ◌↔◌, true, List, [], ◌∷◌, ◌++◌, length, drop}
use Rattle.words.specs.Words.{all}
use Rattle.numbers.specs.Numbers.{Given, done, cut_short}
use Rattle.bits.specs.Bits.{below}
use Rattle.state.specs.Module.{fresh}
use Rattle.calls.specs.declared.Done.{Done}
use Rattle.carry.specs.declared.reader.Record.{Record}
use Rattle.carry.specs.Carried.{Carried, look, write, read, reset, fits, packing}
use Rattle.carry.specs.Calls.{listed}
use Rattle.carry.specs.Writer.{writer_lines, Packed, pack_call, pack_buffer}
use Rattle.carry.specs.Reader.{call, end, check_number, record_of, record_at}
use Rattle.carry.specs.Player.{played_from, play_call}

pub record Carrier : Type 0 where
  -- the writer, by the list of numbers and the buffer lent: what it hands back, and the buffer after it
  pub packs : List ℕ → List ℕ → Packed
  pub leaves : List ℕ → List ℕ → List ℕ
  -- the reader, by the bytes: the whole list's number; and the record behind so many bytes and bits
  pub checks : List ℕ → ℕ
  pub finds : List ℕ → ℕ → ℕ → Record
  -- the player, by the bytes
  pub plays : List ℕ → Done

abbrev pub ours : Carrier
ours = record { packs = λ ws out. pack_call ws (length out); leaves = pack_buffer; checks = check_number; finds = record_at; plays = play_call }

-- going on from a place, record by record, gives the calls cs, then the end
unfoldable pub Goes : Carrier → List ℕ → ℕ → ℕ → List Carried → Type 0
Goes K bytes byte bit [] = K.finds bytes byte bit ≡ record_of end
Goes K bytes byte bit (c ∷ cs) = (q : ℕ) × (K.finds bytes byte bit ≡ record_of (call c q)) × Goes K bytes (record_of (call c q)).byte (record_of (call c q)).bit cs

pub record Carries (K : Carrier) : Type 0 where
  -- "for the writer 1 to 4 for the first call that those numbers decline, then 21 no room, given exactly when the packed list
  -- is longer than the buffer"
  pub exact : (ws out : List ℕ) → Given (writer_lines (listed ws) (length out)) (K.packs ws out).number
  -- the packed list stands at the front, and the rest of the buffer is untouched
  pub written : (ws out : List ℕ) → (K.packs ws out).number ≡ done
      → ((K.packs ws out).length ≡ length (packing (listed ws))) × (K.leaves ws out ≡ packing (listed ws) ++ drop (length (packing (listed ws))) out)
  -- a declined list has no length, and every byte of the buffer is untouched
  pub declined : (ws out : List ℕ) → ((K.packs ws out).number ≡ done → ⊥) → ((K.packs ws out).length ≡ 0) × (K.leaves ws out ≡ out)
  -- "20 list cut short or padded wrongly": given exactly when the bytes are the packing of no list of calls that fit; else 0
  pub cut : (bytes : List ℕ) → all (below 8) bytes ≡ true → (K.checks bytes ≡ cut_short) ↔ ((cs : List Carried) → all fits cs ≡ true → packing cs ≡ bytes → ⊥)
  pub good : (cs : List Carried) → all fits cs ≡ true → K.checks (packing cs) ≡ done
  -- "Reader and writer are both wanted, each undoing the other"
  pub read : (cs : List Carried) → all fits cs ≡ true → Goes K (packing cs) 0 0 cs
  -- "a player that runs a list from a fresh reset and ends in the state the single calls give. A call in the list that the
  -- module declines is played and declined."
  pub played : (cs : List Carried) → all fits cs ≡ true → K.plays (packing cs) ≡ record { after = played_from fresh cs; number = done }
  -- "20 .. checked before any call is played"
  pub refused : (bytes : List ℕ) → K.checks bytes ≡ cut_short → K.plays bytes ≡ record { after = fresh; number = cut_short }

-- ---- what `packing` is, by lists written out

pub record Example : Type 0 where
  pub calls : List Carried
  pub bytes : List ℕ

-- "a 2-bit kind; 00 a look, eight 13-bit samples, row 0 first, bit 12 first; 01 a write and 10 a read, with an 8-bit
-- address and a 5-bit count less one, then for a write its bytes; 11 a reset"
unfoldable pub examples : List Example
examples =
    -- no call is no byte
    record { calls = []; bytes = [] }
    -- 11 11 0000
    ∷ record { calls = reset ∷ reset ∷ []; bytes = 0xF0 ∷ [] }
    -- 11 11 11 11 11 000000
    ∷ record { calls = reset ∷ reset ∷ reset ∷ reset ∷ reset ∷ []; bytes = 0xFF ∷ 0xC0 ∷ [] }
    -- 10 00010000 11111 0
    ∷ record { calls = read 0x10 32 ∷ []; bytes = 0x84 ∷ 0x3E ∷ [] }
    -- 10 10000100 00000 0
    ∷ record { calls = read 0x84 1 ∷ []; bytes = 0xA1 ∷ 0x00 ∷ [] }
    -- 01 00000011 00000 10001100 0
    ∷ record { calls = write 0x03 (0x8C ∷ []) ∷ []; bytes = 0x40 ∷ 0xC1 ∷ 0x18 ∷ [] }
    -- 01 00000010 00001 00000001 00100010 0
    ∷ record { calls = write 0x02 (0x01 ∷ 0x22 ∷ []) ∷ []; bytes = 0x40 ∷ 0x82 ∷ 0x02 ∷ 0x44 ∷ [] }
    -- 00, row 0, then row 1: bit 1 of its sample is 2 + 13 + 11 bits behind the front, the third bit of the fourth byte
    ∷ record { calls = look (0 ∷ 2 ∷ 0 ∷ 0 ∷ 0 ∷ 0 ∷ 0 ∷ 0 ∷ []) ∷ []; bytes = 0 ∷ 0 ∷ 0 ∷ 0x20 ∷ 0 ∷ 0 ∷ 0 ∷ 0 ∷ 0 ∷ 0 ∷ 0 ∷ 0 ∷ 0 ∷ 0 ∷ [] }
    -- 00 1000000000000 .. 0000000000001: the special function key of row 0, the first column of row 7, a reset
    ∷ record {
      calls = look (0x1000 ∷ 0 ∷ 0 ∷ 0 ∷ 0 ∷ 0 ∷ 0 ∷ 1 ∷ []) ∷ reset ∷ [];
      bytes = 0x20 ∷ 0 ∷ 0 ∷ 0 ∷ 0 ∷ 0 ∷ 0 ∷ 0 ∷ 0 ∷ 0 ∷ 0 ∷ 0 ∷ 0 ∷ 0x70 ∷ [];
    }
    ∷ []
