-- A SPARE PIN: what it is and what it does. Pin i is Genio i, 0 to 18. K a is the byte kept at the address a.
--
--    used size i           the keypad uses the pin
--    after_reset a         the byte kept at an address after reset
--    bank K a i            the pin's bit in three registers at a, a + 1, a + 2; paired K a i: at a, a + 2, a + 4
--    DATA K i, MASK K i, DIR K i, ..    the pin's bit in GPIODATA, GPIOMASK, GPIODIR, ..
--    drives K size i       the pin is driven, to its DATA bit
--    shows K size L i      its bit in a read of GPIODATA, L being the newest samples
--    edge K size i old new    it makes an edge when its sample was old and is new
--    some_pin f            f is true of some pin
--    word f, byte_by f g   the pins of which f is true, as bits: all of them, and those of the group g
--    clears a b i          the byte b, written at the address a, clears the pin's edge
--    is_data a             GPIODATA is at the address a
--    reads K E L size a    what a read at the address a gives, E being the pins whose edge is pending
--
-- "E6" is document 02's request, "DS" the data sheet of the LM8328, with its table's number.
use Rattle.std.specs.Prelude.{ℕ, ◌+◌, ◌-◌, ◌*◌, ◌/◌, ◌%◌, ◌^◌, Bool, not, ◌&&◌, ◌||◌, ltb, eqb}
use Rattle.std.specs.Bool.{beq}
use Rattle.words.specs.Words.{◌if◌, ◌else◌, all_below, within, bit, table}
use Rattle.words.specs.Bits.{binary}

-- DS: Genio0 to 7 are KPX0 to 7, the rows; Genio8 to 18 are KPY0 to 10, the columns. Column 11 is pin 19, and a row's special function key has no pin of its own
unfoldable pub used : ℕ → ℕ → Bool
used size i = ltb i (size / 16) if ltb i 8 else ltb (i - 8) (size % 16)

-- DS 51 to 86, "Default"
unfoldable pub after_reset : ℕ → ℕ
after_reset a =
    0xAA if within 0xAA 0xAB a else
    (0x55 if within 0xAC 0xAD a else
    (0x15 if eqb a 0xAE else
    (0x5A if eqb a 0xAF else
    (0x08 if eqb a 0xC8 || eqb a 0xE4 else
    (0xFF if within 0xCF 0xD1 a else 0)))))

-- a register for KPX7 to 0, one for KPY7 to 0, one for KPY10 to 8
unfoldable pub bank : (ℕ → ℕ) → ℕ → ℕ → Bool
bank K a i = bit (i % 8) (K (a + i / 8))

-- the same, with those of another bank in between
unfoldable pub paired : (ℕ → ℕ) → ℕ → ℕ → Bool
paired K a i = bit (i % 8) (K (a + 2 * (i / 8)))

-- DS 60 to 62: GPIODATA at 0xC0, 0xC2, 0xC4, and GPIOMASK behind each, 1 "enabled"
abbrev pub DATA : (ℕ → ℕ) → ℕ → Bool
DATA K i = paired K 0xC0 i

abbrev pub MASK : (ℕ → ℕ) → ℕ → Bool
MASK K i = paired K 0xC1 i

-- GPIODIR: 1 output
abbrev pub DIR : (ℕ → ℕ) → ℕ → Bool
DIR K i = bank K 0xC6 i

-- GPIOIS: 1 level
abbrev pub IS : (ℕ → ℕ) → ℕ → Bool
IS K i = bank K 0xC9 i

-- GPIOIBE: 1 both edges
abbrev pub IBE : (ℕ → ℕ) → ℕ → Bool
IBE K i = bank K 0xCC i

-- GPIOIEV: 1 rising, 0 falling
abbrev pub IEV : (ℕ → ℕ) → ℕ → Bool
IEV K i = bank K 0xCF i

-- GPIOIE: 1 enabled
abbrev pub IE : (ℕ → ℕ) → ℕ → Bool
IE K i = bank K 0xD2 i

-- GPIOOME: 1 open drain; GPIOOMS behind each: 0 drives 0 alone, 1 drives 1 alone
abbrev pub OME : (ℕ → ℕ) → ℕ → Bool
OME K i = paired K 0xE0 i

abbrev pub OMS : (ℕ → ℕ) → ℕ → Bool
OMS K i = paired K 0xE1 i

-- E6: "A pin used by the keypad size isn't plain I/O"; "a write to its bits is kept but drives nothing until the pin is free". An open drain drives the level of its GPIOOMS alone
unfoldable pub drives : (ℕ → ℕ) → ℕ → ℕ → Bool
drives K size i = not (used size i) && (DIR K i && (MASK K i && (not (OME K i) || beq (OMS K i) (DATA K i))))

-- of a free pin that is enabled: an output's data bit, an input's newest sample
unfoldable pub shows : (ℕ → ℕ) → ℕ → (ℕ → Bool) → ℕ → Bool
shows K size L i = not (used size i) && (MASK K i && (DATA K i if DIR K i else L i))

-- E6: "A pin used by the keypad size [..] makes no edge". An output makes none, and one that is watched for its level
unfoldable pub edge : (ℕ → ℕ) → ℕ → ℕ → Bool → Bool → Bool
edge K size i old new =
    not (beq old new) && (not (used size i) && (not (DIR K i) && (not (IS K i) && (IBE K i || beq (IEV K i) new))))

-- GPIOIC at 0xDC, DS: "1 clears"
unfoldable pub clears : ℕ → ℕ → ℕ → Bool
clears a b i = eqb a (0xDC + i / 8) && bit (i % 8) b

abbrev pub some_pin : (ℕ → Bool) → Bool
some_pin f = not (all_below (λ i. not (f i)) 19)

unfoldable pub word : (ℕ → Bool) → ℕ
word f = binary (table f 19)

-- bit b is pin 8 × g + b
unfoldable pub byte_by : (ℕ → Bool) → ℕ → ℕ
byte_by f g = word f / 2 ^ (8 * g) % 256

unfoldable pub is_data : ℕ → Bool
is_data a = eqb a 0xC0 || (eqb a 0xC2 || eqb a 0xC4)

-- GPIORIS at 0xD6, GPIOMIS at 0xD9; any other reads as it is kept
unfoldable pub reads : (ℕ → ℕ) → (ℕ → Bool) → (ℕ → Bool) → ℕ → ℕ → ℕ
reads K E L size a =
    byte_by (shows K size L) ((a - 0xC0) / 2) if is_data a else
    (byte_by E (a - 0xD6) if within 0xD6 0xD8 a else
    (byte_by (λ i. E i && IE K i) (a - 0xD9) if within 0xD9 0xDB a else K a))
