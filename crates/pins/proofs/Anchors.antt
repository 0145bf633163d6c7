-- The pins against document 000's own tables, copied here and computed.
--
--    rows          the registers whose byte is kept: address, after reset
--    sizes         the 77 sizes that can be accepted, row by row
--    used_pins      the pins that the keypad uses at each of them, bit i for pin i
--    data_bits, mask_bits, ..    where a bank, GPIORIS, GPIOMIS and GPIOIC hold each pin's bit: address, bit
--    ruled         are these the only bits that a bank looks at for a pin?
--    shown, cleared_by    is a pin's flag read there, and is its edge cleared by that bit alone?
--    places        the place of the byte kept at each of the 256 addresses
-- Assumes nothing.
use Prim.Native.Nat.{ℕ, ◌+◌, ◌-◌, ◌^◌}
use mathlib.Core.Path.{◌≡◌, refl}
use mathlib.Core.Bool.{Bool, true, false, not, ◌&&◌}
use mathlib.Core.List.{List, [], ◌∷◌, map}
use lib.Dec.{eqb}
use Rattle.words.specs.Words.{◌if◌, ◌else◌, all, within, table}
use Rattle.pins.specs.Rules.{used, after_reset, DATA, MASK, DIR, IS, IBE, IEV, IE, OME, OMS, clears, word, reads}
use Rattle.pins.specs.Pins.{place, address_of}
use Rattle.pins.proofs.Opened.{opened}

record Entry : Type 0 where
  at : ℕ
  reset : ℕ

entry : ℕ → ℕ → Entry
entry a v = record { at = a; reset = v }

rows : List Entry
rows =
    entry 0xAA 0xAA
    ∷ entry 0xAB 0xAA
    ∷ entry 0xAC 0x55
    ∷ entry 0xAD 0x55
    ∷ entry 0xAE 0x15
    ∷ entry 0xAF 0x5A
    ∷ entry 0xC0 0x00
    ∷ entry 0xC1 0x00
    ∷ entry 0xC2 0x00
    ∷ entry 0xC3 0x00
    ∷ entry 0xC4 0x00
    ∷ entry 0xC5 0x00
    ∷ entry 0xC6 0x00
    ∷ entry 0xC7 0x00
    ∷ entry 0xC8 0x08
    ∷ entry 0xC9 0x00
    ∷ entry 0xCA 0x00
    ∷ entry 0xCB 0x00
    ∷ entry 0xCC 0x00
    ∷ entry 0xCD 0x00
    ∷ entry 0xCE 0x00
    ∷ entry 0xCF 0xFF
    ∷ entry 0xD0 0xFF
    ∷ entry 0xD1 0xFF
    ∷ entry 0xD2 0x00
    ∷ entry 0xD3 0x00
    ∷ entry 0xD4 0x00
    ∷ entry 0xE0 0x00
    ∷ entry 0xE1 0x00
    ∷ entry 0xE2 0x00
    ∷ entry 0xE3 0x00
    ∷ entry 0xE4 0x08
    ∷ entry 0xE5 0x00
    ∷ []

reset_right : all (λ e. eqb (after_reset e.at) e.reset) rows ≡ true
unfolding opened rows entry
reset_right = refl

-- in this order, and no other byte is kept
order_right : table address_of 33 ≡ map (λ e. e.at) rows
unfolding opened rows entry
order_right = refl

sizes : List ℕ
sizes =
    0x22 ∷ 0x23 ∷ 0x24 ∷ 0x25 ∷ 0x26 ∷ 0x27 ∷ 0x28 ∷ 0x29 ∷ 0x2A ∷ 0x2B ∷ 0x2C
    ∷ 0x32 ∷ 0x33 ∷ 0x34 ∷ 0x35 ∷ 0x36 ∷ 0x37 ∷ 0x38 ∷ 0x39 ∷ 0x3A ∷ 0x3B ∷ 0x3C
    ∷ 0x42 ∷ 0x43 ∷ 0x44 ∷ 0x45 ∷ 0x46 ∷ 0x47 ∷ 0x48 ∷ 0x49 ∷ 0x4A ∷ 0x4B ∷ 0x4C
    ∷ 0x52 ∷ 0x53 ∷ 0x54 ∷ 0x55 ∷ 0x56 ∷ 0x57 ∷ 0x58 ∷ 0x59 ∷ 0x5A ∷ 0x5B ∷ 0x5C
    ∷ 0x62 ∷ 0x63 ∷ 0x64 ∷ 0x65 ∷ 0x66 ∷ 0x67 ∷ 0x68 ∷ 0x69 ∷ 0x6A ∷ 0x6B ∷ 0x6C
    ∷ 0x72 ∷ 0x73 ∷ 0x74 ∷ 0x75 ∷ 0x76 ∷ 0x77 ∷ 0x78 ∷ 0x79 ∷ 0x7A ∷ 0x7B ∷ 0x7C
    ∷ 0x82 ∷ 0x83 ∷ 0x84 ∷ 0x85 ∷ 0x86 ∷ 0x87 ∷ 0x88 ∷ 0x89 ∷ 0x8A ∷ 0x8B ∷ 0x8C
    ∷ []

used_pins : List ℕ
used_pins =
    0x00303 ∷ 0x00703 ∷ 0x00F03 ∷ 0x01F03 ∷ 0x03F03 ∷ 0x07F03 ∷ 0x0FF03 ∷ 0x1FF03 ∷ 0x3FF03 ∷ 0x7FF03 ∷ 0x7FF03
    ∷ 0x00307 ∷ 0x00707 ∷ 0x00F07 ∷ 0x01F07 ∷ 0x03F07 ∷ 0x07F07 ∷ 0x0FF07 ∷ 0x1FF07 ∷ 0x3FF07 ∷ 0x7FF07 ∷ 0x7FF07
    ∷ 0x0030F ∷ 0x0070F ∷ 0x00F0F ∷ 0x01F0F ∷ 0x03F0F ∷ 0x07F0F ∷ 0x0FF0F ∷ 0x1FF0F ∷ 0x3FF0F ∷ 0x7FF0F ∷ 0x7FF0F
    ∷ 0x0031F ∷ 0x0071F ∷ 0x00F1F ∷ 0x01F1F ∷ 0x03F1F ∷ 0x07F1F ∷ 0x0FF1F ∷ 0x1FF1F ∷ 0x3FF1F ∷ 0x7FF1F ∷ 0x7FF1F
    ∷ 0x0033F ∷ 0x0073F ∷ 0x00F3F ∷ 0x01F3F ∷ 0x03F3F ∷ 0x07F3F ∷ 0x0FF3F ∷ 0x1FF3F ∷ 0x3FF3F ∷ 0x7FF3F ∷ 0x7FF3F
    ∷ 0x0037F ∷ 0x0077F ∷ 0x00F7F ∷ 0x01F7F ∷ 0x03F7F ∷ 0x07F7F ∷ 0x0FF7F ∷ 0x1FF7F ∷ 0x3FF7F ∷ 0x7FF7F ∷ 0x7FF7F
    ∷ 0x003FF ∷ 0x007FF ∷ 0x00FFF ∷ 0x01FFF ∷ 0x03FFF ∷ 0x07FFF ∷ 0x0FFFF ∷ 0x1FFFF ∷ 0x3FFFF ∷ 0x7FFFF ∷ 0x7FFFF
    ∷ []

used_right : map (λ size. word (used size)) sizes ≡ used_pins
unfolding opened sizes used_pins
used_right = refl

record Bit : Type 0 where
  at : ℕ
  bit : ℕ

held : ℕ → ℕ → Bit
held a b = record { at = a; bit = b }

-- a bank's bit of a pin is true with that one bit set and nothing else, and false with all but that bit set
only : Bit → Bool → ℕ → ℕ
only h t a = (2 ^ h.bit if t else 255 - 2 ^ h.bit) if eqb a h.at else (0 if t else 255)

ruled : ((ℕ → ℕ) → ℕ → Bool) → ℕ → List Bit → Bool
ruled f i [] = eqb i 19
ruled f i (h ∷ l) = f (only h true) i && (not (f (only h false) i) && ruled f (i + 1) l)

data_bits : List Bit
data_bits =
    held 0xC0 0 ∷ held 0xC0 1 ∷ held 0xC0 2 ∷ held 0xC0 3 ∷ held 0xC0 4 ∷ held 0xC0 5 ∷ held 0xC0 6 ∷ held 0xC0 7
    ∷ held 0xC2 0 ∷ held 0xC2 1 ∷ held 0xC2 2 ∷ held 0xC2 3 ∷ held 0xC2 4 ∷ held 0xC2 5 ∷ held 0xC2 6 ∷ held 0xC2 7
    ∷ held 0xC4 0 ∷ held 0xC4 1 ∷ held 0xC4 2
    ∷ []

mask_bits : List Bit
mask_bits =
    held 0xC1 0 ∷ held 0xC1 1 ∷ held 0xC1 2 ∷ held 0xC1 3 ∷ held 0xC1 4 ∷ held 0xC1 5 ∷ held 0xC1 6 ∷ held 0xC1 7
    ∷ held 0xC3 0 ∷ held 0xC3 1 ∷ held 0xC3 2 ∷ held 0xC3 3 ∷ held 0xC3 4 ∷ held 0xC3 5 ∷ held 0xC3 6 ∷ held 0xC3 7
    ∷ held 0xC5 0 ∷ held 0xC5 1 ∷ held 0xC5 2
    ∷ []

dir_bits : List Bit
dir_bits =
    held 0xC6 0 ∷ held 0xC6 1 ∷ held 0xC6 2 ∷ held 0xC6 3 ∷ held 0xC6 4 ∷ held 0xC6 5 ∷ held 0xC6 6 ∷ held 0xC6 7
    ∷ held 0xC7 0 ∷ held 0xC7 1 ∷ held 0xC7 2 ∷ held 0xC7 3 ∷ held 0xC7 4 ∷ held 0xC7 5 ∷ held 0xC7 6 ∷ held 0xC7 7
    ∷ held 0xC8 0 ∷ held 0xC8 1 ∷ held 0xC8 2
    ∷ []

is_bits : List Bit
is_bits =
    held 0xC9 0 ∷ held 0xC9 1 ∷ held 0xC9 2 ∷ held 0xC9 3 ∷ held 0xC9 4 ∷ held 0xC9 5 ∷ held 0xC9 6 ∷ held 0xC9 7
    ∷ held 0xCA 0 ∷ held 0xCA 1 ∷ held 0xCA 2 ∷ held 0xCA 3 ∷ held 0xCA 4 ∷ held 0xCA 5 ∷ held 0xCA 6 ∷ held 0xCA 7
    ∷ held 0xCB 0 ∷ held 0xCB 1 ∷ held 0xCB 2
    ∷ []

ibe_bits : List Bit
ibe_bits =
    held 0xCC 0 ∷ held 0xCC 1 ∷ held 0xCC 2 ∷ held 0xCC 3 ∷ held 0xCC 4 ∷ held 0xCC 5 ∷ held 0xCC 6 ∷ held 0xCC 7
    ∷ held 0xCD 0 ∷ held 0xCD 1 ∷ held 0xCD 2 ∷ held 0xCD 3 ∷ held 0xCD 4 ∷ held 0xCD 5 ∷ held 0xCD 6 ∷ held 0xCD 7
    ∷ held 0xCE 0 ∷ held 0xCE 1 ∷ held 0xCE 2
    ∷ []

iev_bits : List Bit
iev_bits =
    held 0xCF 0 ∷ held 0xCF 1 ∷ held 0xCF 2 ∷ held 0xCF 3 ∷ held 0xCF 4 ∷ held 0xCF 5 ∷ held 0xCF 6 ∷ held 0xCF 7
    ∷ held 0xD0 0 ∷ held 0xD0 1 ∷ held 0xD0 2 ∷ held 0xD0 3 ∷ held 0xD0 4 ∷ held 0xD0 5 ∷ held 0xD0 6 ∷ held 0xD0 7
    ∷ held 0xD1 0 ∷ held 0xD1 1 ∷ held 0xD1 2
    ∷ []

ie_bits : List Bit
ie_bits =
    held 0xD2 0 ∷ held 0xD2 1 ∷ held 0xD2 2 ∷ held 0xD2 3 ∷ held 0xD2 4 ∷ held 0xD2 5 ∷ held 0xD2 6 ∷ held 0xD2 7
    ∷ held 0xD3 0 ∷ held 0xD3 1 ∷ held 0xD3 2 ∷ held 0xD3 3 ∷ held 0xD3 4 ∷ held 0xD3 5 ∷ held 0xD3 6 ∷ held 0xD3 7
    ∷ held 0xD4 0 ∷ held 0xD4 1 ∷ held 0xD4 2
    ∷ []

ome_bits : List Bit
ome_bits =
    held 0xE0 0 ∷ held 0xE0 1 ∷ held 0xE0 2 ∷ held 0xE0 3 ∷ held 0xE0 4 ∷ held 0xE0 5 ∷ held 0xE0 6 ∷ held 0xE0 7
    ∷ held 0xE2 0 ∷ held 0xE2 1 ∷ held 0xE2 2 ∷ held 0xE2 3 ∷ held 0xE2 4 ∷ held 0xE2 5 ∷ held 0xE2 6 ∷ held 0xE2 7
    ∷ held 0xE4 0 ∷ held 0xE4 1 ∷ held 0xE4 2
    ∷ []

oms_bits : List Bit
oms_bits =
    held 0xE1 0 ∷ held 0xE1 1 ∷ held 0xE1 2 ∷ held 0xE1 3 ∷ held 0xE1 4 ∷ held 0xE1 5 ∷ held 0xE1 6 ∷ held 0xE1 7
    ∷ held 0xE3 0 ∷ held 0xE3 1 ∷ held 0xE3 2 ∷ held 0xE3 3 ∷ held 0xE3 4 ∷ held 0xE3 5 ∷ held 0xE3 6 ∷ held 0xE3 7
    ∷ held 0xE5 0 ∷ held 0xE5 1 ∷ held 0xE5 2
    ∷ []

data_right : ruled DATA 0 data_bits ≡ true
unfolding opened ruled only held data_bits
data_right = refl

mask_right : ruled MASK 0 mask_bits ≡ true
unfolding opened ruled only held mask_bits
mask_right = refl

dir_right : ruled DIR 0 dir_bits ≡ true
unfolding opened ruled only held dir_bits
dir_right = refl

is_right_lem : ruled IS 0 is_bits ≡ true
unfolding opened ruled only held is_bits
is_right_lem = refl

ibe_right : ruled IBE 0 ibe_bits ≡ true
unfolding opened ruled only held ibe_bits
ibe_right = refl

iev_right : ruled IEV 0 iev_bits ≡ true
unfolding opened ruled only held iev_bits
iev_right = refl

ie_right : ruled IE 0 ie_bits ≡ true
unfolding opened ruled only held ie_bits
ie_right = refl

ome_right : ruled OME 0 ome_bits ≡ true
unfolding opened ruled only held ome_bits
ome_right = refl

oms_right : ruled OMS 0 oms_bits ≡ true
unfolding opened ruled only held oms_bits
oms_right = refl

ris_bits : List Bit
ris_bits =
    held 0xD6 0 ∷ held 0xD6 1 ∷ held 0xD6 2 ∷ held 0xD6 3 ∷ held 0xD6 4 ∷ held 0xD6 5 ∷ held 0xD6 6 ∷ held 0xD6 7
    ∷ held 0xD7 0 ∷ held 0xD7 1 ∷ held 0xD7 2 ∷ held 0xD7 3 ∷ held 0xD7 4 ∷ held 0xD7 5 ∷ held 0xD7 6 ∷ held 0xD7 7
    ∷ held 0xD8 0 ∷ held 0xD8 1 ∷ held 0xD8 2
    ∷ []

mis_bits : List Bit
mis_bits =
    held 0xD9 0 ∷ held 0xD9 1 ∷ held 0xD9 2 ∷ held 0xD9 3 ∷ held 0xD9 4 ∷ held 0xD9 5 ∷ held 0xD9 6 ∷ held 0xD9 7
    ∷ held 0xDA 0 ∷ held 0xDA 1 ∷ held 0xDA 2 ∷ held 0xDA 3 ∷ held 0xDA 4 ∷ held 0xDA 5 ∷ held 0xDA 6 ∷ held 0xDA 7
    ∷ held 0xDB 0 ∷ held 0xDB 1 ∷ held 0xDB 2
    ∷ []

ic_bits : List Bit
ic_bits =
    held 0xDC 0 ∷ held 0xDC 1 ∷ held 0xDC 2 ∷ held 0xDC 3 ∷ held 0xDC 4 ∷ held 0xDC 5 ∷ held 0xDC 6 ∷ held 0xDC 7
    ∷ held 0xDD 0 ∷ held 0xDD 1 ∷ held 0xDD 2 ∷ held 0xDD 3 ∷ held 0xDD 4 ∷ held 0xDD 5 ∷ held 0xDD 6 ∷ held 0xDD 7
    ∷ held 0xDE 0 ∷ held 0xDE 1 ∷ held 0xDE 2
    ∷ []

-- with every register 255 but GPIODIR, and of the flags one pin's alone: the byte read has its bit alone
whole : ℕ → ℕ
whole a = 0 if within 0xC6 0xC8 a else 255

shown : (ℕ → (ℕ → Bool) → ℕ) → ℕ → List Bit → Bool
shown f i [] = eqb i 19
shown f i (h ∷ l) = eqb (f h.at (λ j. eqb j i)) (2 ^ h.bit) && shown f (i + 1) l

levels_right : shown (λ a l. reads whole (λ _. false) l 0 a) 0 data_bits ≡ true
unfolding opened shown whole held data_bits
levels_right = refl

ris_right : shown (λ a e. reads whole e (λ _. false) 0 a) 0 ris_bits ≡ true
unfolding opened shown whole held ris_bits
ris_right = refl

mis_right : shown (λ a e. reads whole e (λ _. false) 0 a) 0 mis_bits ≡ true
unfolding opened shown whole held mis_bits
mis_right = refl

-- that bit clears the pin's edge, and all others there don't
cleared_by : ℕ → List Bit → Bool
cleared_by i [] = eqb i 19
cleared_by i (h ∷ l) = clears h.at (2 ^ h.bit) i && (not (clears h.at (255 - 2 ^ h.bit) i) && cleared_by (i + 1) l)

ic_right : cleared_by 0 ic_bits ≡ true
unfolding opened cleared_by held ic_bits
ic_right = refl

places : List ℕ
places =
    33 ∷ 33 ∷ 33 ∷ 33 ∷ 33 ∷ 33 ∷ 33 ∷ 33 ∷ 33 ∷ 33 ∷ 33 ∷ 33 ∷ 33 ∷ 33 ∷ 33 ∷ 33
    ∷ 33 ∷ 33 ∷ 33 ∷ 33 ∷ 33 ∷ 33 ∷ 33 ∷ 33 ∷ 33 ∷ 33 ∷ 33 ∷ 33 ∷ 33 ∷ 33 ∷ 33 ∷ 33
    ∷ 33 ∷ 33 ∷ 33 ∷ 33 ∷ 33 ∷ 33 ∷ 33 ∷ 33 ∷ 33 ∷ 33 ∷ 33 ∷ 33 ∷ 33 ∷ 33 ∷ 33 ∷ 33
    ∷ 33 ∷ 33 ∷ 33 ∷ 33 ∷ 33 ∷ 33 ∷ 33 ∷ 33 ∷ 33 ∷ 33 ∷ 33 ∷ 33 ∷ 33 ∷ 33 ∷ 33 ∷ 33
    ∷ 33 ∷ 33 ∷ 33 ∷ 33 ∷ 33 ∷ 33 ∷ 33 ∷ 33 ∷ 33 ∷ 33 ∷ 33 ∷ 33 ∷ 33 ∷ 33 ∷ 33 ∷ 33
    ∷ 33 ∷ 33 ∷ 33 ∷ 33 ∷ 33 ∷ 33 ∷ 33 ∷ 33 ∷ 33 ∷ 33 ∷ 33 ∷ 33 ∷ 33 ∷ 33 ∷ 33 ∷ 33
    ∷ 33 ∷ 33 ∷ 33 ∷ 33 ∷ 33 ∷ 33 ∷ 33 ∷ 33 ∷ 33 ∷ 33 ∷ 33 ∷ 33 ∷ 33 ∷ 33 ∷ 33 ∷ 33
    ∷ 33 ∷ 33 ∷ 33 ∷ 33 ∷ 33 ∷ 33 ∷ 33 ∷ 33 ∷ 33 ∷ 33 ∷ 33 ∷ 33 ∷ 33 ∷ 33 ∷ 33 ∷ 33
    ∷ 33 ∷ 33 ∷ 33 ∷ 33 ∷ 33 ∷ 33 ∷ 33 ∷ 33 ∷ 33 ∷ 33 ∷ 33 ∷ 33 ∷ 33 ∷ 33 ∷ 33 ∷ 33
    ∷ 33 ∷ 33 ∷ 33 ∷ 33 ∷ 33 ∷ 33 ∷ 33 ∷ 33 ∷ 33 ∷ 33 ∷ 33 ∷ 33 ∷ 33 ∷ 33 ∷ 33 ∷ 33
    ∷ 33 ∷ 33 ∷ 33 ∷ 33 ∷ 33 ∷ 33 ∷ 33 ∷ 33 ∷ 33 ∷ 33 ∷ 0 ∷ 1 ∷ 2 ∷ 3 ∷ 4 ∷ 5
    ∷ 33 ∷ 33 ∷ 33 ∷ 33 ∷ 33 ∷ 33 ∷ 33 ∷ 33 ∷ 33 ∷ 33 ∷ 33 ∷ 33 ∷ 33 ∷ 33 ∷ 33 ∷ 33
    ∷ 6 ∷ 7 ∷ 8 ∷ 9 ∷ 10 ∷ 11 ∷ 12 ∷ 13 ∷ 14 ∷ 15 ∷ 16 ∷ 17 ∷ 18 ∷ 19 ∷ 20 ∷ 21
    ∷ 22 ∷ 23 ∷ 24 ∷ 25 ∷ 26 ∷ 33 ∷ 33 ∷ 33 ∷ 33 ∷ 33 ∷ 33 ∷ 33 ∷ 33 ∷ 33 ∷ 33 ∷ 33
    ∷ 27 ∷ 28 ∷ 29 ∷ 30 ∷ 31 ∷ 32 ∷ 33 ∷ 33 ∷ 33 ∷ 33 ∷ 33 ∷ 33 ∷ 33 ∷ 33 ∷ 33 ∷ 33
    ∷ 33 ∷ 33 ∷ 33 ∷ 33 ∷ 33 ∷ 33 ∷ 33 ∷ 33 ∷ 33 ∷ 33 ∷ 33 ∷ 33 ∷ 33 ∷ 33 ∷ 33 ∷ 33
    ∷ []

places_right : table place 256 ≡ places
unfolding opened places
places_right = refl
