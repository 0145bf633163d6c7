-- Bits written out and computed: a sample's bits, resets in a byte, bits laid into a byte's middle, numbers read from bytes.
-- Assumes nothing.
use mathlib.Core.Path.{◌≡◌, refl}
use mathlib.Core.Bool.{true, false}
use mathlib.Core.List.{[], ◌∷◌}
use Rattle.bits.specs.Bits.{bits_of, number, numbers, in_bytes, bits_from, laid}
use Rattle.bits.proofs.Opened.{opened}

-- 13 bits, the first and the last one
sample_right_lem : bits_of 13 0x1001 ≡ true ∷ false ∷ false ∷ false ∷ false ∷ false ∷ false ∷ false ∷ false ∷ false ∷ false ∷ false ∷ true ∷ []
unfolding opened
sample_right_lem = refl

-- two resets, each the bits 11: padded with 0
resets_right : in_bytes (true ∷ true ∷ true ∷ true ∷ []) ≡ 0xF0 ∷ []
unfolding opened
resets_right = refl

-- the bits 101 behind three others: those stay, 0 follows, and the byte behind stays
middle_right : laid (0xFF ∷ 0xAA ∷ []) 3 (true ∷ false ∷ true ∷ []) ≡ 0xF4 ∷ 0xAA ∷ []
unfolding opened
middle_right = refl

-- 13 bits across three bytes
across_right : laid (0xFE ∷ 0xFF ∷ 0xFF ∷ 0x11 ∷ []) 7 (bits_of 13 0x1001) ≡ 0xFF ∷ 0x00 ∷ 0x10 ∷ 0x11 ∷ []
unfolding opened
across_right = refl

-- no bits, in a byte that is begun and before one that isn't
none_right_lem : (laid (0xFF ∷ []) 4 [] ≡ 0xF0 ∷ []) × (laid (0xFF ∷ 0xFF ∷ []) 8 [] ≡ 0xFF ∷ 0xFF ∷ [])
unfolding opened
none_right_lem = (refl, refl)

-- 13 bits from the fifth on, and where bytes end before them
number_right : (number 13 (bits_from (0x12 ∷ 0x34 ∷ 0x56 ∷ []) 4) ≡ 0x0468) × (number 13 (bits_from (0xFF ∷ []) 4) ≡ 0x1E00)
unfolding opened
number_right = (refl, refl)

numbers_right : numbers 3 4 (bits_from (0x1A ∷ 0xBC ∷ []) 4) ≡ 0xA ∷ 0xB ∷ 0xC ∷ []
unfolding opened
numbers_right = refl
