-- Bits against the weights of binary numbers, written out and computed.
--
--    weights       the weight of each bit of a byte
--    bits_right    the weights of a byte's bits that are 1 add up to the byte, of all 256
-- Assumes nothing.
use Prim.Native.Nat.{ℕ, ◌+◌}
use mathlib.Core.Path.{◌≡◌, refl}
use mathlib.Core.Bool.{true}
use mathlib.Core.List.{List, [], ◌∷◌}
use lib.Dec.{eqb}
use Rattle.words.specs.Words.{◌if◌, ◌else◌, all_below, bit}

weights : List ℕ
weights = 0x01 ∷ 0x02 ∷ 0x04 ∷ 0x08 ∷ 0x10 ∷ 0x20 ∷ 0x40 ∷ 0x80 ∷ []

-- the sum from bit c on
sum_from : ℕ → List ℕ → ℕ → ℕ
sum_from c [] b = 0
sum_from c (w ∷ ws) b = (w if bit c b else 0) + sum_from (c + 1) ws b

bits_right : all_below (λ b. eqb (sum_from 0 weights b) b) 0x100 ≡ true
unfolding all_below weights sum_from bit
bits_right = refl
