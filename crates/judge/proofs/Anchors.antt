-- The high bits of a sample against document 01, written out and computed: "bits 13 to 15 must be 0"; and those of pin samples against document 02: "a pin sample with a bit above 18".
-- Assumes nothing.
use Prim.Native.Nat.{ℕ}
use mathlib.Core.Path.{◌≡◌, refl}
use mathlib.Core.Bool.{not, true}
use lib.Dec.{eqb}
use mathlib.Core.List.{List, [], ◌∷◌}
use lib.ListN.{length}
use Rattle.words.specs.Words.{all, bit}
use Rattle.numbers.specs.Numbers.{number_of}
use Rattle.judge.specs.Lines.{high, pin_lines}

-- samples of closed columns and special function keys, and samples with one or more of the three bits
narrow : List ℕ
narrow = 0x0000 ∷ 0x0001 ∷ 0x0800 ∷ 0x0FFF ∷ 0x1000 ∷ 0x1001 ∷ 0x1FFF ∷ []

wide : List ℕ
wide = 0x2000 ∷ 0x2001 ∷ 0x3FFF ∷ 0x4000 ∷ 0x5000 ∷ 0x6000 ∷ 0x7FFF ∷ 0x8000 ∷ 0x9FFF ∷ 0xA000 ∷ 0xC000 ∷ 0xE000 ∷ 0xFFFF ∷ []

high_right : (length narrow ≡ 7) × (length wide ≡ 13) × (all (λ x. not (high x)) narrow ≡ true) × (all high wide ≡ true)
unfolding all narrow wide high bit
high_right = (refl, refl, refl, refl)

-- samples of the nineteen pins, and samples with a bit above 18
pinned : List ℕ
pinned = 0x00000 ∷ 0x00001 ∷ 0x0FFFF ∷ 0x40000 ∷ 0x7FFFF ∷ []

above : List ℕ
above = 0x80000 ∷ 0x80001 ∷ 0x100000 ∷ 0x7FFFFFFF ∷ 0x80000000 ∷ 0xFFFFFFFF ∷ []

pins_right : (length pinned ≡ 5) × (length above ≡ 6) × (all (λ x. eqb (number_of (pin_lines x)) 0) pinned ≡ true) × (all (λ x. eqb (number_of (pin_lines x)) 26) above ≡ true)
unfolding all pinned above pin_lines number_of
pins_right = (refl, refl, refl, refl)
