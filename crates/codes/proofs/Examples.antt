-- Lists of codes, written out and computed.
--
--    codes_right       0x00 is the press of key 0 and 0x80 its release; 0x0D, 0x7F and 0xFF are no codes
--    agrees_right      a press agrees while its key is up, a release while it is down, and what is no code never
--    after_right       a code changes its own key alone; keys_down t: the keys down in a table
--    leading_right     where a list's first byte stands that is no code
--    agreeing_right    where a list's first code stands that doesn't agree
--    opposite_right    the other code of the same key, and back, of all 208 codes
-- Assumes nothing.
use Prim.Native.Nat.{ℕ, zero, suc}
use mathlib.Core.Path.{◌≡◌, refl}
use mathlib.Core.Bool.{Bool, true, false, ◌&&◌}
use mathlib.Core.List.{List, [], ◌∷◌, ◌++◌}
use lib.ListN.{get_or, replicate, set}
use lib.Dec.{eqb}
use Rattle.words.specs.Words.{◌if◌, ◌else◌, all_below}
use Rattle.keys.specs.Keys.{code, is_code, key_of}
use Rattle.keys.specs.Replay.{is_press}
use Rattle.codes.specs.Codes.{none_down, agrees, after, down_after, leading, agreeing, opposite}
use Rattle.codes.proofs.Opened.{opened}

codes_right : (is_code 0x00 ≡ true) × (key_of 0x00 ≡ 0) × (is_press 0x00 ≡ true)
    × (is_code 0x80 ≡ true) × (key_of 0x80 ≡ 0) × (is_press 0x80 ≡ false)
    × (is_code 0x0D ≡ false) × (is_code 0x7F ≡ false) × (is_code 0xFF ≡ false)
unfolding opened
codes_right = (refl, refl, refl, refl, refl, refl, refl, refl, refl)

-- the tables of every key down, and of key 13, row 1 and column 0, down alone
all_down : List Bool
all_down = replicate 104 true

one_down : List Bool
one_down = set (replicate 104 false) 13 true

agrees_right : (agrees none_down 0x10 ≡ true) × (agrees none_down 0x90 ≡ false)
    × (agrees one_down 0x10 ≡ false) × (agrees one_down 0x90 ≡ true) × (agrees one_down 0x11 ≡ true) × (agrees one_down 0x91 ≡ false)
    × (agrees none_down 0x0D ≡ false) × (agrees all_down 0x0D ≡ false) × (agrees none_down 0x8D ≡ false) × (agrees all_down 0x8D ≡ false)
    × (agrees none_down 0x7F ≡ false) × (agrees all_down 0xFF ≡ false)
unfolding opened all_down one_down
agrees_right = (refl, refl, refl, refl, refl, refl, refl, refl, refl, refl, refl, refl)

-- the keys below n that are down
down_below : List Bool → ℕ → List ℕ
down_below t zero = []
down_below t (suc n) = down_below t n ++ (n ∷ [] if get_or t n false else [])

keys_down : List Bool → List ℕ
keys_down t = down_below t 104

after_right : (keys_down (after none_down 0x10) ≡ 13 ∷ []) × (keys_down (after (after none_down 0x10) 0x90) ≡ [])
    × (keys_down (down_after none_down (0x10 ∷ 0x21 ∷ 0x00 ∷ 0x90 ∷ 0x7C ∷ [])) ≡ 0 ∷ 27 ∷ 103 ∷ [])
    × (after none_down 0x0D ≡ none_down) × (after all_down 0xFF ≡ all_down)
unfolding opened all_down down_below keys_down
after_right = (refl, refl, refl, refl, refl)

leading_right : (leading is_code (0x10 ∷ 0x90 ∷ 0x0D ∷ 0x10 ∷ []) ≡ 2) × (leading is_code (0x7F ∷ []) ≡ 0) × (leading is_code (0x10 ∷ []) ≡ 1) × (leading is_code [] ≡ 0)
unfolding opened
leading_right = (refl, refl, refl, refl)

agreeing_right : (agreeing none_down (0x10 ∷ 0x21 ∷ 0x90 ∷ 0x90 ∷ []) ≡ 3) × (agreeing none_down (0x10 ∷ 0x21 ∷ 0x90 ∷ 0xA1 ∷ []) ≡ 4)
    × (agreeing none_down (0x90 ∷ []) ≡ 0) × (agreeing none_down (0x10 ∷ 0x10 ∷ []) ≡ 1) × (agreeing none_down (0x10 ∷ 0x0D ∷ 0x90 ∷ []) ≡ 1) × (agreeing none_down [] ≡ 0)
unfolding opened
agreeing_right = (refl, refl, refl, refl, refl, refl)

turned : ℕ → Bool
turned k = eqb (opposite (code k true)) (code k false) && eqb (opposite (code k false)) (code k true)

opposite_right : (opposite 0x3C ≡ 0xBC) × (opposite 0xBC ≡ 0x3C) × (opposite 0x00 ≡ 0x80) × (opposite 0x80 ≡ 0x00) × (all_below turned 104 ≡ true)
unfolding opened turned
opposite_right = (refl, refl, refl, refl, refl)
