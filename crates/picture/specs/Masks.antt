-- The held keys' codes, worked out row by row from masks: how the code does it. Who reads the rules can leave this page out: `order_by_masks` says that the codes are those of `held_codes`.
--
--    mask_at hs row         the mask of a row of a table: bit c is 1 if the key in column c is held
--    masks hs               the masks of the eight rows of a table
--    codes_in c w m         the codes c, c + 1, .. for the w lowest bits of the mask m, of those bits that are 1, in order
--    first_of m, but_first m the place of a mask's lowest bit that is 1, and the mask without that bit
--    by_masks row ms        the codes of the rows with the masks ms, the first of them being row; a row with mask 0 is left out
--    codes_from ms row m    the codes from a row on, of which only the keys in the mask m are left
use Rattle.std.specs.Prelude.{ℕ, zero, suc, ◌+◌, ◌-◌, ◌*◌, ◌/◌, ◌%◌, ◌^◌, Bool, List, [], ◌∷◌, ◌++◌, take, drop, eqb}
use Rattle.std.specs.Int.Count.{count_trailing_zeros}
use Rattle.words.specs.Words.{◌if◌, ◌else◌, table}
use Rattle.words.specs.Bits.{binary}

unfoldable pub mask_at : List Bool → ℕ → ℕ
mask_at hs row = binary (take 13 (drop (13 * row) hs))

unfoldable pub masks : List Bool → List ℕ
masks hs = table (mask_at hs) 8

-- "by row, then column"
unfoldable pub codes_in : ℕ → ℕ → ℕ → List ℕ
codes_in c zero m = []
codes_in c (suc w) m = (c ∷ [] if eqb (m % 2) 1 else []) ++ codes_in (c + 1) w (m / 2)

unfoldable pub first_of : ℕ → ℕ
first_of m = count_trailing_zeros 16 m

unfoldable pub but_first : ℕ → ℕ
but_first m = m - 2 ^ first_of m

-- "skip rows where nothing is held"
unfoldable pub by_masks : ℕ → List ℕ → List ℕ
by_masks row [] = []
by_masks row (m ∷ ms) = ([] if eqb m 0 else codes_in (16 * row) 16 m) ++ by_masks (row + 1) ms

abbrev pub codes_from : List ℕ → ℕ → ℕ → List ℕ
codes_from ms row m = codes_in (16 * row) 16 m ++ by_masks (row + 1) (drop (row + 1) ms)
