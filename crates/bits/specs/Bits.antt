-- Numbers as bits, and bits as bytes: "bits packed most significant first".
--
--    below w x         the number x has at most w bits
--    bits_of w x       the number x in w bits: its last ones, if it has more
--    spelled w xs      the numbers xs, each in w bits
--    front w bits      the next w bits; those past the end count as 0
--    value bits        the number that bits spell
--    number w bits     the number that the next w bits spell
--    numbers n w bits  the n numbers that the next bits spell, w bits each
--    bytes_for n       how many bytes hold n bits
--    in_bytes bits     bits as bytes, padded with 0
--    bits_from bytes p    the bits of the bytes, from the place p on
--    laid out p bits   the buffer out, with bits laid at the place p: all bits before them stay, 0 fills their last byte, and all bytes behind it stay
use Rattle.std.specs.Prelude.{ℕ, zero, suc, ◌+◌, ◌/◌, ◌^◌, Bool, true, false, List, [], ◌∷◌, ◌++◌, length, take, drop, ltb}
use Rattle.words.specs.Words.{bit}

unfoldable pub below : ℕ → ℕ → Bool
below w x = ltb x (2 ^ w)

unfoldable pub bits_of : ℕ → ℕ → List Bool
bits_of zero x = []
bits_of (suc w) x = bit w x ∷ bits_of w x

unfoldable pub spelled : ℕ → List ℕ → List Bool
spelled w [] = []
spelled w (x ∷ xs) = bits_of w x ++ spelled w xs

unfoldable pub front : ℕ → List Bool → List Bool
front zero bits = []
front (suc w) [] = false ∷ front w []
front (suc w) (b ∷ bits) = b ∷ front w bits

unfoldable pub value : List Bool → ℕ
value [] = 0
value (true ∷ bits) = 2 ^ length bits + value bits
value (false ∷ bits) = value bits

unfoldable pub number : ℕ → List Bool → ℕ
number w bits = value (front w bits)

unfoldable pub numbers : ℕ → ℕ → List Bool → List ℕ
numbers zero w bits = []
numbers (suc n) w bits = number w bits ∷ numbers n w (drop w bits)

unfoldable pub bytes_for : ℕ → ℕ
bytes_for n = (n + 7) / 8

unfoldable pub in_bytes : List Bool → List ℕ
in_bytes bits = numbers (bytes_for (length bits)) 8 bits

unfoldable pub bits_from : List ℕ → ℕ → List Bool
bits_from bytes p = drop p (spelled 8 bytes)

unfoldable pub laid : List ℕ → ℕ → List Bool → List ℕ
laid out p bits = in_bytes (take p (spelled 8 out) ++ bits) ++ drop (bytes_for (p + length bits)) out
