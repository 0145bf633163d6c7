-- Keys: their numbers, their codes, and which are in the size. Rows and columns are plain numbers here.
--
--    is_key row col                     there is such a key
--    key_at row col, row_of k, col_of k    a key's number, by row, then column, and back
--    press_code, release_code           a key's codes
--    code_at row col closed             the code of a change of the key there: it closed, or it opened; code k closed: of key k
--    is_code b                          the byte b is a press or release code
--    key_of b                           the key that the code b speaks of
--    acceptable size                    KBDSIZE may be this
--    in_size size row col, key_in size k    the key is in the size
--    sample s size k                    key k's sample in a look with samples s
--    special k                          the special function key of key k's row
--    hidden s size k                    key k has no sample in a look with samples s
use Rattle.std.specs.Prelude.{ℕ, ◌+◌, ◌*◌, ◌/◌, ◌%◌, Bool, false, ◌&&◌, ◌||◌, List, get_or, leb, ltb, eqb}
use Rattle.words.specs.Words.{◌if◌, ◌else◌, bit}

-- "Rows are 0 to 7. Columns are 0 to 11 for the matrix and 12 for the row's special function (SF) key."
unfoldable pub is_key : ℕ → ℕ → Bool
is_key row col = leb row 7 && leb col 12

-- 104 stands for no key, with row 8 and column 13
unfoldable pub key_at : ℕ → ℕ → ℕ
key_at row col = 13 * row + col if is_key row col else 104

unfoldable pub row_of : ℕ → ℕ
row_of k = k / 13 if ltb k 104 else 8

unfoldable pub col_of : ℕ → ℕ
col_of k = k % 13 if ltb k 104 else 13

-- "A key's press code is 16 × row + column; its release code is that plus 128. 0x7F means no key."
unfoldable pub press_code : ℕ → ℕ → ℕ
press_code row col = 16 * row + col if is_key row col else 0x7F

unfoldable pub release_code : ℕ → ℕ → ℕ
release_code row col = 16 * row + col + 128 if is_key row col else 0x7F

abbrev pub code_at : ℕ → ℕ → Bool → ℕ
code_at row col closed = press_code row col if closed else release_code row col

unfoldable pub code : ℕ → Bool → ℕ
code k closed = code_at (row_of k) (col_of k) closed

-- the low four bits are the column, the next three the row
unfoldable pub is_code : ℕ → Bool
is_code b = is_key (b % 128 / 16) (b % 16)

unfoldable pub key_of : ℕ → ℕ
key_of b = key_at (b % 128 / 16) (b % 16)

-- "KBDSIZE is 16 × R + C. It is acceptable when R is 2 to 8 and C is 2 to 12."
unfoldable pub acceptable : ℕ → Bool
acceptable size = leb 2 (size / 16) && leb (size / 16) 8 && (leb 2 (size % 16) && leb (size % 16) 12)

-- "Keys in the size are those of rows below R whose column is below C or is 12."
unfoldable pub in_size : ℕ → ℕ → ℕ → Bool
in_size size row col = ltb row (size / 16) && (ltb col (size % 16) || eqb col 12)

unfoldable pub key_in : ℕ → ℕ → Bool
key_in size k = in_size size (row_of k) (col_of k)

-- "Bit c is 1 when column c is closed, bit 12 is the SF key." "All others [out of the size] count as open."
unfoldable pub sample : List ℕ → ℕ → ℕ → Bool
sample s size k = bit (col_of k) (get_or s (row_of k) 0) if key_in size k else false

unfoldable pub special : ℕ → ℕ
special k = key_at (row_of k) 12

-- "While an SF contact in the size is closed in a look, that row's matrix samples don't exist for that look"
unfoldable pub hidden : List ℕ → ℕ → ℕ → Bool
hidden s size k = ltb (col_of k) 12 && sample s size (special k)
