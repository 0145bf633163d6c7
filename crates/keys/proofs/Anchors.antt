-- Keys against document 01, written out and computed.
--
--    sizes           the 77 acceptable sizes
--    codes           the 104 press codes by row, then column
--    rows_in, cols_in  the rows and columns in a size, by its first and its second digit
--    closes          the sample that closes a column's contact alone
-- Assumes nothing.
use Prim.Native.Nat.{ℕ, ◌+◌, ◌*◌, ◌/◌, ◌%◌, ◌-◌}
use mathlib.Core.Path.{◌≡◌, refl}
use mathlib.Core.Bool.{Bool, true, false, not, ◌&&◌, beq}
use mathlib.Core.List.{List, [], ◌∷◌}
use lib.ListN.{length, get_or}
use lib.Dec.{eqb}
use Rattle.words.specs.Words.{◌if◌, ◌else◌, all_below, among, bit, table}
use Rattle.keys.specs.Keys.{is_key, key_at, row_of, col_of, press_code, release_code, code, is_code, key_of, acceptable, in_size, key_in, sample, special, hidden}

sizes : List ℕ
sizes =
    0x22 ∷ 0x23 ∷ 0x24 ∷ 0x25 ∷ 0x26 ∷ 0x27 ∷ 0x28 ∷ 0x29 ∷ 0x2A ∷ 0x2B ∷ 0x2C
    ∷ 0x32 ∷ 0x33 ∷ 0x34 ∷ 0x35 ∷ 0x36 ∷ 0x37 ∷ 0x38 ∷ 0x39 ∷ 0x3A ∷ 0x3B ∷ 0x3C
    ∷ 0x42 ∷ 0x43 ∷ 0x44 ∷ 0x45 ∷ 0x46 ∷ 0x47 ∷ 0x48 ∷ 0x49 ∷ 0x4A ∷ 0x4B ∷ 0x4C
    ∷ 0x52 ∷ 0x53 ∷ 0x54 ∷ 0x55 ∷ 0x56 ∷ 0x57 ∷ 0x58 ∷ 0x59 ∷ 0x5A ∷ 0x5B ∷ 0x5C
    ∷ 0x62 ∷ 0x63 ∷ 0x64 ∷ 0x65 ∷ 0x66 ∷ 0x67 ∷ 0x68 ∷ 0x69 ∷ 0x6A ∷ 0x6B ∷ 0x6C
    ∷ 0x72 ∷ 0x73 ∷ 0x74 ∷ 0x75 ∷ 0x76 ∷ 0x77 ∷ 0x78 ∷ 0x79 ∷ 0x7A ∷ 0x7B ∷ 0x7C
    ∷ 0x82 ∷ 0x83 ∷ 0x84 ∷ 0x85 ∷ 0x86 ∷ 0x87 ∷ 0x88 ∷ 0x89 ∷ 0x8A ∷ 0x8B ∷ 0x8C
    ∷ []

-- of the 256 bytes just these are acceptable
sizes_right : (length sizes ≡ 77) × (all_below (λ b. beq (acceptable b) (among b sizes)) 256 ≡ true)
unfolding sizes acceptable all_below among
sizes_right = (refl, refl)

codes : List ℕ
codes =
    0x00 ∷ 0x01 ∷ 0x02 ∷ 0x03 ∷ 0x04 ∷ 0x05 ∷ 0x06 ∷ 0x07 ∷ 0x08 ∷ 0x09 ∷ 0x0A ∷ 0x0B ∷ 0x0C
    ∷ 0x10 ∷ 0x11 ∷ 0x12 ∷ 0x13 ∷ 0x14 ∷ 0x15 ∷ 0x16 ∷ 0x17 ∷ 0x18 ∷ 0x19 ∷ 0x1A ∷ 0x1B ∷ 0x1C
    ∷ 0x20 ∷ 0x21 ∷ 0x22 ∷ 0x23 ∷ 0x24 ∷ 0x25 ∷ 0x26 ∷ 0x27 ∷ 0x28 ∷ 0x29 ∷ 0x2A ∷ 0x2B ∷ 0x2C
    ∷ 0x30 ∷ 0x31 ∷ 0x32 ∷ 0x33 ∷ 0x34 ∷ 0x35 ∷ 0x36 ∷ 0x37 ∷ 0x38 ∷ 0x39 ∷ 0x3A ∷ 0x3B ∷ 0x3C
    ∷ 0x40 ∷ 0x41 ∷ 0x42 ∷ 0x43 ∷ 0x44 ∷ 0x45 ∷ 0x46 ∷ 0x47 ∷ 0x48 ∷ 0x49 ∷ 0x4A ∷ 0x4B ∷ 0x4C
    ∷ 0x50 ∷ 0x51 ∷ 0x52 ∷ 0x53 ∷ 0x54 ∷ 0x55 ∷ 0x56 ∷ 0x57 ∷ 0x58 ∷ 0x59 ∷ 0x5A ∷ 0x5B ∷ 0x5C
    ∷ 0x60 ∷ 0x61 ∷ 0x62 ∷ 0x63 ∷ 0x64 ∷ 0x65 ∷ 0x66 ∷ 0x67 ∷ 0x68 ∷ 0x69 ∷ 0x6A ∷ 0x6B ∷ 0x6C
    ∷ 0x70 ∷ 0x71 ∷ 0x72 ∷ 0x73 ∷ 0x74 ∷ 0x75 ∷ 0x76 ∷ 0x77 ∷ 0x78 ∷ 0x79 ∷ 0x7A ∷ 0x7B ∷ 0x7C
    ∷ []

-- key k presses as the list's place k and releases as that plus 128; of the 256 bytes just these are codes, each of its own key
code_right : ℕ → Bool
code_right k =
    eqb (code k true) (get_or codes k 0)
    && eqb (code k false) (get_or codes k 0 + 128)
    && eqb (key_of (get_or codes k 0)) k
    && eqb (key_of (get_or codes k 0 + 128)) k

is_right : ℕ → Bool
is_right b = beq (is_code b) (among b codes) && beq (is_code (b + 128)) (among b codes)

codes_right : (length codes ≡ 104) × (all_below code_right 104 ≡ true) × (all_below is_right 128 ≡ true)
unfolding codes code_right is_right all_below among code press_code release_code row_of col_of is_key is_code key_of key_at
codes_right = (refl, refl, refl)

-- ---- "Keys in the size are those of rows below R whose column is below C or is 12."
-- the rows in the sizes 2x, 3x, .. 8x
rows_in : List (List ℕ)
rows_in =
    (0 ∷ 1 ∷ [])
    ∷ (0 ∷ 1 ∷ 2 ∷ [])
    ∷ (0 ∷ 1 ∷ 2 ∷ 3 ∷ [])
    ∷ (0 ∷ 1 ∷ 2 ∷ 3 ∷ 4 ∷ [])
    ∷ (0 ∷ 1 ∷ 2 ∷ 3 ∷ 4 ∷ 5 ∷ [])
    ∷ (0 ∷ 1 ∷ 2 ∷ 3 ∷ 4 ∷ 5 ∷ 6 ∷ [])
    ∷ (0 ∷ 1 ∷ 2 ∷ 3 ∷ 4 ∷ 5 ∷ 6 ∷ 7 ∷ [])
    ∷ []

-- the columns in the sizes x2, x3, .. xC; the special-function key, column 12, is in each
cols_in : List (List ℕ)
cols_in =
    (0 ∷ 1 ∷ 12 ∷ [])
    ∷ (0 ∷ 1 ∷ 2 ∷ 12 ∷ [])
    ∷ (0 ∷ 1 ∷ 2 ∷ 3 ∷ 12 ∷ [])
    ∷ (0 ∷ 1 ∷ 2 ∷ 3 ∷ 4 ∷ 12 ∷ [])
    ∷ (0 ∷ 1 ∷ 2 ∷ 3 ∷ 4 ∷ 5 ∷ 12 ∷ [])
    ∷ (0 ∷ 1 ∷ 2 ∷ 3 ∷ 4 ∷ 5 ∷ 6 ∷ 12 ∷ [])
    ∷ (0 ∷ 1 ∷ 2 ∷ 3 ∷ 4 ∷ 5 ∷ 6 ∷ 7 ∷ 12 ∷ [])
    ∷ (0 ∷ 1 ∷ 2 ∷ 3 ∷ 4 ∷ 5 ∷ 6 ∷ 7 ∷ 8 ∷ 12 ∷ [])
    ∷ (0 ∷ 1 ∷ 2 ∷ 3 ∷ 4 ∷ 5 ∷ 6 ∷ 7 ∷ 8 ∷ 9 ∷ 12 ∷ [])
    ∷ (0 ∷ 1 ∷ 2 ∷ 3 ∷ 4 ∷ 5 ∷ 6 ∷ 7 ∷ 8 ∷ 9 ∷ 10 ∷ 12 ∷ [])
    ∷ (0 ∷ 1 ∷ 2 ∷ 3 ∷ 4 ∷ 5 ∷ 6 ∷ 7 ∷ 8 ∷ 9 ∷ 10 ∷ 11 ∷ 12 ∷ [])
    ∷ []

-- the size of the list's place 11 × i + j, a key by row and column and by its number
in_right : ℕ → ℕ → ℕ → ℕ → Bool
in_right i j row col =
    let size = get_or sizes (11 * i + j) 0 in
    let inside = among row (get_or rows_in i []) && among col (get_or cols_in j []) in
    beq (in_size size row col) inside && beq (key_in size (13 * row + col)) inside

-- all 77 sizes and all 104 keys; 104 and above are no keys
keys_right : (all_below (λ i. all_below (λ j. all_below (λ row. all_below (in_right i j row) 13) 8) 11) 7 ≡ true) × (key_in 0x8C 104 ≡ false)
unfolding sizes rows_in cols_in in_right all_below among key_in in_size row_of col_of
keys_right = (refl, refl)

-- ---- "Bit c is 1 when column c is closed, bit 12 is the SF key."
closes : List ℕ
closes = 0x0001 ∷ 0x0002 ∷ 0x0004 ∷ 0x0008 ∷ 0x0010 ∷ 0x0020 ∷ 0x0040 ∷ 0x0080 ∷ 0x0100 ∷ 0x0200 ∷ 0x0400 ∷ 0x0800 ∷ 0x1000 ∷ []

-- a look in which row r has the sample x, and each other row the sample y
row_only : ℕ → ℕ → ℕ → List ℕ
row_only r x y = table (λ i. x if eqb i r else y) 8

-- the contact in row r and column c closed alone closes key k alone; open alone, it leaves that key alone open
sample_right : ℕ → ℕ → ℕ → Bool
sample_right r c k =
    let x = get_or closes c 0 in
    let own = eqb (get_or codes k 0) (16 * r + c) in
    beq (sample (row_only r x 0) 0x8C k) own && beq (sample (row_only r (0x1FFF - x) 0x1FFF) 0x8C k) (not own)

-- all 104 contacts and all 104 keys
samples_right : all_below (λ r. all_below (λ c. all_below (sample_right r c) 104) 13) 8 ≡ true
unfolding codes closes row_only sample_right table all_below sample key_in in_size row_of col_of bit
samples_right = refl

-- ---- "While an SF contact in the size is closed in a look, that row's matrix samples don't exist for that look"
-- key k is one of the matrix in row r
matrix_of : ℕ → ℕ → Bool
matrix_of r k = not (eqb (get_or codes k 0 % 16) 12) && eqb (get_or codes k 0 / 16) r

-- the special function contact of row r, closed alone, hides the matrix of its row; open alone, it leaves that in sight and all others hide theirs
hidden_right : ℕ → ℕ → Bool
hidden_right r k =
    beq (hidden (row_only r 0x1000 0) 0x8C k) (matrix_of r k)
    && beq (hidden (row_only r 0x0FFF 0x1FFF) 0x8C k) (not (eqb (get_or codes k 0 % 16) 12) && not (eqb (get_or codes k 0 / 16) r))

-- in the size of i + 2 rows and i + 2 columns it hides if row r is in the size
size_hides : ℕ → ℕ → ℕ → Bool
size_hides i r k = beq (hidden (row_only r 0x1000 0) (get_or sizes (12 * i) 0) k) (matrix_of r k && among r (get_or rows_in i []))

-- all 8 contacts and all 104 keys, and in seven sizes
hidden_right_lem : (all_below (λ r. all_below (hidden_right r) 104) 8 ≡ true) × (all_below (λ i. all_below (λ r. all_below (size_hides i r) 104) 8) 7 ≡ true)
unfolding codes closes sizes rows_in row_only matrix_of hidden_right size_hides table all_below among hidden special sample key_at is_key key_in in_size row_of col_of bit
hidden_right_lem = (refl, refl)
