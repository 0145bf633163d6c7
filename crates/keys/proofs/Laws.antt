-- Laws of keys.
--
--    key_yes, no_row, no_col        there is such a key, or there is none
--    key_row, key_col               row and column of a key are in range
--    press_no, press_yes            the code tells whether there is such a key; press_low: it is at most 0x7F
--    row_yes, col_yes               row and column of a key number; row-no, col-no: of no key
--    row_low, col_low               they are in range; key-low: and so is the number of a key
--    place_row, place_col           row and column of the key that stands there
--    key_back, back_row, back_col   the key number, and back
--    press_is, release_is           the codes of a key
--    code_key                       the key of a change's code is the key that changed
--    code_place                     the code of a change, by the key's row and column
--    code_low                       a press is at most 0x7F; code-byte: every code is a byte
--    sample_out                     out of the size a sample counts as open
--    special_low, special_row, special_col    the special function key of a row is a key, and not of the matrix
--    special_own, special_same      it is a key itself that is not of the matrix, and so its own
--    hidden_matrix, hidden_special  a key of the matrix is hidden while its row's special function contact is closed; that one never is
--    hidden_own                     no other contact matters
--    rows_most                      an acceptable size has at most 8 rows
--    code_in                        by its row and column, or by the number of its key, a code is of a key in the size
-- Assumes nothing.
use Prim.Native.Nat.{ℕ, ◌+◌, ◌*◌, ◌/◌, ◌%◌, ◌≤◌, ◌<◌}
use native.Mathlib.Decide.{dec_le, dec_lt}
use native.Mathlib.Omega.{arith}
use mathlib.Core.Path.{◌≡◌, refl, sym, ap, ◌∙◌}
use mathlib.Core.Bool.{Bool, true, false, cond, ◌&&◌, and-false}
use mathlib.Core.List.{List}
use borrow.Author.Tests.{le-leb, lt-leb, lt-ltb, le-ltb, leb-true, ltb-false, ne_eqb}
use lib.Dec.{leb, ltb}
use lib.ListN.{get_or}
use Rattle.words.specs.Words.{◌if◌, ◌else◌, bit}
use Rattle.words.proofs.Laws.{and_left, and_right}
use Rattle.keys.specs.Keys.{is_key, key_at, row_of, col_of, press_code, release_code, code_at, code, key_of, acceptable, in_size, key_in, sample, special, hidden}

module _ (row col : ℕ) where
  pub key_yes : row ≤ 7 → col ≤ 12 → is_key row col ≡ true
  unfolding is_key
  key_yes h k = rw (le-leb row 7 h, le-leb col 12 k)

  pub no_row : 7 < row → is_key row col ≡ false
  unfolding is_key
  no_row h = rw (lt-leb row 7 h)

  pub no_col : 12 < col → is_key row col ≡ false
  unfolding is_key
  no_col h = rw (lt-leb col 12 h) (and-false (leb row 7))

  pub key_row : is_key row col ≡ true → row ≤ 7
  unfolding is_key
  key_row e = leb-true row 7 (and_left (leb row 7) (leb col 12) e)

  pub key_col : is_key row col ≡ true → col ≤ 12
  unfolding is_key
  key_col e = leb-true col 12 (and_right (leb row 7) (leb col 12) e)

  -- a press code is never 0x7F, whose low four bits are no column
  pub press_no : press_code row col ≡ 0x7F → is_key row col ≡ false
  unfolding press_code
  press_no e = go (is_key row col) refl
    where
      go : (b : Bool) → is_key row col ≡ b → is_key row col ≡ false
      go false f = f
      go true f =
          let r = key_row f in
          let c = key_col f in
          let p : 16 * row + col ≡ 0x7F = rw f at e in
          absurd (omega arith)

  pub press_yes : (press_code row col ≡ 0x7F → ⊥) → is_key row col ≡ true
  unfolding press_code
  press_yes h = go (is_key row col) refl
    where
      go : (b : Bool) → is_key row col ≡ b → is_key row col ≡ true
      go true f = f
      go false f = absurd (h (rw f))

  pub press_low : press_code row col ≤ 0x7F
  unfolding press_code
  press_low = go (is_key row col) refl
    where
      go : (b : Bool) → is_key row col ≡ b → press_code row col ≤ 0x7F
      go true f = let r = key_row f in let c = key_col f in rw f (omega arith)
      go false f = rw f (omega arith)

module _ (k : ℕ) where
  pub row_yes : k < 104 → row_of k ≡ k / 13
  unfolding row_of
  row_yes h = rw (lt-ltb k 104 h)

  pub row_no : 104 ≤ k → row_of k ≡ 8
  unfolding row_of
  row_no h = rw (le-ltb k 104 h)

  pub col_yes : k < 104 → col_of k ≡ k % 13
  unfolding col_of
  col_yes h = rw (lt-ltb k 104 h)

  pub col_no : 104 ≤ k → col_of k ≡ 13
  unfolding col_of
  col_no h = rw (le-ltb k 104 h)

  pub row_low : k < 104 → row_of k ≤ 7
  row_low h = let e = row_yes h in omega arith

  pub col_low : k < 104 → col_of k ≤ 12
  col_low h = let e = col_yes h in omega arith

  pub key_back : k < 104 → key_at (row_of k) (col_of k) ≡ k
  unfolding key_at
  key_back h =
      let e = row_yes h in
      let f = col_yes h in
      rw (key_yes (row_of k) (col_of k) (row_low h) (col_low h)) (omega arith)

module _ (row col : ℕ) (h : row ≤ 7) (l : col ≤ 12) where
  pub place_row : row_of (13 * row + col) ≡ row
  place_row = row_yes (13 * row + col) (omega arith) ∙ omega arith

  pub place_col : col_of (13 * row + col) ≡ col
  place_col = col_yes (13 * row + col) (omega arith) ∙ omega arith

  key_place : key_at row col ≡ 13 * row + col
  unfolding key_at
  key_place = rw (key_yes row col h l)

  pub key_low : key_at row col < 104
  key_low = rw key_place (omega arith)

  pub back_row : row_of (key_at row col) ≡ row
  back_row = rw key_place place_row

  pub back_col : col_of (key_at row col) ≡ col
  back_col = rw key_place place_col

  pub press_is : press_code row col ≡ 16 * row + col
  unfolding press_code
  press_is = rw (key_yes row col h l)

  pub code_place : (closed : Bool) → code (13 * row + col) closed ≡ code_at row col closed
  unfolding code
  code_place closed = rw (place_row, place_col)

  pub release_is : release_code row col ≡ 16 * row + col + 128
  unfolding release_code
  release_is = rw (key_yes row col h l)

-- the key of a change's code is the key that changed
pub code_key : (k : ℕ) (closed : Bool) → k < 104 → key_of (code k closed) ≡ k
unfolding key_of code
code_key k true h =
    let r = row_low k h in
    let l = col_low k h in
    let e = press_is (row_of k) (col_of k) r l in
    let row : press_code (row_of k) (col_of k) % 128 / 16 ≡ row_of k = omega arith in
    let col : press_code (row_of k) (col_of k) % 16 ≡ col_of k = omega arith in
    rw (row, col) (key_back k h)
code_key k false h =
    let r = row_low k h in
    let l = col_low k h in
    let e = release_is (row_of k) (col_of k) r l in
    let row : release_code (row_of k) (col_of k) % 128 / 16 ≡ row_of k = omega arith in
    let col : release_code (row_of k) (col_of k) % 16 ≡ col_of k = omega arith in
    rw (row, col) (key_back k h)

pub code_low : (k : ℕ) → code k true ≤ 0x7F
unfolding code
code_low k = press_low (row_of k) (col_of k)

pub code_byte : (k : ℕ) (closed : Bool) → code k closed < 256
unfolding code release_code
code_byte k true = let p = press_low (row_of k) (col_of k) in omega arith
code_byte k false = go (is_key (row_of k) (col_of k)) refl
  where
    go : (b : Bool) → is_key (row_of k) (col_of k) ≡ b → cond b (16 * row_of k + col_of k + 128) 0x7F < 256
    go true e = let r = key_row (row_of k) (col_of k) e in let c = key_col (row_of k) (col_of k) e in omega arith
    go false e = omega arith

pub sample_out : (s : List ℕ) (size k : ℕ) → key_in size k ≡ false → sample s size k ≡ false
unfolding sample
sample_out s size k e = rw e

-- no other contact matters, in any look
pub sample_own : (s t : List ℕ) (size k : ℕ) → bit (col_of k) (get_or s (row_of k) 0) ≡ bit (col_of k) (get_or t (row_of k) 0) → sample s size k ≡ sample t size k
unfolding sample
sample_own s t size k e = ap (λ (b : Bool). b if key_in size k else false) e

module _ (k : ℕ) (h : k < 104) where
  pub special_low : special k < 104
  unfolding special
  special_low = key_low (row_of k) 12 (row_low k h) (omega arith)

  pub special_row : row_of (special k) ≡ row_of k
  unfolding special
  special_row = back_row (row_of k) 12 (row_low k h) (omega arith)

  pub special_col : col_of (special k) ≡ 12
  unfolding special
  special_col = back_col (row_of k) 12 (row_low k h) (omega arith)

  pub special_same : special (special k) ≡ special k
  unfolding special
  special_same = rw special_row

  pub special_own : ltb (col_of k) 12 ≡ false → special k ≡ k
  unfolding special
  special_own e =
      let a = col_low k h in
      let b = ltb-false (col_of k) 12 e in
      let c : 12 ≡ col_of k = omega arith in
      ap (key_at (row_of k)) c ∙ key_back k h

module _ (s : List ℕ) (size row : ℕ) (h : row ≤ 7) where
  pub hidden_matrix : (col : ℕ) → col < 12 → hidden s size (13 * row + col) ≡ sample s size (13 * row + 12)
  unfolding hidden special
  hidden_matrix col l = rw (place_row row col h (omega arith), place_col row col h (omega arith), lt-ltb col 12 l, key_place row 12 h (omega arith))

  pub hidden_special : hidden s size (13 * row + 12) ≡ false
  unfolding hidden
  hidden_special = rw (place_col row 12 h (omega arith))

pub hidden_own : (s t : List ℕ) (size k : ℕ) → bit 12 (get_or s (row_of k) 0) ≡ bit 12 (get_or t (row_of k) 0) → hidden s size k ≡ hidden t size k
unfolding hidden
hidden_own s t size k e = go (dec_lt k 104)
  where
    go : Dec (k < 104) → hidden s size k ≡ hidden t size k
    go (no l) = rw (col_no k (omega arith))
    go (yes l) = ap (λ (b : Bool). ltb (col_of k) 12 && b) (sample_own s t size (special k) (rw (special_row k l, special_col k l) e))

module _ (size : ℕ) (ok : acceptable size ≡ true) where
  pub rows_most : size / 16 ≤ 8
  unfolding acceptable
  rows_most = leb-true (size / 16) 8 (and_right (leb 2 (size / 16)) _ (and_left (leb 2 (size / 16) && leb (size / 16) 8) _ ok))

  cols_most : size % 16 ≤ 12
  unfolding acceptable
  cols_most = leb-true (size % 16) 12 (and_right (leb 2 (size % 16)) _ (and_right (leb 2 (size / 16) && leb (size / 16) 8) _ ok))

  module _ (b : ℕ) where
    no_key_lem : 12 < b % 16 → key_at (b % 128 / 16) (b % 16) ≡ 104
    unfolding key_at
    no_key_lem h = rw (no_col (b % 128 / 16) (b % 16) h)

    not_in : 12 < b % 16 → in_size size (b % 128 / 16) (b % 16) ≡ false
    unfolding in_size
    not_in h =
        let c = cols_most in
        rw (le-ltb (b % 16) (size % 16) (omega arith), ne_eqb (b % 16) 12 (λ e. omega arith)) (and-false (ltb (b % 128 / 16) (size / 16)))

    none_in : in_size size 8 13 ≡ false
    unfolding in_size
    none_in = rw (le-ltb 8 (size / 16) rows_most)

    -- a byte whose low four bits are above 12 is no code, and no key that it could speak of is in the size
    pub code_in : in_size size (b % 128 / 16) (b % 16) ≡ key_in size (key_of b)
    unfolding key_in key_of
    code_in = go (dec_le (b % 16) 12)
      where
        go : Dec (b % 16 ≤ 12) → in_size size (b % 128 / 16) (b % 16) ≡ in_size size (row_of (key_at (b % 128 / 16) (b % 16))) (col_of (key_at (b % 128 / 16) (b % 16)))
        go (yes l) = rw (back_row (b % 128 / 16) (b % 16) (omega arith) l, back_col (b % 128 / 16) (b % 16) (omega arith) l)
        go (no l) = let h : 12 < b % 16 = omega arith in not_in h ∙ rw (no_key_lem h, row_no 104 (omega arith), col_no 104 (omega arith)) (sym none_in)
