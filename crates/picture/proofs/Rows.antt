-- Laws of the rows' masks.
--
--    mask_of_row                          bit c of a row's mask is 1 exactly if the key in column c of that row is held
--    digit_low                            a bool as a number
--    MaskFrom keys left mask              the mask of the keys behind those that are left
--    mask_none, mask_next, mask_whole     of it: all are left, one less, none
--    mask_low                             it has at most 13 bits
--    codes_none, codes_first              the codes of a mask: of 0, and of any other, the first before the rest
--    first_place, first_in_lem                the first key's place, and its weight
--    rows_from                            the codes from a row on, by its mask and by those behind it
--    order_by_masks                       the held keys' codes, in order, are those by the rows' masks, the rows with mask 0 left out
--    more_in, row_passed                  a row's mask that is not 0, and one that is
--    more_here, more_later, more_end      whether a key is held from a row on
--    shown_from, shown_row, shown_here, shown_later, shown_end    what a register shows of the keys from a row on
--    mask_room                            there is no mask past the last row
-- Assumes nothing.
use Prim.Native.Nat.{ℕ, zero, suc, ◌+◌, ◌-◌, ◌*◌, ◌/◌, ◌%◌, ◌^◌, ◌≤◌, ◌<◌}
use native.Mathlib.Nat.{pow-le-pow_right}
use native.Mathlib.Numerals.{add-one}
use native.Mathlib.Decide.{dec_lt}
use native.Mathlib.Omega.{arith}
use mathlib.Core.Path.{◌≡◌, refl, sym, ap, ◌∙◌}
use mathlib.Core.Bool.{Bool, true, false}
use mathlib.Core.List.{List, [], ◌∷◌, ◌++◌, append-nil, append_assoc}
use lib.ListN.{length, get_or, take, drop, length-take, length-drop, take-append-drop, get_or-eq_default, drop_of_length-le}
use lib.Seq.{drop-cons, get_or-take, get_or-drop, drop-drop, drop-append_seam}
use lib.Count.{count_trailing_zeros}
use lib.Dec.{eqb}
use mir.Val.{bool_byte}
use borrow.Author.Tests.{ne_eqb}
use Rattle.words.specs.Words.{◌if◌, ◌else◌, bit, table}
use Rattle.words.specs.Bits.{binary}
use Rattle.words.proofs.Bits.{binary_bit, binary_below}
use Rattle.words.proofs.Tables.{table_at}
use Rattle.keys.specs.Keys.{code}
use Rattle.keys.proofs.Laws.{code_place, press_is}
use Rattle.picture.specs.Picture.{held_codes, more, nth}
use Rattle.picture.specs.Masks.{mask_at, masks, codes_in, first_of, but_first, by_masks, codes_from}
use Rattle.picture.proofs.Laws.{nth_first, nth_later}

pub mask_of_row : (hs : List Bool) (row c : ℕ) → c < 13 → bit c (mask_at hs row) ≡ get_or hs (13 * row + c) false
unfolding mask_at
mask_of_row hs row c h = binary_bit (take 13 (drop (13 * row) hs)) c ∙ get_or-take 13 (drop (13 * row) hs) c false h ∙ get_or-drop (13 * row) hs c false

-- a bool as a number, as the code has it
digit_is : (b : Bool) → bool_byte b ≡ (1 if b else 0)
digit_is true = refl
digit_is false = refl

pub digit_low : (b : Bool) → bool_byte b ≤ 1
digit_low true = omega arith
digit_low false = omega arith

-- keys, of which these are left, and the mask of those behind them
pub record MaskFrom (keys left : List Bool) (mask : ℕ) : Type 0 where
  pub behind : left ++ drop (length left) keys ≡ keys
  pub is : mask ≡ binary (drop (length left) keys)

module _ (keys : List Bool) where
  pub mask_none : (left : List Bool) → left ≡ keys → MaskFrom keys left 0
  unfolding binary
  mask_none left e = let f : drop (length keys) keys ≡ [] = drop_of_length-le keys (omega arith) in record { behind = rw (e, f, append-nil keys); is = rw (e, f) }

  pub mask_low : (left : List Bool) (mask : ℕ) → length keys ≤ 13 → MaskFrom keys left mask → mask < 8192
  mask_low left mask few h =
      let rest = drop (length left) keys in
      let n : length rest ≤ 13 = rw (length-drop (length left) keys) (omega arith) in
      let most : 2 ^ length rest ≤ 2 ^ 13 = pow-le-pow_right (omega arith) n in
      let low = binary_below rest in
      omega (arith, h.is)

  pub mask_next : (left less : List Bool) (one : Bool) (mask : ℕ) → left ≡ less ++ (one ∷ []) → MaskFrom keys left mask → MaskFrom keys less (bool_byte one + 2 * mask)
  unfolding binary
  mask_next left less one mask e h =
      let rest = drop (length left) keys in
      let f : less ++ (one ∷ rest) ≡ keys = sym (append_assoc less (one ∷ []) rest) ∙ ap (λ (l : List Bool). l ++ rest) (sym e) ∙ h.behind in
      let g : drop (length less) keys ≡ one ∷ rest = ap (drop (length less)) (sym f) ∙ drop-append_seam less (one ∷ rest) in
      record {
        behind = rw g f;
        is = rw (g, h.is, digit_is one);
      }

  pub mask_whole : (left : List Bool) (mask : ℕ) → length left ≡ 0 → MaskFrom keys left mask → mask ≡ binary keys
  mask_whole left mask e h = h.is ∙ ap (λ (n : ℕ). binary (drop n keys)) e

-- the codes of a mask
pub codes_none : (c w : ℕ) → codes_in c w 0 ≡ []
unfolding codes_in
codes_none c zero = refl
codes_none c (suc w) = codes_none (c + 1) w

module _ (c w m : ℕ) where
  codes_odd : m % 2 ≡ 1 → codes_in c (suc w) m ≡ c ∷ codes_in (c + 1) w (m / 2)
  unfolding codes_in
  codes_odd e = rw e

  codes_even : m % 2 ≡ 0 → codes_in c (suc w) m ≡ codes_in (c + 1) w (m / 2)
  unfolding codes_in
  codes_even e = rw e

module _ (w m : ℕ) where
  first_odd : m % 2 ≡ 1 → count_trailing_zeros (suc w) m ≡ 0
  unfolding count_trailing_zeros
  first_odd e = rw e

  first_even : m % 2 ≡ 0 → count_trailing_zeros (suc w) m ≡ suc (count_trailing_zeros w (m / 2))
  unfolding count_trailing_zeros
  first_even e = rw e

-- a number is even or odd
halves : {P : Type 0} → (m : ℕ) → (m % 2 ≡ 0 → P) → (m % 2 ≡ 1 → P) → P
halves {P = P} m even odd = go (m % 2) refl
  where
    go : (d : ℕ) → m % 2 ≡ d → P
    go zero e = even e
    go (suc zero) e = odd e
    go (suc (suc d)) e = absurd (omega arith)

first_low : (w m : ℕ) → 1 ≤ m → m < 2 ^ w → count_trailing_zeros w m < w
first_low zero m h l = absurd (omega arith)
first_low (suc w) m h l = halves m
    (λ e. rw (first_even w m e) (let i = first_low w (m / 2) (omega arith) (omega arith) in omega arith))
    (λ e. rw (first_odd w m e) (omega arith))

first_weight : (w m : ℕ) → 1 ≤ m → m < 2 ^ w → 2 ^ count_trailing_zeros w m ≤ m
first_weight zero m h l = absurd (omega arith)
first_weight (suc w) m h l = halves m
    (λ e. rw (first_even w m e) (let i = first_weight w (m / 2) (omega arith) (omega arith) in omega arith))
    (λ e. rw (first_odd w m e) h)

Split : ℕ → ℕ → ℕ → Type 0
Split w c m = codes_in c w m ≡ (c + count_trailing_zeros w m) ∷ codes_in c w (m - 2 ^ count_trailing_zeros w m)

module _ (w c m : ℕ) (h : 1 ≤ m) where
  split_odd : m % 2 ≡ 1 → Split (suc w) c m
  unfolding Split
  split_odd e =
      let z : c + 0 ≡ c = omega arith in
      let f : (m - 1) % 2 ≡ 0 = omega arith in
      let g : (m - 1) / 2 ≡ m / 2 = omega arith in
      rw (codes_odd c w m e, first_odd w m e, z) (ap (λ (l : List ℕ). c ∷ l) (sym (codes_even c w (m - 1) f ∙ ap (codes_in (c + 1) w) g)))

  split_even : m / 2 < 2 ^ w → m % 2 ≡ 0 → Split w (c + 1) (m / 2) → Split (suc w) c m
  unfolding Split
  split_even l e i =
      let t = count_trailing_zeros w (m / 2) in
      let k = first_weight w (m / 2) (omega arith) l in
      let z : c + suc t ≡ c + 1 + t = omega arith in
      let f : (m - 2 ^ suc t) % 2 ≡ 0 = omega arith in
      let g : (m - 2 ^ suc t) / 2 ≡ m / 2 - 2 ^ t = omega arith in
      rw (codes_even c w m e, first_even w m e, z) (i ∙ ap (λ (l : List ℕ). (c + 1 + t) ∷ l) (sym (codes_even c w (m - 2 ^ suc t) f ∙ ap (codes_in (c + 1) w) g)))

codes_split : (w c m : ℕ) → 1 ≤ m → m < 2 ^ w → Split w c m
codes_split zero c m h l = absurd (omega arith)
codes_split (suc w) c m h l = halves m (λ e. split_even w c m h (omega arith) e (codes_split w (c + 1) (m / 2) (omega arith) (omega arith))) (split_odd w c m h)

module _ (m : ℕ) (h : 1 ≤ m) (l : m < 65536) where
  pub first_place : first_of m < 16
  unfolding first_of
  first_place = first_low 16 m h l

  pub first_in_lem : 2 ^ first_of m ≤ m
  unfolding first_of
  first_in_lem = first_weight 16 m h l

  pub codes_first : (c : ℕ) → codes_in c 16 m ≡ (c + first_of m) ∷ codes_in c 16 (but_first m)
  unfolding first_of but_first Split
  codes_first c = codes_split 16 c m h l

-- the rows of a table
skipped : (row m : ℕ) → ([] if eqb m 0 else codes_in (16 * row) 16 m) ≡ codes_in (16 * row) 16 m
skipped row zero = sym (codes_none (16 * row) 16)
skipped row (suc m) = rw (ne_eqb (suc m) 0 (λ e. omega arith))

module _ (ms : List ℕ) (row : ℕ) where
  past_none : length ms ≤ row → by_masks row (drop row ms) ≡ []
  unfolding by_masks
  past_none h = rw (drop_of_length-le ms {i = row} h)

  past_next : length ms ≤ row → by_masks (row + 1) (drop (row + 1) ms) ≡ []
  unfolding by_masks
  past_next h = rw (drop_of_length-le ms {i = row + 1} (omega arith))

  pub rows_from : by_masks row (drop row ms) ≡ codes_from ms row (get_or ms row 0)
  unfolding by_masks
  rows_from = go (dec_lt row (length ms))
    where
      go : Dec (row < length ms) → by_masks row (drop row ms) ≡ codes_from ms row (get_or ms row 0)
      go (yes h) = rw (drop-cons ms row 0 h, skipped row (get_or ms row 0), add-one row)
      go (no h) = rw (past_none (omega arith), get_or-eq_default ms 0 {n = row} (omega arith), codes_none (16 * row) 16) (sym (past_next (omega arith)))

codes_join : (k : ℕ) (hs js : List Bool) → held_codes k (hs ++ js) ≡ held_codes k hs ++ held_codes (k + length hs) js
unfolding held_codes
codes_join k [] js = let e : k + 0 ≡ k = omega arith in rw e
codes_join k (true ∷ hs) js = let e : k + suc (length hs) ≡ k + 1 + length hs = omega arith in rw (codes_join (k + 1) hs js, e)
codes_join k (false ∷ hs) js = let e : k + suc (length hs) ≡ k + 1 + length hs = omega arith in rw (codes_join (k + 1) hs js, e)

-- the bits of a row's keys, and three more
width : List Bool → ℕ
width [] = 3
width (h ∷ hs) = suc (width hs)

width_is : (hs : List Bool) → width hs ≡ length hs + 3
unfolding width
width_is [] = refl
width_is (h ∷ hs) = ap suc (width_is hs) ∙ omega arith

press_code_lem : (row c : ℕ) → row ≤ 7 → c ≤ 12 → code (13 * row + c) true ≡ 16 * row + c
press_code_lem row c h l = code_place row c h l true ∙ press_is row c h l

row_codes : (row : ℕ) → row ≤ 7 → (c : ℕ) (hs : List Bool) → c + length hs ≤ 13 → held_codes (13 * row + c) hs ≡ codes_in (16 * row + c) (width hs) (binary hs)
unfolding held_codes width binary
row_codes row h c [] l = sym (codes_none (16 * row + c) 3)
row_codes row h c (true ∷ hs) l =
    let m = binary hs in
    let e : (1 + 2 * m) % 2 ≡ 1 = omega arith in
    let f : (1 + 2 * m) / 2 ≡ m = omega arith in
    let i : 13 * row + c + 1 ≡ 13 * row + (c + 1) = omega arith in
    let j : 16 * row + c + 1 ≡ 16 * row + (c + 1) = omega arith in
    rw (codes_odd (16 * row + c) (width hs) (1 + 2 * m) e, f, i, j, press_code_lem row c h (omega arith), row_codes row h (c + 1) hs (omega arith))
row_codes row h c (false ∷ hs) l =
    let m = binary hs in
    let e : (0 + 2 * m) % 2 ≡ 0 = omega arith in
    let f : (0 + 2 * m) / 2 ≡ m = omega arith in
    let i : 13 * row + c + 1 ≡ 13 * row + (c + 1) = omega arith in
    let j : 16 * row + c + 1 ≡ 16 * row + (c + 1) = omega arith in
    rw (codes_even (16 * row + c) (width hs) (0 + 2 * m) e, f, i, j, row_codes row h (c + 1) hs (omega arith))

-- the keys of a whole table
module _ (hs : List Bool) (long : length hs ≡ 104) where
  row_of_codes : (row : ℕ) → row < 8 → held_codes (13 * row) (drop (13 * row) hs) ≡ codes_in (16 * row) 16 (mask_at hs row) ++ held_codes (13 * (row + 1)) (drop (13 * (row + 1)) hs)
  unfolding mask_at
  row_of_codes row h =
      let rest = drop (13 * row) hs in
      let keys = take 13 rest in
      let n : length keys ≡ 13 = rw (length-take 13 rest, length-drop (13 * row) hs, long) (omega arith) in
      let w : width keys ≡ 16 = width_is keys ∙ ap (λ (k : ℕ). k + 3) n in
      let i : 13 * row + 0 ≡ 13 * row = omega arith in
      let j : 16 * row + 0 ≡ 16 * row = omega arith in
      let k : 13 * row + 13 ≡ 13 * (row + 1) = omega arith in
      ap (held_codes (13 * row)) (sym (take-append-drop 13 rest))
      ∙ codes_join (13 * row) keys (drop 13 rest)
      ∙ rw (n, drop-drop 13 (13 * row) hs, k) (ap (λ (l : List ℕ). l ++ held_codes (13 * (row + 1)) (drop (13 * (row + 1)) hs)) (rw (i, j, w) at (row_codes row (omega arith) 0 keys (rw n (omega arith)))))

  masks_at : (row : ℕ) → row < 8 → get_or (masks hs) row 0 ≡ mask_at hs row
  unfolding masks
  masks_at row h = table_at (mask_at hs) 8 row 0 h

  order_from : (k row : ℕ) → row + k ≡ 8 → held_codes (13 * row) (drop (13 * row) hs) ≡ by_masks row (drop row (masks hs))
  unfolding held_codes by_masks masks table
  order_from zero row e =
      let r : row ≡ 8 = omega arith in
      rw (r, drop_of_length-le hs {i = 104} (omega (arith, long)))
  order_from (suc k) row e =
      row_of_codes row (omega arith)
      ∙ rw (order_from k (row + 1) (omega arith)) (sym (rows_from (masks hs) row ∙ ap (codes_from (masks hs) row) (masks_at row (omega arith))))

  pub order_by_masks : held_codes 0 hs ≡ by_masks 0 (masks hs)
  order_by_masks = order_from 8 0 refl

-- a walk over the rows
module _ (ms : List ℕ) (row : ℕ) where
  module _ (m : ℕ) (h : 1 ≤ m) (l : m < 65536) where
    split_first : codes_from ms row m ≡ (16 * row + first_of m) ∷ codes_from ms row (but_first m)
    split_first = ap (λ (cs : List ℕ). cs ++ by_masks (row + 1) (drop (row + 1) ms)) (codes_first m h l (16 * row))

    pub more_in : more (codes_from ms row m) ≡ 128
    unfolding more
    more_in = rw split_first

    pub shown_here : (n : ℕ) → n < 1 → nth n (codes_from ms row m) ≡ 16 * row + first_of m + more (codes_from ms row (but_first m))
    shown_here n z = rw split_first (nth_first n (16 * row + first_of m) (codes_from ms row (but_first m)) z)

    pub shown_later : (n : ℕ) → 1 ≤ n → nth n (codes_from ms row m) ≡ nth (n - 1) (codes_from ms row (but_first m))
    shown_later n z = rw split_first (nth_later n (16 * row + first_of m) (codes_from ms row (but_first m)) z)

  module _ (m : ℕ) (h : m < 1) where
    pub row_passed : codes_from ms row m ≡ by_masks (row + 1) (drop (row + 1) ms)
    row_passed = let e : m ≡ 0 = omega arith in rw (e, codes_none (16 * row) 16)

    pub shown_row : (n o : ℕ) → o ≡ get_or ms (row + 1) 0 → nth n (codes_from ms row m) ≡ nth n (codes_from ms (row + 1) o)
    shown_row n o e = ap (nth n) (row_passed ∙ rows_from ms (row + 1) ∙ ap (codes_from ms (row + 1)) (sym e))

  module _ (m : ℕ) (e : m ≡ get_or ms row 0) where
    here : by_masks row (drop row ms) ≡ codes_from ms row m
    here = rows_from ms row ∙ ap (codes_from ms row) (sym e)

    pub more_here : 1 ≤ m → m < 65536 → more (by_masks row (drop row ms)) ≡ 128
    more_here h l = ap more here ∙ more_in m h l

    pub more_later : m < 1 → more (by_masks row (drop row ms)) ≡ more (by_masks (row + 1) (drop (row + 1) ms))
    more_later h = ap more (here ∙ row_passed m h)

    pub shown_from : (n : ℕ) → nth n (by_masks row (drop row ms)) ≡ nth n (codes_from ms row m)
    shown_from n = ap (nth n) here

    -- no mask past the last row
    pub mask_room : length ms ≡ 8 → m < 65536 → m ≤ 65536 * (8 - row)
    mask_room long l = go (dec_lt row 8)
      where
        go : Dec (row < 8) → m ≤ 65536 * (8 - row)
        go (yes h) = omega arith
        go (no h) = let z : m ≡ 0 = e ∙ get_or-eq_default ms 0 {n = row} (omega arith) in omega arith

  module _ (h : length ms ≤ row) where
    pub more_end : more (by_masks row (drop row ms)) ≡ 0
    unfolding more
    more_end = rw (past_none ms row h)

    pub shown_end : (n m : ℕ) → m < 1 → nth n (codes_from ms row m) ≡ 0x7F
    unfolding nth
    shown_end n m z = rw (row_passed m z, past_next ms row h)
