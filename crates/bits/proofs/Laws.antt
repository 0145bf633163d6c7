-- Laws of bits, each for every width.
--
--    number_bits, bits_number               a number's bits, there and back
--    bits_low_only                          only a number's last w bits count
--    number_below                           n bits spell a number below 2 ^ n
--    bits_length, front_length              how many they are
--    front_all, front_filled                the next bits where a list begins; of a list that is too short, filled with 0
--    front_more, front_parts, front_rest    the next bits in two parts, in three; and all others behind them
--    number_there, number_back              a number written, then read; read, then written
--    numbers_there, numbers_back            the same of a list of numbers
--    number_fits, numbers_fit               what is read has the width
--    numbers_length, spelled_length         how many they are
--    widths_more                            a width more
--    numbers_front                          what is read lies in the front
-- Assumes nothing.
use Prim.Native.Nat.{ℕ, zero, suc, ◌+◌, ◌*◌, ◌-◌, ◌/◌, ◌%◌, ◌^◌, ◌≤◌, ◌<◌}
use native.Mathlib.Nat.{div-div-eq-div-mul, div-add-mod, pow-succ', suc-mul, mul-suc}
use native.Mathlib.Decide.{dec_lt}
use native.Mathlib.Omega.{arith}
use mathlib.Core.Path.{◌≡◌, refl, sym, ap, ◌∙◌}
use mathlib.Core.Bool.{Bool, true, false}
use mathlib.Core.List.{List, [], ◌∷◌, ◌++◌, append_assoc, append-nil}
use borrow.Author.Tests.{lt-ltb, ltb-true}
use lib.Dec.{eqb}
use lib.ListN.{length, drop, length-append, replicate}
use lib.Seq.{drop-nil, drop_at, drop-drop}
use Rattle.words.specs.Words.{all, bit}
use Rattle.words.proofs.Laws.{all_first, all_rest, all_cons}
use Rattle.bits.specs.Bits.{below, bits_of, spelled, front, value, number, numbers}

-- bit w + 1 of a number is bit w of its half
bit_half : (w x : ℕ) → bit (suc w) x ≡ bit w (x / 2)
unfolding bit
bit_half w x = rw (pow-succ' 2 w, ← div-div-eq-div-mul x 2 (2 ^ w))

bit_low : (k w x : ℕ) → k < w → bit k (2 ^ w + x) ≡ bit k x
unfolding bit
bit_low k zero x h = absurd (omega arith)
bit_low zero (suc w) x h =
    let e : (2 ^ suc w + x) / 1 % 2 ≡ x / 1 % 2 = omega arith in
    ap (λ (n : ℕ). eqb n 1) e
bit_low (suc k) (suc w) x h =
    let e : (2 ^ suc w + x) / 2 ≡ 2 ^ w + x / 2 = omega arith in
    bit_half k (2 ^ suc w + x) ∙ ap (bit k) e ∙ bit_low k w (x / 2) (omega arith) ∙ sym (bit_half k x)

bit_none : (w x : ℕ) → x < 2 ^ w → bit w x ≡ false
unfolding bit
bit_none zero x h = let e : x ≡ 0 = omega arith in rw e
bit_none (suc w) x h = bit_half w x ∙ bit_none w (x / 2) (omega arith)

bit_one : (w x : ℕ) → x < 2 ^ w → bit w (2 ^ w + x) ≡ true
unfolding bit
bit_one zero x h = let e : x ≡ 0 = omega arith in rw e
bit_one (suc w) x h =
    let e : (2 ^ suc w + x) / 2 ≡ 2 ^ w + x / 2 = omega arith in
    bit_half w (2 ^ suc w + x) ∙ ap (bit w) e ∙ bit_one w (x / 2) (omega arith)

pub bits_length : (w x : ℕ) → length (bits_of w x) ≡ w
unfolding bits_of
bits_length zero x = refl
bits_length (suc w) x = ap suc (bits_length w x)

bits_low : (w v x : ℕ) → w ≤ v → bits_of w (2 ^ v + x) ≡ bits_of w x
unfolding bits_of
bits_low zero v x h = refl
bits_low (suc w) v x h = rw (bit_low w v x h, bits_low w v x (omega arith))

bits_many : (w q x : ℕ) → bits_of w (2 ^ w * q + x) ≡ bits_of w x
bits_many w zero x = let e : 2 ^ w * 0 + x ≡ x = omega arith in rw e
bits_many w (suc q) x =
    let e : 2 ^ w * suc q + x ≡ 2 ^ w + (2 ^ w * q + x) = rw (mul-suc (2 ^ w) q) (omega arith) in
    rw e (bits_low w w (2 ^ w * q + x) (omega arith) ∙ bits_many w q x)

pub bits_low_only : (w x : ℕ) → bits_of w (x % 2 ^ w) ≡ bits_of w x
bits_low_only w x = sym (bits_many w (x / 2 ^ w) (x % 2 ^ w)) ∙ ap (bits_of w) (div-add-mod x (2 ^ w))

-- a number's bits, there and back
pub number_bits : (w x : ℕ) → x < 2 ^ w → value (bits_of w x) ≡ x
unfolding bits_of value
number_bits zero x h = omega arith
number_bits (suc w) x h = go (dec_lt x (2 ^ w)) (number_bits w)
  where
    go : Dec (x < 2 ^ w) → ((y : ℕ) → y < 2 ^ w → value (bits_of w y) ≡ y) → value (bit w x ∷ bits_of w x) ≡ x
    go (yes l) i = rw (bit_none w x l) (i x l)
    go (no l) i =
        let y = x - 2 ^ w in
        let e : x ≡ 2 ^ w + y = omega (arith, l) in
        let s : y < 2 ^ w = omega (arith, l) in
        rw e (rw (bit_one w y s, bits_low w w y (omega arith), bits_length w y, i y s))

wider : (n x : ℕ) → x < 2 ^ n → x < 2 ^ suc n
wider n x h = omega arith

higher : (n x : ℕ) → x < 2 ^ n → 2 ^ n + x < 2 ^ suc n
higher n x h = omega arith

pub number_below : (bits : List Bool) → value bits < 2 ^ length bits
unfolding value
number_below [] = omega arith
number_below (true ∷ bits) = higher (length bits) (value bits) (number_below bits)
number_below (false ∷ bits) = wider (length bits) (value bits) (number_below bits)

pub bits_number : (bits : List Bool) → bits_of (length bits) (value bits) ≡ bits
unfolding bits_of value
bits_number [] = refl
bits_number (true ∷ bits) =
    let n = length bits in
    rw (bit_one n (value bits) (number_below bits), bits_low n n (value bits) (omega arith), bits_number bits)
bits_number (false ∷ bits) = rw (bit_none (length bits) (value bits) (number_below bits), bits_number bits)

-- the next bits, 0 past the end
pub front_length : (w : ℕ) (bits : List Bool) → length (front w bits) ≡ w
unfolding front
front_length zero bits = refl
front_length (suc w) [] = ap suc (front_length w [])
front_length (suc w) (b ∷ bits) = ap suc (front_length w bits)

pub front_all : (bits rest : List Bool) → front (length bits) (bits ++ rest) ≡ bits
unfolding front
front_all [] rest = refl
front_all (b ∷ bits) rest = ap (λ (l : List Bool). b ∷ l) (front_all bits rest)

front_none : (k : ℕ) → front k [] ≡ replicate k false
unfolding front
front_none zero = refl
front_none (suc k) = ap (λ (l : List Bool). false ∷ l) (front_none k)

pub front_filled : (bits : List Bool) (k : ℕ) → front (length bits + k) bits ≡ bits ++ replicate k false
unfolding front
front_filled [] k = let e : 0 + k ≡ k = omega arith in rw e (front_none k)
front_filled (b ∷ bits) k =
    let e : suc (length bits) + k ≡ suc (length bits + k) = omega arith in
    rw e (ap (λ (l : List Bool). b ∷ l) (front_filled bits k))

pub front_more : (v w : ℕ) (bits : List Bool) → front (v + w) bits ≡ front v bits ++ front w (drop v bits)
unfolding front
front_more zero w bits = let e : 0 + w ≡ w = omega arith in rw e
front_more (suc v) w [] =
    let e : suc v + w ≡ suc (v + w) = omega arith in
    rw e (ap (λ (l : List Bool). false ∷ l) (rw drop-nil at (front_more v w [])))
front_more (suc v) w (b ∷ bits) =
    let e : suc v + w ≡ suc (v + w) = omega arith in
    rw e (ap (λ (l : List Bool). b ∷ l) (front_more v w bits))

pub front_parts : (u v w : ℕ) (bits : List Bool) → front (u + (v + w)) bits ≡ front u bits ++ (front v (drop u bits) ++ front w (drop (u + v) bits))
front_parts u v w bits = rw (front_more u (v + w) bits, front_more v w (drop u bits), drop-drop v u bits)

pub front_rest : (w : ℕ) (bits : List Bool) → w ≤ length bits → front w bits ++ drop w bits ≡ bits
unfolding front
front_rest zero bits h = refl
front_rest (suc w) [] h = absurd (omega arith)
front_rest (suc w) (b ∷ bits) h = ap (λ (l : List Bool). b ∷ l) (front_rest w bits (omega arith))

-- one number of w bits
module _ (w : ℕ) where
  pub number_there : (x : ℕ) (rest : List Bool) → below w x ≡ true → number w (bits_of w x ++ rest) ≡ x
  unfolding below number
  number_there x rest h =
      let e = rw (bits_length w x) at (front_all (bits_of w x) rest) in
      ap value e ∙ number_bits w x (ltb-true x (2 ^ w) h)

  pub number_back : (bits : List Bool) → bits_of w (number w bits) ≡ front w bits
  unfolding number
  number_back bits = rw (front_length w bits) at (bits_number (front w bits))

  pub number_fits : (bits : List Bool) → below w (number w bits) ≡ true
  unfolding below number
  number_fits bits = lt-ltb (value (front w bits)) (2 ^ w) (rw (front_length w bits) at (number_below (front w bits)))

-- numbers of w bits each
module _ (w : ℕ) where
  pub numbers_length : (n : ℕ) (bits : List Bool) → length (numbers n w bits) ≡ n
  unfolding numbers
  numbers_length zero bits = refl
  numbers_length (suc n) bits = ap suc (numbers_length n (drop w bits))

  pub numbers_there : (xs : List ℕ) (rest : List Bool) → all (below w) xs ≡ true → numbers (length xs) w (spelled w xs ++ rest) ≡ xs
  unfolding numbers spelled
  numbers_there [] rest h = refl
  numbers_there (x ∷ xs) rest h =
      let tail = spelled w xs ++ rest in
      rw (append_assoc (bits_of w x) (spelled w xs) rest, number_there w x tail (all_first (below w) x xs h), drop_at (bits_of w x) tail w (bits_length w x))
      (ap (λ (l : List ℕ). x ∷ l) (numbers_there xs rest (all_rest (below w) x xs h)))

  pub widths_more : (n : ℕ) → suc n * w ≡ w + n * w
  widths_more n = suc-mul n w ∙ omega arith

  pub numbers_back : (n : ℕ) (bits : List Bool) → spelled w (numbers n w bits) ≡ front (n * w) bits
  unfolding numbers spelled front
  numbers_back zero bits = let e : 0 * w ≡ 0 = omega arith in rw e
  numbers_back (suc n) bits = rw (widths_more n, front_more w (n * w) bits, number_back w bits, numbers_back n (drop w bits))

  pub numbers_fit : (n : ℕ) (bits : List Bool) → all (below w) (numbers n w bits) ≡ true
  unfolding numbers all
  numbers_fit zero bits = refl
  numbers_fit (suc n) bits = all_cons (below w) (number w bits) (numbers n w (drop w bits)) (number_fits w bits) (numbers_fit n (drop w bits))

  pub spelled_length : (xs : List ℕ) → length (spelled w xs) ≡ length xs * w
  unfolding spelled
  spelled_length [] = let e : 0 * w ≡ 0 = omega arith in sym e
  spelled_length (x ∷ xs) = length-append (bits_of w x) (spelled w xs) ∙ rw (bits_length w x, spelled_length xs) (sym (widths_more (length xs)))

  pub numbers_front : (n : ℕ) (bits : List Bool) → numbers n w (front (n * w) bits) ≡ numbers n w bits
  numbers_front n bits =
      let xs = numbers n w bits in
      let e = numbers_there xs [] (numbers_fit n bits) in
      rw (append-nil (spelled w xs), numbers_back n bits, numbers_length n bits) at e
