-- Laws of the numbers that parts of bits spell.
--
--    power_positive, one_shifted              a power of 2, and one in 32 bits
--    value_join, value_bits                   the number of two lists of bits, and of a number's last bits
--    number_window                            a number of w bits among n
--    number_most                              24 bits are below 2 ^ 24
--    high_byte, middle_byte, low_byte         the bytes of 24 bits
--    number_bytes                             24 bits by their bytes
--    byte_there, three_there                  a byte where it lies, and three
--    window_fits, window_there                a number of w bits by shifts in 32 bits
--    kept_fits, joined_number                 the first bits of a byte and a number behind them, joined by shifts in 32 bits
-- Assumes nothing.
use Prim.Native.Nat.{ℕ, zero, suc, ◌+◌, ◌*◌, ◌-◌, ◌/◌, ◌%◌, ◌^◌, ◌≤◌, ◌<◌}
use native.Mathlib.Nat.{mul_assoc, add-mul, mul-add-div_right, mul-add-mod_self_right, le-mul_of_pos_right}
use native.Mathlib.Nat.{pow-suc, one-le-pow, pow-le-pow_right, mod-lt, mod-eq_of_lt, div-eq_of_lt}
use native.Mathlib.Decide.{dec_lt}
use native.Mathlib.Omega.{arith}
use mathlib.Core.Path.{◌≡◌, refl, sym, ap, ◌∙◌}
use mathlib.Core.Bool.{Bool, true, false}
use mathlib.Core.List.{List, [], ◌∷◌, ◌++◌}
use borrow.Author.Tests.{lt-ltb}
use lib.ListN.{length, get_or, take, drop, replicate, length-append, length-drop, length-replicate}
use lib.ListN.{take-append-drop, drop_of_length-le, get_or-eq_default}
use lib.Seq.{length-take-le, drop-cons}
use Rattle.words.proofs.Bits.{one_shifted as shifted}
use Rattle.bits.specs.Bits.{below, bits_of, spelled, front, value, number, bits_from}
use Rattle.bits.proofs.Laws.{bits_length, bits_low_only, number_bits, number_below, front_length, front_filled, front_parts, number_there}
use Rattle.bits.proofs.Laid.{spelled_rest, from_more}

pub power_positive : (n : ℕ) → 0 < 2 ^ n
power_positive n = one-le-pow n 2 (omega arith)

power_add : (m n : ℕ) → 2 ^ (m + n) ≡ 2 ^ m * 2 ^ n
power_add m zero = let e : m + 0 ≡ m = omega arith in rw e (omega arith)
power_add m (suc n) =
    let e : m + suc n ≡ suc (m + n) = omega arith in
    rw (e, pow-suc 2 (m + n), power_add m n, pow-suc 2 n) (mul_assoc (2 ^ m) (2 ^ n) 2)

pub value_join : (a b : List Bool) → value (a ++ b) ≡ value a * 2 ^ length b + value b
unfolding value
value_join [] b = omega arith
value_join (true ∷ a) b =
    rw (length-append a b, power_add (length a) (length b), value_join a b, add-mul (2 ^ length a) (value a) (2 ^ length b)) (omega arith)
value_join (false ∷ a) b = value_join a b

pub value_bits : (w x : ℕ) → value (bits_of w x) ≡ x % 2 ^ w
value_bits w x = ap value (sym (bits_low_only w x)) ∙ number_bits w (x % 2 ^ w) (mod-lt x (power_positive w))

-- the middle one of three numbers
middle : (a b c m n : ℕ) → b < m → c < n → (a * (m * n) + (b * n + c)) / n % m ≡ b
middle a b c m n h k =
    let s : a * (m * n) + (b * n + c) ≡ (a * m + b) * n + c = rw (add-mul (a * m) b n, mul_assoc a m n) (omega arith) in
    let d : ((a * m + b) * n + c) / n ≡ a * m + b = mul-add-div_right (omega arith) (a * m + b) c ∙ rw (div-eq_of_lt k) (omega arith) in
    rw (s, d) (mul-add-mod_self_right a m b ∙ mod-eq_of_lt h)

front_below : (w : ℕ) (bits : List Bool) → value (front w bits) < 2 ^ w
front_below w bits = rw (front_length w bits) at (number_below (front w bits))

number_middle : (d w e : ℕ) (bits : List Bool) → number w (drop d bits) ≡ number (d + (w + e)) bits / 2 ^ e % 2 ^ w
unfolding number
number_middle d w e bits =
    let a = front d bits in
    let b = front w (drop d bits) in
    let c = front e (drop (d + w) bits) in
    let l : length (b ++ c) ≡ w + e = length-append b c ∙ rw (front_length w (drop d bits), front_length e (drop (d + w) bits)) in
    let j : value (a ++ (b ++ c)) ≡ value a * (2 ^ w * 2 ^ e) + (value b * 2 ^ e + value c) =
    value_join a (b ++ c) ∙ rw (l, power_add w e, value_join b c, front_length e (drop (d + w) bits)) in
    rw (front_parts d w e bits, j)
    (sym (middle (value a) (value b) (value c) (2 ^ w) (2 ^ e) (front_below w (drop d bits)) (front_below e (drop (d + w) bits))))

pub number_window : (n d w : ℕ) (bits : List Bool) → d + w ≤ n → number w (drop d bits) ≡ number n bits / 2 ^ (n - d - w) % 2 ^ w
number_window n d w bits h =
    let e : d + (w + (n - d - w)) ≡ n = omega arith in
    rw e at (number_middle d w (n - d - w) bits)

-- three bytes
pub number_most : (bits : List Bool) → number 24 bits < 16777216
unfolding number
number_most bits = front_below 24 bits

module _ (bits : List Bool) where
  pub high_byte : number 24 bits / 65536 ≡ number 8 bits
  high_byte = omega (arith, number_most bits, number_window 24 0 8 bits (omega arith))

  pub middle_byte : number 24 bits / 256 % 256 ≡ number 8 (drop 8 bits)
  middle_byte = sym (number_window 24 8 8 bits (omega arith))

  pub low_byte : number 24 bits % 256 ≡ number 8 (drop 16 bits)
  low_byte = omega (arith, number_window 24 16 8 bits (omega arith))

  pub number_bytes : number 24 bits ≡ number 8 bits * 65536 + number 8 (drop 8 bits) * 256 + number 8 (drop 16 bits)
  number_bytes = omega (arith, high_byte, middle_byte, low_byte)

byte_first : (x : ℕ) (rest : List ℕ) → x ≤ 255 → number 8 (spelled 8 (x ∷ rest)) ≡ x
unfolding spelled below
byte_first x rest h = number_there 8 x (spelled 8 rest) (lt-ltb x 256 (omega arith))

no_byte : number 8 (spelled 8 []) ≡ 0
unfolding spelled number front value
no_byte = refl

pub byte_there : (bytes : List ℕ) (at : ℕ) → get_or bytes at 0 ≤ 255 → number 8 (bits_from bytes (at * 8)) ≡ get_or bytes at 0
unfolding bits_from
byte_there bytes at h = rw (spelled_rest 8 at bytes) (go (dec_lt at (length bytes)))
  where
    go : Dec (at < length bytes) → number 8 (spelled 8 (drop at bytes)) ≡ get_or bytes at 0
    go (yes l) = rw (drop-cons bytes at 0 l) (byte_first (get_or bytes at 0) (drop (suc at) bytes) h)
    go (no l) =
        let f : length bytes ≤ at = omega (arith, l) in
        rw (drop_of_length-le bytes f, get_or-eq_default bytes 0 f) no_byte

byte_is : (bytes : List ℕ) (at x : ℕ) → (x ≡ get_or bytes at 0) × (x ≤ 255) → number 8 (bits_from bytes (at * 8)) ≡ x
byte_is bytes at x h = let e = h.0 in byte_there bytes at (rw e at h.1) ∙ sym e

pub three_there : (bytes : List ℕ) (at x y z : ℕ) → (x ≡ get_or bytes at 0) × (x ≤ 255) → (y ≡ get_or bytes (at + 1) 0) × (y ≤ 255)
    → (z ≡ get_or bytes (at + 2) 0) × (z ≤ 255) → x * 65536 + y * 256 + z ≡ number 24 (bits_from bytes (at * 8))
three_there bytes at x y z f g h =
    let bits = bits_from bytes (at * 8) in
    let p : at * 8 + 8 ≡ (at + 1) * 8 = omega arith in
    let q : at * 8 + 16 ≡ (at + 2) * 8 = omega arith in
    let second : number 8 (drop 8 bits) ≡ y = rw (from_more bytes (at * 8) 8, p) (byte_is bytes (at + 1) y g) in
    let third : number 8 (drop 16 bits) ≡ z = rw (from_more bytes (at * 8) 16, q) (byte_is bytes (at + 2) z h) in
    sym (rw (number_bytes bits, byte_is bytes at x f, second, third))

-- a number of w bits by shifts
pub one_shifted : (w : ℕ) → w ≤ 13 → 1 * 2 ^ w % 4294967296 ≡ 2 ^ w
one_shifted w h = shifted w 32 (omega arith)

pub window_fits : (v w : ℕ) → w ≤ 13 → v % (1 * 2 ^ w % 4294967296) < 65536
window_fits v w h =
    let l : 2 ^ w ≤ 2 ^ 13 = pow-le-pow_right (omega arith) h in
    let m = mod-lt v (power_positive w) in
    rw (one_shifted w h) (omega arith)

pub window_there : (bytes : List ℕ) (p w v : ℕ) → w ≤ 13 → v ≡ number 24 (bits_from bytes (p / 8 * 8))
    → v / 2 ^ (24 - p % 8 - w) % (1 * 2 ^ w % 4294967296) ≡ number w (bits_from bytes p)
window_there bytes p w v h e =
    let s : p / 8 * 8 + p % 8 ≡ p = omega arith in
    let d = rw s at (from_more bytes (p / 8 * 8) (p % 8)) in
    let n = rw d at (number_window 24 (p % 8) w (bits_from bytes (p / 8 * 8)) (omega arith)) in
    rw (one_shifted w h, e) (sym n)

value_none : (n : ℕ) → value (replicate n false) ≡ 0
unfolding value
value_none zero = refl
value_none (suc n) = value_none n

-- the number of the first bits of a byte
value_first : (byte k : ℕ) → byte < 256 → k ≤ 8 → value (take k (bits_of 8 byte)) ≡ byte / 2 ^ (8 - k)
value_first byte k h l =
    let bits = bits_of 8 byte in
    let n : length (drop k bits) ≡ 8 - k = length-drop k bits ∙ rw (bits_length 8 byte) in
    let j : value (take k bits) * 2 ^ (8 - k) + value (drop k bits) ≡ byte =
    rw n at (sym (value_join (take k bits) (drop k bits))) ∙ ap value (take-append-drop k bits) ∙ number_bits 8 byte h in
    let s : value (drop k bits) < 2 ^ (8 - k) = rw n at (number_below (drop k bits)) in
    let d = mul-add-div_right (power_positive (8 - k)) (value (take k bits)) (value (drop k bits)) in
    sym (ap (λ (x : ℕ). x / 2 ^ (8 - k)) (sym j) ∙ d ∙ rw (div-eq_of_lt s) (omega arith))

-- bits that are fewer than n, as n bits
number_filled : (n : ℕ) (bits : List Bool) → length bits ≤ n → number n bits ≡ value bits * 2 ^ (n - length bits)
unfolding number
number_filled n bits h =
    let k = n - length bits in
    let e : length bits + k ≡ n = omega arith in
    let f = rw e at (front_filled bits k) in
    ap value f ∙ value_join bits (replicate k false) ∙ rw (length-replicate k false, value_none k) (omega arith)

-- a number behind the first bits of a byte
module _ (byte bit x w : ℕ) (h : byte < 256) (l : bit ≤ 7) (m : w ≤ 13) where
  abbrev bits : List Bool
  bits = take bit (bits_of 8 byte) ++ bits_of w x

  abbrev kept : ℕ
  kept = byte / 2 ^ (8 - bit)

  joined_length : length bits ≡ bit + w
  joined_length =
      let e : length (take bit (bits_of 8 byte)) ≡ bit = length-take-le bit (bits_of 8 byte) (rw (bits_length 8 byte) (omega arith)) in
      length-append (take bit (bits_of 8 byte)) (bits_of w x) ∙ rw (e, bits_length w x)

  joined_value : value bits ≡ kept * 2 ^ w + x % 2 ^ w
  joined_value = value_join (take bit (bits_of 8 byte)) (bits_of w x) ∙ rw (bits_length w x, value_first byte bit h (omega arith), value_bits w x)

  joined_all : number 24 bits ≡ (kept * 2 ^ w + x % 2 ^ w) * 2 ^ (24 - bit - w)
  joined_all =
      let s : 24 - (bit + w) ≡ 24 - bit - w = omega arith in
      number_filled 24 bits (rw joined_length (omega arith)) ∙ rw (joined_value, joined_length, s)

  joined_fits : kept * 2 ^ w + x % 2 ^ w < 16777216
  joined_fits =
      let n = kept * 2 ^ w + x % 2 ^ w in
      let a : n ≤ n * 2 ^ (24 - bit - w) = le-mul_of_pos_right n (power_positive (24 - bit - w)) in
      let b = rw joined_all at (number_most bits) in
      omega arith

  pub kept_fits : kept * 2 ^ w % 4294967296 + x % (1 * 2 ^ w % 4294967296) < 4294967296
  kept_fits = rw (one_shifted w m) (omega (arith, joined_fits))

  pub joined_number : (kept * 2 ^ w % 4294967296 + x % (1 * 2 ^ w % 4294967296)) * 2 ^ (24 - bit - w) % 4294967296 ≡ number 24 bits
  joined_number =
      let e : kept * 2 ^ w % 4294967296 ≡ kept * 2 ^ w = mod-eq_of_lt (omega (arith, joined_fits)) in
      let b = number_most bits in
      rw (one_shifted w m, e, ← joined_all) (mod-eq_of_lt (omega arith))
