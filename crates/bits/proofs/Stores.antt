-- Laws of stores: numbers stored one by one, and bits laid byte by byte.
--
--    place_low, place_next          the place of a number behind others: it is low, and the number has room there
--    found_next                     one number more in a table
--    laid_again, put_next           bits laid where none were laid, and one number more laid
--    laid_stores                    bits laid by stores, from their first byte on
--    put_one, put_two, put_three    the stores of the first one, two or three bytes of 24 bits
-- Assumes nothing.
use Prim.Native.Nat.{ℕ, suc, ◌+◌, ◌*◌, ◌-◌, ◌/◌, ◌%◌, ◌≤◌, ◌<◌}
use native.Mathlib.Nat.{suc-mul, mul-le-mul, mul-le-mul_right}
use native.Mathlib.Numerals.{add-one, add-two}
use native.Mathlib.Omega.{arith}
use mathlib.Core.Path.{◌≡◌, sym, ap, ◌∙◌}
use mathlib.Core.Bool.{Bool, true}
use mathlib.Core.List.{List, [], ◌∷◌, ◌++◌, append_assoc, append-nil}
use lib.ListN.{length, get_or, take, drop, set, replicate, length-append}
use lib.Seq.{length-take-le, take-append-le, take-suc, drop-cons, drop-drop, set_at, append_snoc, sets, sets-eq}
use Rattle.words.specs.Words.{all}
use Rattle.bits.specs.Bits.{below, bits_of, spelled, number, numbers, bytes_for, in_bytes, laid}
use Rattle.bits.proofs.Laws.{bits_length, numbers_length, spelled_length}
use Rattle.bits.proofs.Laid.{spelled_append, numbers_more, laid_next, laid_part}
use Rattle.bits.proofs.Windows.{high_byte, middle_byte, low_byte}

pub place_low : (p i n w : ℕ) → p ≤ 500 → i < n → n ≤ 32 → w ≤ 13 → p + i * w ≤ 903
place_low p i n w h k l m =
    let a : i ≤ 31 = omega arith in
    let e : i * w ≤ 31 * 13 = mul-le-mul a m in
    omega arith

pub place_next : (p i n w most : ℕ) → i < n → p + n * w ≤ most → p + i * w + w ≤ most
place_next p i n w most h k =
    let e : suc i * w ≤ n * w = mul-le-mul_right w h in
    let s = suc-mul i w in
    omega arith

pub found_next : (found : List ℕ) (i w size v : ℕ) (bits : List Bool) → found ≡ numbers i w bits ++ replicate (size - i) 0 → i < size
    → v ≡ number w (drop (i * w) bits) → set found i v ≡ numbers (i + 1) w bits ++ replicate (size - (i + 1)) 0
unfolding numbers
found_next found i w size v bits e h f =
    let a = numbers i w bits in
    let rest = replicate {A = ℕ} (size - (i + 1)) 0 in
    let s : size - i ≡ suc (size - (i + 1)) = omega arith in
    let m = numbers_more w i 1 bits in
    rw (e, s, m, ← f) (set_at a 0 rest v i (numbers_length w i bits) ∙ sym (append_snoc a v rest))

pub laid_again : (old new : List ℕ) (p : ℕ) (f : List Bool) → p ≤ length old * 8 → new ≡ laid old p [] → laid new p f ≡ laid old p f
laid_again old new p f h g =
    let e : p + 0 ≡ p = omega arith in
    let l = rw e at (laid_next old p [] f h) in
    rw g l

spelled_next : (w i : ℕ) (xs : List ℕ) → i < length xs → spelled w (take (i + 1) xs) ≡ spelled w (take i xs) ++ bits_of w (get_or xs i 0)
unfolding spelled
spelled_next w i xs h =
    let x = get_or xs i 0 in
    rw (add-one i, take-suc xs i 0 h, spelled_append w (take i xs) (x ∷ []), append-nil (bits_of w x))

pub put_next : (old out new : List ℕ) (p i w : ℕ) (xs : List ℕ) → p ≤ length old * 8 → i < length xs → out ≡ laid old p (spelled w (take i xs))
    → new ≡ laid out (p + i * w) (bits_of w (get_or xs i 0)) → new ≡ laid old p (spelled w (take (i + 1) xs))
put_next old out new p i w xs h k e f =
    let begun = spelled w (take i xs) in
    let n : length begun ≡ i * w = spelled_length w (take i xs) ∙ rw (length-take-le i xs (omega arith)) in
    let l = rw n at (laid_next old p begun (bits_of w (get_or xs i 0)) h) in
    rw (f, e, spelled_next w i xs k) l

-- bits f laid into out, behind the first k bits of its byte at
module _ (out : List ℕ) (at k : ℕ) (f : List Bool) (b : all (below 8) out ≡ true) (l : k ≤ 8) (h : at < length out) where
  abbrev kept : List Bool
  kept = take k (bits_of 8 (get_or out at 0))

  abbrev count : ℕ
  count = bytes_for (k + length f)

  enough : k ≤ length (bits_of 8 (get_or out at 0))
  enough = rw (bits_length 8 (get_or out at 0)) l

  kept_length : length (kept ++ f) ≡ k + length f
  kept_length = length-append kept f ∙ rw (length-take-le k (bits_of 8 (get_or out at 0)) enough)

  kept_first : take k (spelled 8 (drop at out)) ≡ kept
  unfolding spelled
  kept_first = rw (drop-cons out at 0 h) (take-append-le k (bits_of 8 (get_or out at 0)) (spelled 8 (drop (suc at) out)) enough)

  pub laid_stores : at + count ≤ length out → sets out at (numbers count 8 (kept ++ f)) ≡ laid out (at * 8 + k) f
  unfolding laid in_bytes
  laid_stores r =
      let xs = numbers count 8 (kept ++ f) in
      let n = numbers_length 8 count (kept ++ f) in
      let s = rw n at (sets-eq xs out at (rw n r)) in
      s ∙ append_assoc (take at out) xs (drop (at + count) out)
      ∙ ap (λ (rest : List ℕ). take at out ++ rest) (sym (rw (kept_first, kept_length, drop-drop count at out)))
      ∙ laid_part out at k f (omega arith) b

for_one : (n : ℕ) → 1 ≤ n → n ≤ 8 → bytes_for n ≡ 1
unfolding bytes_for
for_one n h l = omega arith

for_two : (n : ℕ) → 8 < n → n ≤ 16 → bytes_for n ≡ 2
unfolding bytes_for
for_two n h l = omega arith

for_three : (n : ℕ) → 16 < n → n ≤ 24 → bytes_for n ≡ 3
unfolding bytes_for
for_three n h l = omega arith

-- the number x, in w bits, at the place p of out; with the first bits of the byte there it makes joined, and 0 fills that to the 24 bits of v
module _ (out : List ℕ) (p w x : ℕ) (b : all (below 8) out ≡ true) (r : p + w ≤ length out * 8) where
  abbrev at : ℕ
  at = p / 8

  abbrev joined : List Bool
  joined = take (p % 8) (bits_of 8 (get_or out at 0)) ++ bits_of w x

  stored : (k : ℕ) → bytes_for (p % 8 + w) ≡ k → at + k ≤ length out → at < length out → sets out at (numbers k 8 joined) ≡ laid out p (bits_of w x)
  stored k e h l =
      let s : p / 8 * 8 + p % 8 ≡ p = omega arith in
      let m : bytes_for (p % 8 + length (bits_of w x)) ≡ k = rw (bits_length w x) e in
      rw (m, s) at (laid_stores out at (p % 8) (bits_of w x) b (omega arith) l (rw m h))

  module _ {v : ℕ} (e : v ≡ number 24 joined) where
    high_is : v / 65536 ≡ number 8 joined
    high_is = ap (λ (y : ℕ). y / 65536) e ∙ high_byte joined

    middle_is : v / 256 % 256 ≡ number 8 (drop 8 joined)
    middle_is = ap (λ (y : ℕ). y / 256 % 256) e ∙ middle_byte joined

    low_is : v % 256 ≡ number 8 (drop 16 joined)
    low_is = ap (λ (y : ℕ). y % 256) e ∙ low_byte joined

    pub put_one : 1 ≤ p % 8 + w → p % 8 + w ≤ 8 → set out at (v / 65536) ≡ laid out p (bits_of w x)
    unfolding numbers
    put_one g h = rw high_is (stored 1 (for_one (p % 8 + w) g h) (omega arith) (omega arith))

    pub put_two : 8 < p % 8 + w → p % 8 + w ≤ 16 → set (set out at (v / 65536)) (at + 1) (v / 256 % 256) ≡ laid out p (bits_of w x)
    unfolding numbers
    put_two g h = rw (high_is, middle_is, add-one at) (stored 2 (for_two (p % 8 + w) g h) (omega arith) (omega arith))

    pub put_three : 16 < p % 8 + w → p % 8 + w ≤ 24
        → set (set (set out at (v / 65536)) (at + 1) (v / 256 % 256)) (at + 2) (v % 256) ≡ laid out p (bits_of w x)
    unfolding numbers
    put_three g h =
        let s = stored 3 (for_three (p % 8 + w) g h) (omega arith) (omega arith) in
        rw (high_is, middle_is, low_is, add-one at, add-two at, ← drop-drop 8 8 joined) s
