-- Laws of bits laid into a buffer, and of the bits of bytes from a place on.
--
--    spelled_append, spelled_part, spelled_rest   numbers spelled in two parts; the first of them, the others
--    numbers_more                                 numbers read in two parts
--    bytes_length                                 how many bytes bits take
--    bytes_back, bytes_more                       bits in bytes are read there; whole bytes stand before them
--    laid_next                                    bits laid behind others
--    laid_length                                  the buffer keeps its length
--    laid_part, laid_front                        bits laid into a buffer from a byte on; at its front
--    laid_none                                    no bits laid, where no byte is begun
--    all_bytes                                    all are bytes, if each is
--    from_part, from_front, from_more             the bits from a byte on; all of them; those behind the next
--    from_length                                  how many they are
-- Assumes nothing.
use Prim.Native.Nat.{ℕ, zero, suc, ◌+◌, ◌*◌, ◌-◌, ◌/◌, ◌%◌, ◌≤◌, ◌<◌}
use native.Mathlib.Omega.{arith}
use mathlib.Core.Path.{◌≡◌, refl, sym, ap, ◌∙◌}
use mathlib.Core.Bool.{Bool, true, false}
use mathlib.Core.List.{List, [], ◌∷◌, ◌++◌, append_assoc}
use borrow.Author.Tests.{lt-ltb}
use lib.ListN.{length, get_or, take, drop, length-append, length-drop, take-append-drop, replicate}
use lib.Seq.{length-take-le, drop-nil, drop_at, take-append_seam, take-append-add, drop-append-add, drop-drop}
use Rattle.words.specs.Words.{all}
use Rattle.words.proofs.Laws.{all_cons}
use Rattle.words.proofs.Lists.{all_take}
use Rattle.bits.specs.Bits.{below, bits_of, spelled, numbers, bytes_for, in_bytes, bits_from, laid}
use Rattle.bits.proofs.Laws.{bits_length, widths_more, front_filled, numbers_there, numbers_length, numbers_back, spelled_length}

none : (w : ℕ) → 0 * w ≡ 0
none w = omega arith

module _ (w : ℕ) where
  pub spelled_append : (xs ys : List ℕ) → spelled w (xs ++ ys) ≡ spelled w xs ++ spelled w ys
  unfolding spelled
  spelled_append [] ys = refl
  spelled_append (x ∷ xs) ys = rw (spelled_append xs ys, append_assoc (bits_of w x) (spelled w xs) (spelled w ys))

  pub spelled_rest : (n : ℕ) (xs : List ℕ) → drop (n * w) (spelled w xs) ≡ spelled w (drop n xs)
  unfolding spelled
  spelled_rest zero xs = rw (none w)
  spelled_rest (suc n) [] = drop-nil (suc n * w)
  spelled_rest (suc n) (x ∷ xs) =
      let e = drop_at (bits_of w x) (spelled w xs) w (bits_length w x) in
      rw (widths_more w n, ← drop-drop (n * w) w (bits_of w x ++ spelled w xs), e) (spelled_rest n xs)

  -- the first n numbers, and some bits of the others
  pub spelled_part : (n p : ℕ) (xs : List ℕ) → n ≤ length xs → take (n * w + p) (spelled w xs) ≡ spelled w (take n xs) ++ take p (spelled w (drop n xs))
  unfolding spelled
  spelled_part zero p xs h = let e : 0 * w + p ≡ p = omega arith in rw e
  spelled_part (suc n) p [] h = absurd (omega arith)
  spelled_part (suc n) p (x ∷ xs) h =
      let e : suc n * w + p ≡ w + (n * w + p) = rw (widths_more w n) (omega arith) in
      let t = rw (bits_length w x) at (take-append-add (bits_of w x) (spelled w xs) (n * w + p)) in
      rw (e, t, spelled_part n p xs (omega arith), append_assoc (bits_of w x) (spelled w (take n xs)) (take p (spelled w (drop n xs))))

  pub numbers_more : (m n : ℕ) (bits : List Bool) → numbers (m + n) w bits ≡ numbers m w bits ++ numbers n w (drop (m * w) bits)
  unfolding numbers
  numbers_more zero n bits = let e : 0 + n ≡ n = omega arith in rw (e, none w)
  numbers_more (suc m) n bits =
      let e : suc m + n ≡ suc (m + n) = omega arith in
      rw (e, numbers_more m n (drop w bits), drop-drop (m * w) w bits, widths_more w m)

-- bits in bytes
pub bytes_length : (bits : List Bool) → length (in_bytes bits) ≡ bytes_for (length bits)
unfolding in_bytes
bytes_length bits = numbers_length 8 (bytes_for (length bits)) bits

filled : (n : ℕ) → n + (bytes_for n * 8 - n) ≡ bytes_for n * 8
unfolding bytes_for
filled n = omega arith

bytes_for_more : (m n : ℕ) → bytes_for (m * 8 + n) ≡ m + bytes_for n
unfolding bytes_for
bytes_for_more m n = omega arith

pub bytes_back : (bits : List Bool) (rest : List ℕ) → take (length bits) (spelled 8 (in_bytes bits ++ rest)) ≡ bits
unfolding in_bytes
bytes_back bits rest =
    let n = bytes_for (length bits) in
    let zeros = replicate (n * 8 - length bits) false in
    let e = rw (filled (length bits)) at (front_filled bits (n * 8 - length bits)) in
    rw (spelled_append 8 (numbers n 8 bits) rest, numbers_back 8 n bits, e, append_assoc bits zeros (spelled 8 rest))
    (take-append_seam bits (zeros ++ spelled 8 rest))

-- whole bytes, then bits
pub bytes_more : (xs : List ℕ) (bits : List Bool) → all (below 8) xs ≡ true → in_bytes (spelled 8 xs ++ bits) ≡ xs ++ in_bytes bits
unfolding in_bytes
bytes_more xs bits h =
    let n : length (spelled 8 xs ++ bits) ≡ length xs * 8 + length bits = length-append (spelled 8 xs) bits ∙ rw (spelled_length 8 xs) in
    let m : bytes_for (length (spelled 8 xs ++ bits)) ≡ length xs + bytes_for (length bits) = rw n (bytes_for_more (length xs) (length bits)) in
    let d = drop_at (spelled 8 xs) bits (length xs * 8) (spelled_length 8 xs) in
    rw (m, numbers_more 8 (length xs) (bytes_for (length bits)) (spelled 8 xs ++ bits), numbers_there 8 xs bits h, d)

drop_behind : (a b : List ℕ) (n m : ℕ) → length a ≡ n → drop (n + m) (a ++ drop n b) ≡ drop (n + m) b
drop_behind a b n m e =
    let d = rw e at (drop-append-add a (drop n b) m) in
    d ∙ drop-drop m n b

bytes_for_less : (m n : ℕ) → bytes_for m + (bytes_for (m + n) - bytes_for m) ≡ bytes_for (m + n)
unfolding bytes_for
bytes_for_less m n = omega arith

module _ (out : List ℕ) (p : ℕ) (f : List Bool) where
  kept_length : p ≤ length out * 8 → length (take p (spelled 8 out) ++ f) ≡ p + length f
  kept_length h = length-append (take p (spelled 8 out)) f ∙ rw (length-take-le p (spelled 8 out) (rw (spelled_length 8 out) h))

  pub laid_next : (g : List Bool) → p ≤ length out * 8 → laid (laid out p f) (p + length f) g ≡ laid out p (f ++ g)
  unfolding laid
  laid_next g h =
      let a = take p (spelled 8 out) in
      let n = p + length f in
      let rest = drop (bytes_for n) out in
      let e : length (f ++ g) ≡ length f + length g = length-append f g in
      let s : p + (length f + length g) ≡ n + length g = omega arith in
      let k = rw (kept_length h) at (bytes_back (a ++ f) rest) in
      let l : length (in_bytes (a ++ f)) ≡ bytes_for n = bytes_length (a ++ f) ∙ ap bytes_for (kept_length h) in
      let d = rw (bytes_for_less n (length g)) at (drop_behind (in_bytes (a ++ f)) out (bytes_for n) (bytes_for (n + length g) - bytes_for n) l) in
      rw (k, d, e, s, append_assoc a f g)

  pub laid_length : p + length f ≤ length out * 8 → length (laid out p f) ≡ length out
  unfolding laid bytes_for
  laid_length h =
      let bits = take p (spelled 8 out) ++ f in
      let n = p + length f in
      let l : length (in_bytes bits) ≡ (n + 7) / 8 = bytes_length bits ∙ ap bytes_for (kept_length (omega arith)) in
      length-append (in_bytes bits) (drop ((n + 7) / 8) out) ∙ rw (l, length-drop ((n + 7) / 8) out) (omega arith)

-- the bytes before stay: a number from 256 on would be cut, so all are bytes
pub laid_part : (out : List ℕ) (byte p : ℕ) (f : List Bool) → byte ≤ length out → all (below 8) out ≡ true
    → take byte out ++ laid (drop byte out) p f ≡ laid out (byte * 8 + p) f
unfolding laid
laid_part out byte p f h b =
    let front = take byte out in
    let kept = take p (spelled 8 (drop byte out)) in
    let s : byte * 8 + p + length f ≡ byte * 8 + (p + length f) = omega arith in
    let m = bytes_more front (kept ++ f) (all_take (below 8) byte out b) in
    let d = drop-drop (bytes_for (p + length f)) byte out in
    let rest = drop (byte + bytes_for (p + length f)) out in
    rw (spelled_part 8 byte p out h, append_assoc (spelled 8 front) kept f, m, s, bytes_for_more byte (p + length f), d)
    (sym (append_assoc front (in_bytes (kept ++ f)) rest))

pub laid_front : (out : List ℕ) (f : List Bool) → laid out 0 f ≡ in_bytes f ++ drop (length (in_bytes f)) out
unfolding laid
laid_front out f = let e : 0 + length f ≡ length f = omega arith in rw (e, bytes_length f)

pub from_part : (bytes : List ℕ) (byte p : ℕ) → bits_from (drop byte bytes) p ≡ bits_from bytes (byte * 8 + p)
unfolding bits_from
from_part bytes byte p = rw (← spelled_rest 8 byte bytes) (drop-drop p (byte * 8) (spelled 8 bytes))

pub from_length : (bytes : List ℕ) (p : ℕ) → length (bits_from bytes p) ≡ length bytes * 8 - p
unfolding bits_from
from_length bytes p = length-drop p (spelled 8 bytes) ∙ rw (spelled_length 8 bytes)

pub from_front : (bytes : List ℕ) → bits_from bytes 0 ≡ spelled 8 bytes
unfolding bits_from
from_front bytes = refl

pub from_more : (bytes : List ℕ) (p n : ℕ) → drop n (bits_from bytes p) ≡ bits_from bytes (p + n)
unfolding bits_from
from_more bytes p n = drop-drop n p (spelled 8 bytes)

-- no bits laid, where no byte is begun
pub laid_none : (out : List ℕ) (p : ℕ) → p % 8 < 1 → p ≤ length out * 8 → all (below 8) out ≡ true → laid out p [] ≡ out
unfolding in_bytes bytes_for numbers
laid_none out p z h b =
    let e : p / 8 * 8 + 0 ≡ p = omega arith in
    let q = rw (e, laid_front (drop (p / 8) out) []) at (laid_part out (p / 8) 0 [] (omega arith) b) in
    sym q ∙ take-append-drop (p / 8) out

-- a list of bytes, by its elements
pub all_bytes : (out : List ℕ) → ((i : ℕ) → get_or out i 0 < 256) → all (below 8) out ≡ true
unfolding all below
all_bytes [] h = refl
all_bytes (x ∷ out) h = all_cons (below 8) x out (lt-ltb x 256 (h 0)) (all_bytes out (λ i. h (suc i)))
