-- Laws of the page, of a line's words and of their digits.
--
--    wrote_end, wrote_next               a text is written byte by byte
--    listed_end, listed_next             bytes are listed one by one
--    two_bytes                           a number of 16 bits as its two bytes
--    hex_one, hex_two, hex_three, hex_four   a number of so many digits in base 16
--    up_to_position                      a line is passed up to the first byte of one kind, or its end
--    same_pointwise                      two words are the same where their bytes are, one by one
--    digits_end, digits_no, digits_yes   a word's digits, one by one
--    told_most                           digits behind a number never make it smaller
--    told_held                           digits behind a number that is held at a most tell the same up to that most
--    told_end, told_yes                  the number that digits tell, held at a most: no digit is left, or one more
--    product_most                        a number held at 4,294,967,296, with one digit more, is far from wrapping
--    number_none, number_no_digit, number_large, number_value   the four answers of `number_of`
-- Assumes nothing.
use Prim.Native.Nat.{ℕ, zero, suc, ◌+◌, ◌-◌, ◌*◌, ◌/◌, ◌%◌, ◌≤◌, ◌<◌, min}
use native.Mathlib.Nat.{mul-le-mul, le-mul_of_pos_right, min-eq_left, min-eq_right, le_trans, le_of_lt, add_comm}
use native.Mathlib.Numerals.{add-one, sub-one}
use native.Mathlib.Omega.{arith}
use mathlib.Core.Path.{◌≡◌, refl, sym, ap}
use mathlib.Core.Bool.{Bool, true, false, ◌&&◌, beq}
use mathlib.Core.List.{List, [], ◌∷◌, ◌++◌}
use lib.ListN.{length, get_or, drop, drop_of_length-le}
use lib.Seq.{drop-cons}
use lib.Dec.{eqb, leb}
use lib.Pointwise.{pointwise}
use Rattle.std.proofs.Common.{w16}
use Rattle.std.specs.Int.{to_be_bytes}
use Rattle.std.proofs.lemmas.Grind.{common_steps}
use Rattle.std.specs.List.{position_or_len}
use Rattle.std.proofs.lemmas.List.Recursion.{is_position_or_len}
use borrow.Author.Tests.{lt-ltb, le-ltb, leb-true, leb-false}
use Rattle.text.specs.declared.page.Page.{Page}
use Rattle.text.specs.Pages.{glyph, put, wrote, two_digits, hexadecimal, listed}
use Rattle.text.specs.Line.{blank, up_to, same}
use Rattle.words.specs.Words.{some}
use Rattle.words.proofs.Laws.{all_end, all_at_no, all_at_yes}
use Rattle.text.specs.declared.number.Fault.TheVariants.{TooFew, NoDigit, TooLarge}
use Rattle.std.specs.Prelude.{Ok, Err}
use Rattle.text.specs.Digits.{digit, digits, told, number_of, last_digits}

module _ (p : Page) (t : List ℕ) (i : ℕ) where
  pub wrote_end : length t ≤ i → wrote p (drop i t) ≡ p
  unfolding wrote
  wrote_end h = rw (drop_of_length-le t h)

  pub wrote_next : i < length t → (q : Page) → q ≡ put p (get_or t i 0) → wrote p (drop i t) ≡ wrote q (drop (i + 1) t)
  unfolding wrote
  wrote_next h q e = rw (drop-cons t i 0 h, add-one i, e)

module _ (p : Page) (l : List ℕ) (i : ℕ) where
  pub listed_end : length l ≤ i → wrote p (listed (drop i l)) ≡ p
  unfolding wrote listed
  listed_end h = rw (drop_of_length-le l h)

  pub listed_next : i < length l → (q r : Page) → q ≡ put p 32 → r ≡ wrote q (two_digits (get_or l i 0)) → wrote p (listed (drop i l)) ≡ wrote r (listed (drop (i + 1) l))
  unfolding wrote listed two_digits
  listed_next h q r e f = rw (drop-cons l i 0 h, add-one i, f, e)

-- a number's two bytes, the high one first
pub two_bytes : (n : ℕ) → n < 65536 → (b : List ℕ) → b ≡ to_be_bytes w16 n → (get_or b 0 0 ≡ n / 256) × (get_or b 1 0 ≡ n % 256)
two_bytes n h b e = rw e (grind (arith, common_steps))

module _ (p : Page) (n high low : ℕ) (f : low ≡ n % 256) where
  pub hex_one : n < 16 → (q : Page) → q ≡ put p (glyph low) → q ≡ wrote p (hexadecimal n)
  unfolding wrote hexadecimal
  hex_one h q e = rw (lt-ltb n 16 h, ← f) e

  module _ (h : 16 ≤ n) where
    pub hex_two : n < 256 → (q : Page) → q ≡ wrote p (two_digits low) → q ≡ wrote p (hexadecimal n)
    unfolding hexadecimal
    hex_two l q e = rw (le-ltb n 16 h, lt-ltb n 256 l, ← f) e

    module _ (g : high ≡ n / 256) (k : 256 ≤ n) where
      pub hex_three : n < 4096 → (q r : Page) → q ≡ put p (glyph high) → r ≡ wrote q (two_digits low) → r ≡ wrote p (hexadecimal n)
      unfolding wrote two_digits hexadecimal
      hex_three l q r e i = rw (le-ltb n 16 h, le-ltb n 256 k, lt-ltb n 4096 l, ← f, ← g, ← e) i

      pub hex_four : 4096 ≤ n → (q r : Page) → q ≡ wrote p (two_digits high) → r ≡ wrote q (two_digits low) → r ≡ wrote p (hexadecimal n)
      unfolding wrote two_digits hexadecimal
      hex_four l q r e i = rw (le-ltb n 16 h, le-ltb n 256 k, le-ltb n 4096 l, ← f, ← g, ← e) i

pub up_to_position : (t : Bool) (l : List ℕ) → up_to t l ≡ position_or_len (λ b. beq (blank b) t) l
unfolding up_to
up_to_position t l = is_position_or_len (up_to t) (λ b. beq (blank b) t) refl (λ b m. rw (add_comm 1 (up_to t m), add-one (up_to t m))) l

pub same_pointwise : (a b : List ℕ) → pointwise eqb a b ≡ same a b
unfolding same
same_pointwise [] [] = refl
same_pointwise [] (y ∷ b) = refl
same_pointwise (x ∷ a) [] = refl
same_pointwise (x ∷ a) (y ∷ b) = ap (λ r. eqb x y && r) (same_pointwise a b)

module _ (base : ℕ) (w : List ℕ) (i : ℕ) where
  pub digits_end : length w ≤ i → digits base (drop i w) ≡ true
  unfolding digits
  digits_end h = all_end _ w i h

  module _ (h : i < length w) (d : ℕ) (e : d ≡ digit (get_or w i 0)) where
    pub digits_no : base ≤ d → digits base (drop i w) ≡ false
    unfolding digits
    digits_no l = all_at_no _ w i 0 h (rw (← e) (le-ltb d base l))

    pub digits_yes : d < base → digits base (drop i w) ≡ digits base (drop (i + 1) w)
    unfolding digits
    digits_yes l = all_at_yes _ w i 0 h (rw (← e) (lt-ltb d base l))

module _ (base : ℕ) (one : 0 < base) where
  pub told_most : (v : ℕ) (w : List ℕ) → v ≤ told base v w
  unfolding told
  told_most v [] = omega arith
  told_most v (b ∷ w) = le_trans (le_trans (le-mul_of_pos_right v one) (omega arith)) (told_most (v * base + digit b) w)

  -- a number that is held at a most tells, with the digits behind it, what the number itself tells up to that most
  pub told_held : (over v : ℕ) (w : List ℕ) → min (told base (min v over) w) over ≡ min (told base v w) over
  told_held over v w = go (leb v over) refl
    where
      go : (c : Bool) → leb v over ≡ c → min (told base (min v over) w) over ≡ min (told base v w) over
      go true e = rw (min-eq_left (leb-true v over e))
      go false e =
          let l : over ≤ v = le_of_lt (leb-false v over e) in
          rw (min-eq_right l, min-eq_right (told_most over w), min-eq_right (le_trans l (told_most v w)))

module _ (base over v : ℕ) (w : List ℕ) (i : ℕ) where
  pub told_end : length w ≤ i → v ≤ over → min (told base v (drop i w)) over ≡ v
  unfolding told
  told_end h l = rw (drop_of_length-le w h, min-eq_left l)

  told_next : i < length w → (d : ℕ) → d ≡ digit (get_or w i 0) → told base v (drop i w) ≡ told base (v * base + d) (drop (i + 1) w)
  unfolding told
  told_next h d e = rw (drop-cons w i 0 h, add-one i, e)

  pub told_yes : i < length w → (d : ℕ) → d ≡ digit (get_or w i 0) → d < base → (n : ℕ) → n ≡ min (v * base + d) over → min (told base v (drop i w)) over ≡ min (told base n (drop (i + 1) w)) over
  told_yes h d e l n f = rw (told_next h d e, f) (sym (told_held base (omega arith) over (v * base + d) (drop (i + 1) w)))

pub product_most : (v base : ℕ) → v ≤ 4294967296 → base ≤ 16 → v * base ≤ 68719476736
product_most v base h k = mul-le-mul h k

some_of : (w : List ℕ) → 1 ≤ length w → some w ≡ true
unfolding some
some_of [] h = absurd (omega arith)
some_of (b ∷ w) h = refl

pub number_none : (base most : ℕ) (w : List ℕ) → length w < 1 → Err TooFew ≡ number_of base most w
unfolding number_of some
number_none base most [] h = refl
number_none base most (b ∷ w) h = absurd (omega arith)

module _ (base most : ℕ) (w : List ℕ) (h : 1 ≤ length w) where
  pub number_no_digit : digits base w ≡ false → Err NoDigit ≡ number_of base most w
  unfolding number_of
  number_no_digit e = rw (some_of w h, e)

  module _ (e : digits base w ≡ true) where
    pub number_large : most < told base 0 w → Err TooLarge ≡ number_of base most w
    unfolding number_of
    number_large l = rw (some_of w h, e, lt-ltb most (told base 0 w) l)

    pub number_value : (v : ℕ) → told base 0 w ≡ v → v ≤ most → Ok v ≡ number_of base most w
    unfolding number_of
    number_value v f l = rw (some_of w h, e, f, le-ltb most v l)

pub wrote_last : (p : Page) (t : List ℕ) (x : ℕ) → wrote p (t ++ (x ∷ [])) ≡ put (wrote p t) x
unfolding wrote
wrote_last p [] x = refl
wrote_last p (b ∷ t) x = wrote_last (put p b) t x

module _ (p : Page) (n : ℕ) where
  pub last_end : (k : ℕ) → k < 1 → p ≡ wrote p (last_digits k n)
  unfolding wrote last_digits
  last_end zero h = refl
  last_end (suc k) h = absurd (omega arith)

  pub last_one : (k : ℕ) → 1 ≤ k → n < 10 → put p (n % 10 + 48) ≡ wrote p (last_digits k n)
  unfolding wrote last_digits
  last_one zero h l = absurd (omega arith)
  last_one (suc k) h l = rw (lt-ltb n 10 l)

  pub last_next : (k : ℕ) → 1 ≤ k → 10 ≤ n → (q : Page) → q ≡ wrote p (last_digits (k - 1) (n / 10)) → put q (n % 10 + 48) ≡ wrote p (last_digits k n)
  unfolding last_digits
  last_next zero h l q e = absurd (omega arith)
  last_next (suc k) h l q e = rw (le-ltb n 10 l, wrote_last p (last_digits k (n / 10)) (n % 10 + 48), e, sub-one)
