-- Laws of the bits of a number.
--
--    bit_none                 the number 0 has no bit that is 1
--    bit_first, bit_later     bit 0 of a number, and each bit behind it
--    bit_half                 the same of a number by its half
--    HighBit n x              one of the bits of x from bit n on is 1
--    high_bit, no_high_bit    it is so exactly if x is at least 2 ^ n
--    binary_bit               the bits of `binary l` are those of the list, and 0 from there on
--    binary_below             a number of so many bits is below that power of 2
--    one_shifted              1 shifted by fewer places than there are bits
--    some_flag                one of three flags is set exactly when the byte that they make isn't 0
-- Assumes nothing.
use Prim.Native.Nat.{ℕ, zero, suc, ◌+◌, ◌*◌, ◌/◌, ◌%◌, ◌^◌, ◌≤◌, ◌<◌}
use native.Mathlib.Nat.{pow-succ', pow-le-pow_right, one-le-pow, mod-eq_of_lt, zero-div, div-eq_of_lt, div-div-eq-div-mul}
use native.Mathlib.Decide.{ℕ_discrete}
use native.Mathlib.Omega.{arith}
use mathlib.Core.Path.{◌≡◌, refl, sym, ◌∙◌}
use mathlib.Core.Bool.{Bool, true, false, not, ◌||◌}
use mathlib.Core.List.{List, [], ◌∷◌}
use lib.ListN.{length, get_or}
use lib.Dec.{eqb}
use borrow.Author.Tests.{eq-eqb, ne_eqb}
use Rattle.words.specs.Words.{◌if◌, ◌else◌, bit}
use Rattle.words.specs.Bits.{binary}
use Rattle.words.proofs.Laws.{true_false}

pub bit_none : (c : ℕ) → bit c 0 ≡ false
unfolding bit
bit_none c = rw (zero-div (2 ^ c))

module _ (n : ℕ) where
  pub bit_first : (b : Bool) → bit 0 ((1 if b else 0) + 2 * n) ≡ b
  unfolding bit
  bit_first true = eq-eqb ((1 + 2 * n) / 1 % 2) 1 (omega arith)
  bit_first false = ne_eqb ((0 + 2 * n) / 1 % 2) 1 (λ e. omega arith)

  half : (b : Bool) → ((1 if b else 0) + 2 * n) / 2 ≡ n
  half true = omega arith
  half false = omega arith

  pub bit_later : (b : Bool) (c : ℕ) → bit (suc c) ((1 if b else 0) + 2 * n) ≡ bit c n
  unfolding bit
  bit_later b c = rw (pow-succ' 2 c, sym (div-div-eq-div-mul ((1 if b else 0) + 2 * n) 2 (2 ^ c)), half b)

pub bit_half : (c x : ℕ) → bit (suc c) x ≡ bit c (x / 2)
unfolding bit
bit_half c x = rw (pow-succ' 2 c, sym (div-div-eq-div-mul x 2 (2 ^ c)))

-- one of the bits of x from bit n on is 1
abbrev pub HighBit : ℕ → ℕ → Type 0
HighBit n x = (k : ℕ) × ((n ≤ k) × (bit k x ≡ true))

-- some bit of a number that isn't 0 is 1
some_bit : (most x : ℕ) → x ≤ most → 1 ≤ x → HighBit 0 x
unfolding bit
some_bit zero x l h = absurd (omega arith)
some_bit (suc most) x l h = go (ℕ_discrete (x % 2) 1) (λ i. some_bit most (x / 2) (omega arith) i)
  where
    go : Dec (x % 2 ≡ 1) → (1 ≤ x / 2 → HighBit 0 (x / 2)) → HighBit 0 x
    go (yes e) rest = (0, (omega arith, eq-eqb (x / 1 % 2) 1 (omega arith)))
    go (no e) rest = let r = rest (omega arith) in (suc r.0, (omega arith, bit_half r.0 x ∙ r.1.1))

pub high_bit : (n x : ℕ) → 2 ^ n ≤ x → HighBit n x
high_bit zero x h = some_bit x x (omega arith) h
high_bit (suc n) x h = let r = high_bit n (x / 2) (omega arith) in let from = r.1.0 in (suc r.0, (omega arith, bit_half r.0 x ∙ r.1.1))

pub no_high_bit : (n x : ℕ) → x < 2 ^ n → HighBit n x → ⊥
unfolding bit
no_high_bit n x h (k, (l, e)) =
    let more : 2 ^ n ≤ 2 ^ k = pow-le-pow_right (omega arith) l in
    let none : x / 2 ^ k ≡ 0 = div-eq_of_lt (omega arith) in
    let z : eqb (x / 2 ^ k % 2) 1 ≡ false = rw none in
    true_false (sym e ∙ z)

pub binary_bit : (l : List Bool) (c : ℕ) → bit c (binary l) ≡ get_or l c false
unfolding binary
binary_bit [] c = bit_none c
binary_bit (b ∷ l) zero = bit_first (binary l) b
binary_bit (b ∷ l) (suc c) = bit_later (binary l) b c ∙ binary_bit l c

bit_more : (b : Bool) (x n : ℕ) → x < 2 ^ n → (1 if b else 0) + 2 * x < 2 ^ suc n
bit_more true x n h = omega arith
bit_more false x n h = omega arith

pub binary_below : (l : List Bool) → binary l < 2 ^ length l
unfolding binary
binary_below [] = omega arith
binary_below (b ∷ l) = bit_more b (binary l) (length l) (binary_below l)

pub one_shifted : (n w : ℕ) → n < w → 1 * 2 ^ n % 2 ^ w ≡ 2 ^ n
one_shifted n w h =
    let most : 2 ^ suc n ≤ 2 ^ w = pow-le-pow_right (omega arith) h in
    let some = one-le-pow n 2 (omega arith) in
    let e : 1 * 2 ^ n ≡ 2 ^ n = omega arith in
    rw e (mod-eq_of_lt (omega arith))

-- one of three flags is set exactly when the byte that they make isn't 0
pub some_flag : (p k g : Bool) → (p || (k || g)) ≡ not (eqb ((128 if p else 0) + (64 if k else 0) + (1 if g else 0)) 0)
some_flag true true true = refl
some_flag true true false = refl
some_flag true false true = refl
some_flag true false false = refl
some_flag false true true = refl
some_flag false true false = refl
some_flag false false true = refl
some_flag false false false = refl
