-- Numbers as their digits: some computed, and the number that a number's digits tell, which is the number.
--
--    decimal_examples    0, 9, 10, 20, 255, 65535 and 4294967295 as text
--    told_last           one digit more tells ten times as much and the digit
--    told_decimal        the digits of a number of at most ten digits tell it
-- Assumes nothing.
use Prim.Native.Nat.{ℕ, zero, suc, ◌+◌, ◌*◌, ◌/◌, ◌%◌, ◌^◌, ◌<◌}
use native.Mathlib.Nat.{pow-suc}
use native.Mathlib.Omega.{arith}
use mathlib.Core.Path.{◌≡◌, refl, subst}
use mathlib.Core.Bool.{Bool, true, false}
use mathlib.Core.List.{List, [], ◌∷◌, ◌++◌}
use lib.Dec.{ltb}
use borrow.Author.Tests.{lt-ltb, le-leb, ltb-true}
use Rattle.text.specs.Digits.{digit, told, last_digits, decimal}

pub decimal_examples :
    (decimal 0 ≡ 48 ∷ []) × (decimal 9 ≡ 57 ∷ []) × (decimal 10 ≡ 49 ∷ 48 ∷ []) × (decimal 20 ≡ 50 ∷ 48 ∷ []) × (decimal 255 ≡ 50 ∷ 53 ∷ 53 ∷ []) × (decimal 65535 ≡ 54 ∷ 53 ∷ 53 ∷ 51 ∷ 53 ∷ []) × (decimal 4294967295 ≡ 52 ∷ 50 ∷ 57 ∷ 52 ∷ 57 ∷ 54 ∷ 55 ∷ 50 ∷ 57 ∷ 53 ∷ [])
unfolding decimal last_digits
decimal_examples = (refl, refl, refl, refl, refl, refl, refl)

pub told_last : (base v : ℕ) (w : List ℕ) (b : ℕ) → told base v (w ++ (b ∷ [])) ≡ told base v w * base + digit b
unfolding told
told_last base v [] b = refl
told_last base v (x ∷ w) b = told_last base (v * base + digit x) w b

digit_below : (d : ℕ) → d < 10 → digit (d + 48) ≡ d
unfolding digit
digit_below d h = rw (le-leb 48 (d + 48) (omega arith), lt-ltb (d + 48) 58 (omega arith)) (omega arith)

-- the digits of a number below 10^k tell it, if those of a tenth of it do
told_step : (k n : ℕ) → n < 10 ^ suc k → (n / 10 < 10 ^ k → told 10 0 (last_digits k (n / 10)) ≡ n / 10) → told 10 0 (last_digits (suc k) n) ≡ n
unfolding last_digits told
told_step k n h front = go (ltb n 10) refl
  where
    go : (c : Bool) → ltb n 10 ≡ c → told 10 0 (last_digits (suc k) n) ≡ n
    go true e = let l = ltb-true n 10 e in rw (e, digit_below (n % 10) (omega arith)) (omega arith)
    go false e =
        let l : n < 10 ^ k * 10 = subst (λ (x : ℕ). n < x) (pow-suc 10 k) h in
        rw (e, told_last 10 0 (last_digits k (n / 10)) (n % 10 + 48), digit_below (n % 10) (omega arith), front (omega (arith, l))) (omega arith)

told_digits : (k n : ℕ) → n < 10 ^ k → told 10 0 (last_digits k n) ≡ n
unfolding last_digits told
told_digits zero n h = omega arith
told_digits (suc k) n h = told_step k n h (told_digits k (n / 10))

pub told_decimal : (n : ℕ) → n < 10000000000 → told 10 0 (decimal n) ≡ n
unfolding decimal
told_decimal n h = told_digits 10 n h
