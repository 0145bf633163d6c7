-- The number that a word's digits tell, judged by its value; and the digits that tell a number.
--
--    digit b              the value of the digit b, in either case; 16 if it is none
--    digits base w        every byte of the word w is a digit of the base
--    told base v w        the number that the digits w tell, behind digits that told v
--    number_of base most w    the number of a word, which is at most `most`, or what is wrong with it
--    last_digits k n      the last k digits of n in base 10, or all if it has fewer
--    decimal n            the digits of n in base 10: ten are enough below 2^32
use Rattle.std.specs.Prelude.{ℕ, zero, suc, ◌+◌, ◌-◌, ◌*◌, ◌/◌, ◌%◌, Bool, ◌&&◌, not, List, [], ◌∷◌, ◌++◌, ltb, leb, Result, Ok, Err}
use Rattle.words.specs.Words.{◌if◌, ◌else◌, all, some}
use Rattle.text.specs.declared.number.Fault.{Fault}
use Rattle.text.specs.declared.number.Fault.TheVariants.{TooFew, NoDigit, TooLarge}

-- "0" to "9", "A" to "F", "a" to "f"
unfoldable pub digit : ℕ → ℕ
digit b =
    (b - 48) if (leb 48 b && ltb b 58) else
    ((b - 55) if (leb 65 b && ltb b 71) else
    ((b - 87) if (leb 97 b && ltb b 103) else 16))

unfoldable pub digits : ℕ → List ℕ → Bool
digits base w = all (λ b. ltb (digit b) base) w

unfoldable pub told : ℕ → ℕ → List ℕ → ℕ
told base v [] = v
told base v (b ∷ w) = told base (v * base + digit b) w

unfoldable pub number_of : ℕ → ℕ → List ℕ → Result ℕ Fault
number_of base most w =
    Err TooFew if not (some w) else
    (Err NoDigit if not (digits base w) else
    (Err TooLarge if ltb most (told base 0 w) else
    Ok (told base 0 w)))

unfoldable pub last_digits : ℕ → ℕ → List ℕ
last_digits zero n = []
last_digits (suc k) n = ((n % 10 + 48) ∷ []) if ltb n 10 else (last_digits k (n / 10) ++ ((n % 10 + 48) ∷ []))

unfoldable pub decimal : ℕ → List ℕ
decimal n = last_digits 10 n
