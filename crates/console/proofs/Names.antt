-- Laws of the words that name commands.
--
--    same_length    the same words have as many bytes
--    named          a word that a test found to be a name is that name, and has as many bytes or more as the name
use Rattle.std.proofs.Common.{◌≡◌, ◌≤◌, ℕ, Bool, true, List, [], ◌∷◌, length, refl, arith}
use Rattle.text.specs.Line.{same}

pub same_length : (a b : List ℕ) → same a b ≡ true → length a ≡ length b
unfolding same
same_length [] [] e = refl
same_length [] (y ∷ b) e = grind (arith, e)
same_length (x ∷ a) [] e = grind (arith, e)
same_length (x ∷ a) (y ∷ b) e = grind (arith, e, same_length a b)

pub named : (w n : List ℕ) (found : Bool) (k : ℕ) → found ≡ same w n → found ≡ true → k ≤ length n → (same w n ≡ true) × (k ≤ length w)
named w n found k e t l = let s : same w n ≡ true = cc in (s, omega (arith, same_length w n s, l))
