-- The words of a line: what stands between blanks and tabs.
--
--    blank b           the byte b parts words
--    up_to t l         how many bytes of l stand before the first blank (t) or the first other byte
--    word_from l i     the next word of the line l, from the place i on
--    same a b          the words a and b are the same
use Rattle.std.specs.Prelude.{ℕ, suc, ◌+◌, Bool, true, false, ◌&&◌, ◌||◌, List, [], ◌∷◌, drop, eqb}
use Rattle.std.specs.Bool.{beq}
use Rattle.words.specs.Words.{◌if◌, ◌else◌}
use Rattle.text.specs.declared.word.Word.{Word}

unfoldable pub blank : ℕ → Bool
blank b = eqb b 32 || eqb b 9

unfoldable pub up_to : Bool → List ℕ → ℕ
up_to t [] = 0
up_to t (b ∷ l) = 0 if beq (blank b) t else suc (up_to t l)

unfoldable pub word_at : List ℕ → ℕ → Word
word_at l i = record { start = i; end = i + up_to true (drop i l) }

unfoldable pub word_from : List ℕ → ℕ → Word
word_from l i = word_at l (i + up_to false (drop i l))

unfoldable pub same : List ℕ → List ℕ → Bool
same [] [] = true
same [] (y ∷ b) = false
same (x ∷ a) [] = false
same (x ∷ a) (y ∷ b) = eqb x y && same a b
