-- The page: an answer that is to be written out.
--
--    put p b          the page p with the byte b behind those used
--    wrote p t        the page p with the text t behind those used
--    glyph d          the digit d of base 16, in upper case
--    two_digits b     the two digits of the byte b
--    hexadecimal n    the digits of n in base 16: four are enough below 2^16
--    listed l         the bytes l, each behind a blank
use Rattle.std.specs.Prelude.{ℕ, ◌+◌, ◌/◌, ◌%◌, List, [], ◌∷◌, set, ltb}
use Rattle.text.specs.declared.page.Page.{Page}
use Rattle.words.specs.Words.{◌if◌, ◌else◌}

unfoldable pub put : Page → ℕ → Page
put p b = record { at = p.at + 1; bytes = set p.bytes p.at b; ok = p.ok }

unfoldable pub wrote : Page → List ℕ → Page
wrote p [] = p
wrote p (b ∷ t) = wrote (put p b) t

unfoldable pub glyph : ℕ → ℕ
glyph d = (d % 16 + 48) if ltb (d % 16) 10 else (d % 16 + 55)

unfoldable pub two_digits : ℕ → List ℕ
two_digits b = glyph (b / 16) ∷ glyph (b % 16) ∷ []

unfoldable pub hexadecimal : ℕ → List ℕ
hexadecimal n =
    (glyph (n % 256) ∷ []) if ltb n 16 else
    (two_digits (n % 256) if ltb n 256 else
    ((glyph (n / 256) ∷ two_digits (n % 256)) if ltb n 4096 else
    (glyph (n / 256 / 16) ∷ glyph (n / 256 % 16) ∷ two_digits (n % 256))))

unfoldable pub listed : List ℕ → List ℕ
listed [] = []
listed (b ∷ l) = 32 ∷ glyph (b / 16) ∷ glyph (b % 16) ∷ listed l
