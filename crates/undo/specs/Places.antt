-- What the code asks at a place: what stands there if something begins there, and the refusals that need no walk.
--
--    standing at c                 what stands at the place `at`, the list being cut from there on as c
--    next_at ended trim s at       what stands at a place where a group or the tail begins
--    place_lines trim s p          the refusals but the last
use Rattle.std.specs.Prelude.{ℕ, ◌+◌, Bool, List, [], ◌∷◌, length, drop, ltb}
use Rattle.numbers.specs.Numbers.{Line, ◌gives◌, beyond_end}
use Rattle.undo.specs.Groups.{groups_of}
use Rattle.undo.specs.Walk.{walk_lines}
use Rattle.undo.specs.Answers.{Stand, Group, Open, Nothing}

unfoldable pub standing : ℕ → List (List ℕ) → List ℕ → Stand
standing at (g ∷ gs) tail = Group at (at + length g)
standing at [] (c ∷ tail) = Open at
standing at [] [] = Nothing

unfoldable pub next_at : (List ℕ → Bool) → ℕ → List ℕ → ℕ → Stand
next_at ended trim s at = standing at (groups_of ended trim (drop at s)).groups (groups_of ended trim (drop at s)).tail

unfoldable pub place_lines : ℕ → List ℕ → ℕ → List Line
place_lines trim s p = (ltb (length s) p gives beyond_end) ∷ walk_lines trim s
