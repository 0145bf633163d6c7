-- NUMBER 9, WHICH IS RETIRED. The table of a look had one line more, behind 8, 1 and 2: "a change falls on a key out of the size".
-- No call could give it (proofs/Retired.antt), so the line is gone, and the number gets no new use.
--
--    falls m s        the condition of that line, as it stood
--    old_lines m s    the lines of a look, as they stood
use Rattle.std.specs.Prelude.{ℕ, Bool, not, ◌||◌, List, [], ◌∷◌, ◌++◌}
use Rattle.words.specs.Words.{all_below}
use Rattle.numbers.specs.Numbers.{Line, ◌gives◌}
use Rattle.keys.specs.Keys.{key_in}
use Rattle.judge.specs.Lines.{sample_lines}
use Rattle.state.specs.declared.Module.{Module}
use Rattle.sound.specs.Sound.{sound}
use Rattle.scan.specs.Scan.{contact_at}

-- "a change falls on a key out of the size"
unfoldable pub falls : Module → List ℕ → Bool
falls m s = not (all_below (λ k. key_in m.size k || not (contact_at m s k).changed) 104)

-- "8; then 1, 2, 9 for a look"
unfoldable pub old_lines : Module → List ℕ → List Line
old_lines m s = not (sound m) gives 8 ∷ sample_lines s ++ (falls m s gives 9 ∷ [])
