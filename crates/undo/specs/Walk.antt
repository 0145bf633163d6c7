-- The walk that hands out all groups of a list.
--
--    ends_from at gs               the places after the groups gs, of which the first begins at the place `at`
--    walk_lines trim s             its refusals, in order: it has no place, so neither 22 nor 25
--    walk_call trim s              its answer: how many groups there are, and the first place of the open tail
--    over xs out                   a lent buffer with xs from its first place on, as far as they have room; the rest stays
--    walk_buffer trim s out        the buffer after the walk
use Rattle.std.specs.Prelude.{ℕ, ◌+◌, Bool, not, ◌&&◌, List, [], ◌∷◌, length, eqb}
use Rattle.words.specs.Words.{◌if◌, ◌else◌, all}
use Rattle.numbers.specs.Numbers.{Line, ◌gives◌, number_of, done, bad_code, bad_change}
use Rattle.keys.specs.Keys.{is_code}
use Rattle.keys.specs.Replay.{legal}
use Rattle.undo.specs.Groups.{Cut, groups_of, joined, ends_with_release}
use Rattle.undo.specs.Stands.{is_trim}
use Rattle.undo.specs.Answers.{Walked}

unfoldable pub ends_from : ℕ → List (List ℕ) → List ℕ
ends_from at [] = []
ends_from at (g ∷ gs) = (at + length g) ∷ ends_from (at + length g) gs

unfoldable pub walk_lines : ℕ → List ℕ → List Line
walk_lines trim s = (not (is_trim trim && all is_code s) gives bad_code) ∷ (not (legal s) gives bad_change) ∷ []

-- the tail's first place is the list's length where none is open
unfoldable pub handed : Cut → Walked
handed c = record { number = done; groups = length c.groups; tail = length (joined c.groups) }

unfoldable pub walk_by : (List ℕ → Bool) → ℕ → List ℕ → Walked
walk_by ended trim s =
    handed (groups_of ended trim s)
    if eqb (number_of (walk_lines trim s)) done
    else record { number = number_of (walk_lines trim s); groups = 0; tail = 0 }

unfoldable pub walk_call : ℕ → List ℕ → Walked
walk_call trim s = walk_by (ends_with_release trim) trim s

unfoldable pub over : List ℕ → List ℕ → List ℕ
over [] out = out
over (x ∷ xs) [] = []
over (x ∷ xs) (o ∷ out) = x ∷ over xs out

unfoldable pub walk_buffer : ℕ → List ℕ → List ℕ → List ℕ
walk_buffer trim s out =
    over (ends_from 0 (groups_of (ends_with_release trim) trim s).groups) out
    if eqb (number_of (walk_lines trim s)) done
    else out
