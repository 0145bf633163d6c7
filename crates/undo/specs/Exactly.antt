-- What has to be so of an answer to the question what stands at a place, by any rule.
--
--    Begins p e gs                   one of the groups gs begins at the place p and ends before the place e
--    Right ended trim s p x          x is what stands at the place p of the list s
--    StandExact ended trim s p x     the answer x has the number of document 02's lines, and if it is done it is right, and nothing else is
use Rattle.std.specs.Prelude.{ℕ, ◌+◌, ◌<◌, ◌≡◌, Bool, List, ◌∷◌, ◌++◌, length}
use Rattle.numbers.specs.Numbers.{Given, done}
use Rattle.undo.specs.Groups.{groups_of, joined}
use Rattle.undo.specs.Stands.{values_of, lines}
use Rattle.undo.specs.Answers.{Stand, Group, Open, Nothing, Declined}

-- a group's place is the length of all groups before it
unfoldable pub Begins : ℕ → ℕ → List (List ℕ) → Type 0
Begins p e gs =
    (before : List (List ℕ)) × ((g : List ℕ) × ((after : List (List ℕ)) × ((gs ≡ before ++ (g ∷ after)) × ((p ≡ length (joined before)) × (e ≡ p + length g)))))

unfoldable pub Right : (List ℕ → Bool) → ℕ → List ℕ → ℕ → Stand → Type 0
Right ended trim s p (Group f e) = (f ≡ p) × Begins p e (groups_of ended trim s).groups
Right ended trim s p (Open q) = (q ≡ p) × ((p ≡ length (joined (groups_of ended trim s).groups)) × (0 < length (groups_of ended trim s).tail))
Right ended trim s p Nothing = p ≡ length s
Right ended trim s p (Declined n) = ⊥

unfoldable pub StandExact : (List ℕ → Bool) → ℕ → List ℕ → ℕ → Stand → Type 0
StandExact ended trim s p x =
    Given (lines ended trim s p) (values_of x).number
    × ((values_of x).number ≡ done → Right ended trim s p x × ((y : Stand) → Right ended trim s p y → y ≡ x))
