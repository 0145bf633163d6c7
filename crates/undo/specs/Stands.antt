-- What stands at a place of a list that is cut into undo groups, and the stretch that is fetched from there.
--
--    values_of x                  document 02's number and values of an answer x
--    Mark, marks_of ended trim s  every place of s where something stands, and what: each group, the open tail, the end
--    begins p marks               something stands at the place p; stand_at p marks: what
--    Stands p x marks             x is what stands at p
--    is_trim trim                 a trim key's code
--    lines ended trim s p         document 02's refusals, in order
--    stands_by ended trim s p     the answer, by any rule; stands trim s p: by that of Groups
--    first_in x, end_in x         the places of the stretch that an answer x leads to, the last excluded
--    IsPart s first end r         r is that part of the very list that s lends: the codes, and where they lie
--    IsStretch trim s p r         r is the stretch at the place p
use Rattle.std.specs.Prelude.{ℕ, ◌+◌, ◌-◌, ◌≡◌, ◌⊎◌, Bool, false, not, ◌&&◌, ◌||◌, List, [], ◌∷◌, length, take, drop, eqb, ltb}
use Rattle.std.specs.Borrow.{Bor}
use Rattle.words.specs.Words.{◌if◌, ◌else◌, all}
use Rattle.numbers.specs.Numbers.{Line, ◌gives◌, number_of, done, beyond_end, bad_code, bad_change, inside_group}
use Rattle.keys.specs.Keys.{is_code}
use Rattle.keys.specs.Replay.{is_press, legal}
use Rattle.undo.specs.Groups.{groups_of, ends_with_release}
use Rattle.undo.specs.Answers.{Stand, Group, Open, Nothing, Declined}

-- a number, a first place, and the place after the last
pub record Values : Type 0 where
  pub number : ℕ
  pub first : ℕ
  pub end : ℕ

unfoldable pub values_of : Stand → Values
-- "each finished group is given back as that stretch"
values_of (Group f e) = record { number = done; first = f; end = e }
-- "A trim key still down at the end gives "open" with its place"
values_of (Open p) = record { number = done; first = p; end = p }
-- "the end of the list gives "nothing more""
values_of Nothing = record { number = done; first = 0; end = 0 }
values_of (Declined n) = record { number = n; first = 0; end = 0 }

-- a place of the list, and what stands there
pub data Mark : Type 0 where
  mark : ℕ → Stand → Mark

unfoldable pub tail_from : ℕ → List ℕ → List Mark
tail_from at [] = mark at Nothing ∷ []
tail_from at (c ∷ tail) = mark at (Open at) ∷ mark (at + length (c ∷ tail)) Nothing ∷ []

-- each group begins where the one before it ends; then the tail; then the end
unfoldable pub marks_from : ℕ → List (List ℕ) → List ℕ → List Mark
marks_from at [] tail = tail_from at tail
marks_from at (g ∷ gs) tail = mark at (Group at (at + length g)) ∷ marks_from (at + length g) gs tail

unfoldable pub marks_of : (List ℕ → Bool) → ℕ → List ℕ → List Mark
marks_of ended trim s = marks_from 0 (groups_of ended trim s).groups (groups_of ended trim s).tail

unfoldable pub begins : ℕ → List Mark → Bool
begins p [] = false
begins p (mark q x ∷ l) = eqb p q || begins p l

unfoldable pub stand_at : ℕ → List Mark → Stand
stand_at p [] = Declined inside_group
stand_at p (mark q x ∷ l) = x if eqb p q else stand_at p l

unfoldable pub Stands : ℕ → Stand → List Mark → Type 0
Stands p x [] = ⊥
Stands p x (mark q y ∷ l) = ((p ≡ q) × (x ≡ y)) ⊎ Stands p x l

-- "a press (for the trim key) .. of rows 0 to 7, columns 0 to 12"
unfoldable pub is_trim : ℕ → Bool
is_trim trim = is_press trim && is_code trim

-- "Refusals, in order: 22 place beyond the end; 23 a code, the trim key's included, that isn't a press (for the trim key) or a press or
-- release of rows 0 to 7, columns 0 to 12; 24 a press of a key that is down or a release of one that is up; 25 place before the end that
-- is inside a group or past the start of an open tail."
unfoldable pub lines : (List ℕ → Bool) → ℕ → List ℕ → ℕ → List Line
lines ended trim s p =
    (ltb (length s) p gives beyond_end)
    ∷ (not (is_trim trim && all is_code s) gives bad_code)
    ∷ (not (legal s) gives bad_change)
    ∷ ((ltb p (length s) && not (begins p (marks_of ended trim s))) gives inside_group)
    ∷ []

unfoldable pub stands_by : (List ℕ → Bool) → ℕ → List ℕ → ℕ → Stand
stands_by ended trim s p =
    stand_at p (marks_of ended trim s)
    if eqb (number_of (lines ended trim s p)) done
    else Declined (number_of (lines ended trim s p))

unfoldable pub stands : ℕ → List ℕ → ℕ → Stand
stands trim s p = stands_by (ends_with_release trim) trim s p

-- "the stretch is fetched by another [question] and is empty where no finished group begins or it is declined"
unfoldable pub first_in : Stand → ℕ
first_in (Group f e) = f
first_in (Open p) = 0
first_in Nothing = 0
first_in (Declined n) = 0

unfoldable pub end_in : Stand → ℕ
end_in (Group f e) = e
end_in (Open p) = 0
end_in Nothing = 0
end_in (Declined n) = 0

unfoldable pub IsPart : Bor (List ℕ) → ℕ → ℕ → Bor (List ℕ) → Type 0
IsPart s first end r = (r.now ≡ take (end - first) (drop first s.now)) × ((r.ref_ptr.0 ≡ s.ref_ptr.0) × (r.ref_ptr.1 ≡ s.ref_ptr.1 + first))

unfoldable pub IsStretch : ℕ → Bor (List ℕ) → ℕ → Bor (List ℕ) → Type 0
IsStretch trim s p r = IsPart s (first_in (stands trim s.now p)) (end_in (stands trim s.now p)) r
