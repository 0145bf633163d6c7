-- Undo groups: a list of codes, oldest first, cut by the trim key's press code and a rule.
--
--    Cut                               finished groups in order, and the open tail
--    groups_of ended trim s            those of the list s; `ended`, the rule, says of a group's codes so far whether it has ended
--    joined gs                         the groups one after another
--    In g gs                           g is one of the groups
--    IsGroup, IsTail ended trim g      what a finished group is, and what the tail is
--    Cuts ended trim s c               c is a cut of s: its groups in order, with the tail, are s, and each is what it has to be
--    ends_with_release trim            the rule
use Rattle.std.specs.Prelude.{ℕ, suc, ◌<◌, ◌≤◌, ◌≡◌, ◌⊎◌, Bool, true, false, not, List, [], ◌∷◌, ◌++◌, length, take, eqb}
use Rattle.codes.specs.Codes.{opposite}

-- "The groups in order, with an open tail, are the whole list."
pub record Cut : Type 0 where
  pub groups : List (List ℕ)
  pub tail : List ℕ

unfoldable pub more : List ℕ → Cut → Cut
more g c = record { groups = g ∷ c.groups; tail = c.tail }

-- the code c finishes what stands before it. Nothing stands before it: "a code outside is a group of its own", but "a group opens at
-- the trim key's press". Within a group: by the rule
unfoldable pub closes : (List ℕ → Bool) → ℕ → List ℕ → ℕ → Bool
closes ended trim [] c = not (eqb c trim)
closes ended trim (x ∷ g) c = ended ((x ∷ g) ++ (c ∷ []))

-- the group so far, g, is finished, or not yet; then come the codes cs
unfoldable pub cut : (List ℕ → Bool) → ℕ → Bool → List ℕ → List ℕ → Cut
cut ended trim true g [] = record { groups = g ∷ []; tail = [] }
cut ended trim false g [] = record { groups = []; tail = g }
cut ended trim true g (c ∷ cs) = more g (cut ended trim (closes ended trim [] c) (c ∷ []) cs)
cut ended trim false g (c ∷ cs) = cut ended trim (closes ended trim g c) (g ++ (c ∷ [])) cs

unfoldable pub groups_of : (List ℕ → Bool) → ℕ → List ℕ → Cut
groups_of ended trim s = cut ended trim false [] s

unfoldable pub joined : List (List ℕ) → List ℕ
joined [] = []
joined (g ∷ gs) = g ++ joined gs

unfoldable pub In : List ℕ → List (List ℕ) → Type 0
In g [] = ⊥
In g (h ∷ gs) = (g ≡ h) ⊎ In g gs

-- no beginning of g of two codes or more, and of fewer than m, has ended
unfoldable pub Quiet : (List ℕ → Bool) → ℕ → List ℕ → Type 0
Quiet ended m g = (n : ℕ) → 2 ≤ n → n < m → ended (take n g) ≡ false

-- one code other than the trim key's press; or it begins with that, has ended, and had not before
unfoldable pub IsGroup : (List ℕ → Bool) → ℕ → List ℕ → Type 0
IsGroup ended trim g =
    ((length g ≡ 1) × (take 1 g ≡ trim ∷ [] → ⊥))
    ⊎ ((take 1 g ≡ trim ∷ []) × ((2 ≤ length g) × ((ended g ≡ true) × Quiet ended (length g) g)))

-- nothing; or it begins with the trim key's press and has not ended
unfoldable pub IsTail : (List ℕ → Bool) → ℕ → List ℕ → Type 0
IsTail ended trim g = (length g ≡ 0) ⊎ ((take 1 g ≡ trim ∷ []) × Quiet ended (suc (length g)) g)

unfoldable pub Cuts : (List ℕ → Bool) → ℕ → List ℕ → Cut → Type 0
Cuts ended trim s c =
    (joined c.groups ++ c.tail ≡ s)
    × (((g : List ℕ) → In g c.groups → IsGroup ended trim g) × IsTail ended trim c.tail)

-- the last code is c
unfoldable pub last_is : ℕ → List ℕ → Bool
last_is c [] = false
last_is c (x ∷ []) = eqb x c
last_is c (x ∷ y ∷ g) = last_is c (y ∷ g)

-- "A group opens at the trim key's press and ends with its release"
unfoldable pub ends_with_release : ℕ → List ℕ → Bool
ends_with_release trim g = last_is (opposite trim) g
