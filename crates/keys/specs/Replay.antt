-- The replay of codes: which keys are down after a list of codes, oldest first.
--
--    is_press c              the code c is of a press, not of a release
--    told k was c            key k after the code c, having been so before
--    replayed k was cs       key k after the codes cs
--    legal_from down cs      each press is of a key that is up, each release of one that is down, these keys being down at first
--    legal cs                the same from no key down
use Rattle.std.specs.Prelude.{ℕ, Bool, true, false, not, ◌&&◌, List, [], ◌∷◌, ltb, eqb}
use Rattle.std.specs.Bool.{beq}
use Rattle.words.specs.Words.{◌if◌, ◌else◌}
use Rattle.keys.specs.Keys.{key_of}

-- "A key's press code is 16 × row + column; its release code is that plus 128."
unfoldable pub is_press : ℕ → Bool
is_press c = ltb c 128

-- a code of key k says how it is held; any other leaves it as it was
unfoldable pub told : ℕ → Bool → ℕ → Bool
told k was c = is_press c if eqb (key_of c) k else was

unfoldable pub replayed : ℕ → Bool → List ℕ → Bool
replayed k was [] = was
replayed k was (c ∷ cs) = replayed k (told k was c) cs

-- a code is legal when its key is not yet as it says
unfoldable pub legal_from : (ℕ → Bool) → List ℕ → Bool
legal_from down [] = true
legal_from down (c ∷ cs) = not (beq (is_press c) (down (key_of c))) && legal_from (λ k. told k (down k) c) cs

unfoldable pub legal : List ℕ → Bool
legal cs = legal_from (λ k. false) cs
