-- The picture: KBDCODE0 to KBDCODE3.
--
--    held_codes k hs   the press codes of the held keys of a table that begins with key k
--    more cs           128 if there are codes, else 0
--    nth n cs          what the register number n shows, the held keys' press codes being cs
--    picture n hs      the same for a table of held keys
--    all_read seen     all four are marked as read
--    marked m n        the state once register n has been read
use Rattle.std.specs.Prelude.{ℕ, zero, suc, ◌+◌, Bool, true, false, ◌&&◌, List, [], ◌∷◌, get_or, set}
use Rattle.words.specs.Words.{◌if◌, ◌else◌}
use Rattle.keys.specs.Keys.{code}
use Rattle.state.specs.declared.Module.{Module}
use Rattle.state.specs.Module.{forgotten, with_rsint, with_seen}

-- "by row, then column"
unfoldable pub held_codes : ℕ → List Bool → List ℕ
held_codes k [] = []
held_codes k (true ∷ hs) = code k true ∷ held_codes (k + 1) hs
held_codes k (false ∷ hs) = held_codes (k + 1) hs

-- 128 if there are codes
unfoldable pub more : List ℕ → ℕ
more [] = 0
more (c ∷ cs) = 128

-- "the press code of the held key number n (from 0), or 0x7F if there are n or fewer.
-- It has 128 added when more than n + 1 keys are held."
unfoldable pub nth : ℕ → List ℕ → ℕ
nth n [] = 0x7F
nth zero (c ∷ cs) = c + more cs
nth (suc n) (c ∷ cs) = nth n cs

unfoldable pub picture : ℕ → List Bool → ℕ
picture n hs = nth n (held_codes 0 hs)

unfoldable pub all_read : List Bool → Bool
all_read seen = get_or seen 0 false && get_or seen 1 false && (get_or seen 2 false && get_or seen 3 false)

-- "Once all four have been read since they were last forgotten, RSINT is cleared (RKLINT stays) and they are forgotten again."
unfoldable pub marked : Module → ℕ → Module
marked m n = with_seen (with_rsint m false) forgotten if all_read (set m.seen n true) else with_seen m (set m.seen n true)
