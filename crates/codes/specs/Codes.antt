-- Lists of codes, oldest first, and the keys that are down along them. A table has a Bool for each of the 104 keys: it is down.
--
--    none_down           the table of no key down
--    agrees t c          the code c is a press of a key that is up, or a release of one that is down
--    after t c           the keys down after the code c
--    down_after t cs     the keys down after the codes cs
--    leading f l         how many items, from the first on, f is true of before the first of which it isn't
--    agreeing t cs       how many codes, from the first on, agree when their turn comes
--    opposite c          the other code of the same key
use Rattle.std.specs.Prelude.{ℕ, suc, ◌+◌, ◌-◌, Bool, false, not, ◌&&◌, List, [], ◌∷◌, get_or, set, replicate}
use Rattle.std.specs.Bool.{beq}
use Rattle.words.specs.Words.{◌if◌, ◌else◌}
use Rattle.keys.specs.Keys.{is_code, key_of}
use Rattle.keys.specs.Replay.{is_press}

-- "Keys start up."
unfoldable pub none_down : List Bool
none_down = replicate 104 false

-- not "a press of a key that is down or a release of one that is up"
unfoldable pub agrees : List Bool → ℕ → Bool
agrees t c = is_code c && not (beq (is_press c) (get_or t (key_of c) false))

unfoldable pub after : List Bool → ℕ → List Bool
after t c = set t (key_of c) (is_press c)

unfoldable pub down_after : List Bool → List ℕ → List Bool
down_after t [] = t
down_after t (c ∷ cs) = down_after (after t c) cs

unfoldable pub leading : {A : Type 0} → (A → Bool) → List A → ℕ
leading f [] = 0
leading f (x ∷ l) = suc (leading f l) if f x else 0

unfoldable pub agreeing : List Bool → List ℕ → ℕ
agreeing t [] = 0
agreeing t (c ∷ cs) = suc (agreeing (after t c) cs) if agrees t c else 0

-- "A key's press code is 16 × row + column; its release code is that plus 128."
unfoldable pub opposite : ℕ → ℕ
opposite c = c + 128 if is_press c else c - 128
