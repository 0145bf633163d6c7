-- THE LONGEST READ FROM EACH ADDRESS, as a literal table: what docs/HOST.md's registers allow, run by run.
--
--    longest_right    for each of 256 addresses, ALL COMPUTED
-- Assumes nothing.
use Prim.Native.Nat.{ℕ}
use mathlib.Core.Path.{◌≡◌, refl}
use mathlib.Core.List.{List, [], ◌∷◌, ◌++◌}
use lib.ListN.{replicate}
use Rattle.words.specs.Words.{table}
use Rattle.registers.proofs.Opened as registers
use Rattle.wire.specs.Wire.{readable, longest}

-- addresses from which nothing can be read
abbrev none : ℕ → List ℕ
none n = replicate n 0

pub longest_right :
    table longest 256
    ≡ none 2 ++ (2 ∷ 1 ∷ [])  -- 02 KBDBOUNCE, KBDSIZE
    ++ none 2 ++ (2 ∷ 1 ∷ [])  -- 06 KBDRIS, KBDMIS
    ++ none 1 ++ (1 ∷ [])  -- 09 KBDMSK
    ++ none 1 ++ (4 ∷ 3 ∷ 2 ∷ 1 ∷ [])  -- 0B the picture
    ++ none 1 ++ (32 ∷ [])  -- 10 EVTCODE
    ++ none 128 ++ (1 ∷ [])  -- 91 IRQST
    ++ none 24 ++ (6 ∷ 5 ∷ 4 ∷ 3 ∷ 2 ∷ 1 ∷ [])  -- AA the pulls
    ++ none 16 ++ (1 ∷ 0 ∷ 1 ∷ 0 ∷ 1 ∷ 0 ∷ [])  -- C0 GPIODATA; GPIOMASK can't be read
    ++ (15 ∷ 14 ∷ 13 ∷ 12 ∷ 11 ∷ 10 ∷ 9 ∷ 8 ∷ 7 ∷ 6 ∷ 5 ∷ 4 ∷ 3 ∷ 2 ∷ 1 ∷ [])  -- C6 GPIODIR to GPIOIE
    ++ none 1 ++ (6 ∷ 5 ∷ 4 ∷ 3 ∷ 2 ∷ 1 ∷ [])  -- D6 GPIORIS, GPIOMIS
    ++ none 4 ++ (6 ∷ 5 ∷ 4 ∷ 3 ∷ 2 ∷ 1 ∷ [])  -- E0 GPIOOME, GPIOOMS
    ++ none 26
unfolding registers.opened readable longest
longest_right = refl
