-- States that soundness must tell apart, as a table: each is the state after reset with one part changed.
--
--    examples          the table: a state, and whether it is sound
--    examples_right    soundness decides every row as the table says
-- Assumes nothing.
use Prim.Native.Nat.{ℕ, ◌-◌}
use mathlib.Core.Path.{◌≡◌, refl}
use mathlib.Core.Bool.{Bool, true, false, beq}
use mathlib.Core.List.{List, [], ◌∷◌, ◌++◌}
use lib.ListN.{length, set, replicate}
use Rattle.words.specs.Words.{all}
use Rattle.keys.specs.Keys.{key_at}
use Rattle.state.specs.declared.Module.{Module}
use Rattle.state.specs.Module.{fresh, restarted, queue, sleep, with_keys, with_queue, with_bounce, with_mask, with_rklint, with_relint, with_seen, with_sleep}
use Rattle.sound.specs.Sound as soundness
use Rattle.sound.proofs.Opened.{opened}

record Entry : Type 0 where
  state : Module
  expected : Bool

infix 2 ◌is◌
abbrev ◌is◌ : Module → Bool → Entry
m is b = record { state = m; expected = b }

abbrev sound : Bool
sound = true

abbrev unsound : Bool
unsound = false

-- the state after reset, but KBDSIZE is this
abbrev sized : ℕ → Module
sized size = restarted fresh size

-- .. the key of this row and column is held
abbrev holding : ℕ → ℕ → Module
holding row col = with_keys fresh (set fresh.held (key_at row col) true) fresh.run

-- .. the key of this row and column has this run
abbrev running : ℕ → ℕ → ℕ → Module
running row col n = with_keys fresh fresh.held (set fresh.run (key_at row col) n)

-- .. so many codes wait, and the places hold these codes from the first on, then 0x7F
abbrev counting : ℕ → List ℕ → Module
counting n codes = with_queue fresh (queue (codes ++ replicate (15 - length codes) 0x7F) n false)

-- .. just these codes wait
abbrev waits : List ℕ → Module
waits codes = counting (length codes) codes

-- .. code 00 waits, and this place holds this byte
abbrev behind : ℕ → ℕ → Module
behind place byte = with_queue fresh (queue (set (waits (0x00 ∷ [])).queue place byte) 1 false)

abbrev examples : List Entry
examples =
    (fresh is sound)
    -- "KBDSIZE is acceptable"
    ∷ (sized 0x00 is unsound)
    ∷ (sized 0x1C is unsound)
    ∷ (sized 0x2D is unsound)
    ∷ (sized 0x92 is unsound)
    ∷ (sized 0x81 is unsound)
    ∷ (sized 0x21 is unsound)
    ∷ (sized 0x8C is sound)
    -- "no key out of the size is held or has a run of samples remembered; no run is above 254"
    ∷ (holding 2 0 is unsound)
    ∷ (holding 0 0 is sound)
    ∷ (running 0 2 1 is unsound)
    ∷ (running 0 0 255 is unsound)
    ∷ (with_bounce (running 0 0 254) 1 is sound)
    ∷ (with_bounce (running 0 0 5) 0 is sound)
    -- "at most 15 codes wait"
    ∷ (counting 16 [] is unsound)
    ∷ (counting 255 [] is unsound)
    ∷ (counting 16 (replicate 15 0x00) is unsound)
    ∷ (counting 15 (replicate 15 0x00) is sound)
    -- "each a press or release code of a key in the size"
    ∷ (waits (0x7F ∷ []) is unsound)
    ∷ (waits (0xFF ∷ []) is unsound)
    ∷ (waits (0x0D ∷ []) is unsound)
    ∷ (waits (0x0F ∷ []) is unsound)
    ∷ (waits (0x02 ∷ []) is unsound)
    ∷ (waits (0x82 ∷ []) is unsound)
    ∷ (waits (0x20 ∷ []) is unsound)
    ∷ (waits (0x1D ∷ []) is unsound)
    ∷ (waits (0x0C ∷ []) is sound)
    ∷ (waits (0x8C ∷ []) is sound)
    ∷ (waits (0x1C ∷ []) is sound)
    ∷ (waits (0x9C ∷ []) is sound)
    ∷ (waits (0x00 ∷ []) is sound)
    ∷ (waits (0x00 ∷ 0x00 ∷ 0x80 ∷ 0x80 ∷ []) is sound)
    -- "unused places hold 0x7F"
    ∷ (counting 0 (0x00 ∷ []) is unsound)
    ∷ (behind 14 0x11 is unsound)
    -- "KBDMSK is at most 0x0F"
    ∷ (with_mask fresh 0x10 is unsound)
    ∷ (with_mask fresh 0x0F is sound)
    -- "the four picture registers aren't all marked read"
    ∷ (with_seen fresh (true ∷ true ∷ true ∷ true ∷ []) is unsound)
    ∷ (with_seen fresh (true ∷ true ∷ true ∷ false ∷ []) is sound)
    -- "the count is at most 255, and 255 exactly while asleep"
    ∷ (with_sleep fresh (sleep 255 true) is sound)
    ∷ (with_sleep fresh (sleep 254 false) is sound)
    ∷ (with_sleep fresh (sleep 255 false) is unsound)
    ∷ (with_sleep fresh (sleep 254 true) is unsound)
    ∷ (with_sleep fresh (sleep 256 true) is unsound)
    ∷ (with_sleep fresh (sleep 256 false) is unsound)
    ∷ (with_sleep fresh (sleep 0 true) is unsound)
    ∷ (with_sleep (with_bounce (running 0 0 5) 0) (sleep 255 true) is sound)
    -- nothing is asked of the flags
    ∷ (with_relint fresh true is sound)
    ∷ (with_rklint fresh true is sound)
    ∷ []

abbrev right : Entry → Bool
right e = beq (soundness.sound e.state) e.expected

examples_right : (length examples ≡ 48) × (all right examples ≡ true)
unfolding opened
examples_right = (refl, refl)
