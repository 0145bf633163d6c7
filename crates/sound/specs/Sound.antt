-- "A state is sound when:"
--
--    contact_sound within held run    what is asked of a contact, within the size or not
--    key_sound size k held run        what is asked of key k; place_sound: of the key in a row and column; keys_sound: of all keys
--    codes_sound size q               what is asked of the codes that wait
--    rest_unused q                    what is asked of the places after them
--    sound m                          the state is sound, computed
--    Sound m                          the same as facts, a field for each
use Rattle.std.specs.Prelude.{ℕ, ◌+◌, ◌*◌, ◌≤◌, ◌<◌, ◌≡◌, Bool, true, false, not, ◌&&◌, ◌||◌, List, [], ◌∷◌, get_or, drop, leb, eqb}
use Rattle.std.specs.Bool.{beq}
use Rattle.words.specs.Words.{every, all, all_below}
use Rattle.keys.specs.Keys.{acceptable, key_of, in_size, key_in}
use Rattle.state.specs.declared.Module.{Module}
use Rattle.state.specs.Module.{Queue, queue_of}
use Rattle.state.specs.Queue.{waiting}
use Rattle.picture.specs.Picture.{all_read}

-- "no key out of the size is held or has a run of samples remembered; no run is above 254"
abbrev pub contact_sound : Bool → Bool → ℕ → Bool
contact_sound within held run = (within || (not held && eqb run 0)) && leb run 254

unfoldable pub key_sound : ℕ → ℕ → Bool → ℕ → Bool
key_sound size k held run = contact_sound (key_in size k) held run

-- the same by the key's row and column, as the code walks them
unfoldable pub place_sound : ℕ → ℕ → List Bool → List ℕ → ℕ → Bool
place_sound size row held run col = contact_sound (in_size size row col) (get_or held (13 * row + col) false) (get_or run (13 * row + col) 0)

unfoldable pub keys_sound : ℕ → List Bool → List ℕ → Bool
keys_sound size held run = all_below (λ k. key_sound size k (get_or held k false) (get_or run k 0)) 104

-- "each a press or release code of a key in the size"
unfoldable pub codes_sound : ℕ → Queue → Bool
codes_sound size q = all (λ c. key_in size (key_of c)) (waiting q)

-- "unused places hold 0x7F"
unfoldable pub rest_unused : Queue → Bool
rest_unused q = all (λ c. eqb c 0x7F) (drop q.count q.places)

unfoldable pub sound : Module → Bool
sound m =
    every (
    -- "KBDSIZE is acceptable"
    acceptable m.size
    -- "no key out of the size is held or has a run of samples remembered; no run is above 254"
    ∷ keys_sound m.size m.held m.run
    -- "at most 15 codes wait"
    ∷ leb m.count 15
    -- "each a press or release code of a key in the size"
    ∷ codes_sound m.size (queue_of m)
    -- "unused places hold 0x7F"
    ∷ rest_unused (queue_of m)
    -- "KBDMSK is at most 0x0F"
    ∷ leb m.mask 0x0F
    -- "the four picture registers aren't all marked read"
    ∷ not (all_read m.seen)
    -- document 02, E7: "the count is at most 255, and 255 exactly while asleep"
    ∷ leb m.quiet 255
    ∷ beq m.asleep (eqb m.quiet 255)
    ∷ [])

pub record Sound (m : Module) : Type 0 where
  pub size : acceptable m.size ≡ true
  pub keys : (k : ℕ) → k < 104 → key_sound m.size k (get_or m.held k false) (get_or m.run k 0) ≡ true
  pub few : m.count ≤ 15
  pub codes : codes_sound m.size (queue_of m) ≡ true
  pub rest : rest_unused (queue_of m) ≡ true
  pub mask : m.mask ≤ 0x0F
  pub marks : all_read m.seen ≡ false
  pub counted : m.quiet ≤ 255
  pub asleep : m.asleep ≡ eqb m.quiet 255
