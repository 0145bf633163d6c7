-- One contact: document 01's rule over its own history, and the run that is enough to follow it.
--
--    looks D              D, with 0 counting as 1
--    opposite held s      the sample s is the opposite of held
--    changes D held ss    THE RULE: does a contact that is held so change, its samples being ss?
--    Seen                 a sample, with the KBDBOUNCE in force at its look
--    samples h            the samples of a history
--    held_after h         is the contact held after a history?
--    run_of held ss       the run
--    settling held ss     is the contact settling, being held so?
--    sampled              one sample more of a contact of which only the run is remembered
--    stepped              one look more of it, at which it may have no sample: the test of a contact
--    moved x              what a look over many contacts needs of a test x
--    sight_of hidden s    what the look shows: nothing if the contact is hidden, else its sample
--    exists o, is_closed o the contact has a sample in a look that shows o; it reads closed there
--    Look, existing l     a look at the contact, with the KBDBOUNCE in force; the samples of looks that exist
--
-- Samples, histories and looks are newest first. Samples and histories hold the samples since the restart that exist.
use Rattle.std.specs.Prelude.{ℕ, ◌+◌, max, Bool, true, false, not, ◌&&◌, List, [], ◌∷◌, length, take, leb, ltb}
use Rattle.std.specs.Bool.{beq}
use Rattle.words.specs.Words.{◌if◌, ◌else◌, all}
use Rattle.contact.specs.declared.Contact.{Contact}
use Rattle.contact.specs.declared.Moved.{Moved}
use Rattle.contact.specs.declared.Sight.{Sight}
use Rattle.contact.specs.declared.Sight.TheVariants.{Hidden, Open, Closed}

-- "Let D be KBDBOUNCE, with 0 counting as 1"
unfoldable pub looks : ℕ → ℕ
looks d = max d 1

unfoldable pub opposite : Bool → Bool → Bool
opposite held s = not (beq s held)

-- "a key in the size changes exactly when its last D samples since the restart, this look included, exist
-- and are all the opposite of what it was before this look"
unfoldable pub changes : ℕ → Bool → List Bool → Bool
changes d held ss = leb (looks d) (length ss) && all (opposite held) (take (looks d) ss)

-- "D is the value in force at this look; samples taken under an older D still count"
pub record Seen : Type 0 where
  pub bounce : ℕ
  pub closed : Bool

unfoldable pub samples : List Seen → List Bool
samples [] = []
samples (x ∷ h) = x.closed ∷ samples h

-- "After a restart every key is open"
unfoldable pub held_after : List Seen → Bool
held_after [] = false
held_after (x ∷ h) = not (held_after h) if changes x.bounce (held_after h) (samples (x ∷ h)) else held_after h

-- "its run: how many of its newest ones in a row are the opposite of how it is held"
unfoldable pub run_of : Bool → List Bool → ℕ
run_of held [] = 0
run_of held (s ∷ ss) = run_of held ss + 1 if opposite held s else 0

-- document 02, E7: "whether it is settling: its newest existing sample differs from what it is held as"
unfoldable pub settling : Bool → List Bool → Bool
settling held [] = false
settling held (s ∷ ss) = opposite held s

-- what is held, the run, whether it changed, and whether it is settling then, after one more sample
unfoldable pub sampled : Bool → ℕ → Bool → ℕ → Contact
sampled held run s d =
    (record { held = not held; run = 0; changed = true; settling = false } if leb (looks d) (run + 1)
    else record { held = held; run = run + 1; changed = false; settling = true })
    if opposite held s else record { held = held; run = 0; changed = false; settling = false }

-- "a key with none [no sample] in a look doesn't change at it"; it settles by its last sample, which its run tells of
unfoldable pub stepped : Bool → ℕ → Sight → ℕ → Contact
stepped held run Hidden d = record { held = held; run = run; changed = false; settling = ltb 0 run }
stepped held run Open d = sampled held run false d
stepped held run Closed d = sampled held run true d

unfoldable pub moved : Contact → Moved
moved x = record { held = x.held; run = x.run; changed = x.changed }

unfoldable pub sight_of : Bool → Bool → Sight
sight_of hidden closed = Hidden if hidden else (Closed if closed else Open)

pub record Look : Type 0 where
  pub bounce : ℕ
  pub sight : Sight

-- "a key's last D samples are the last D that exist"
unfoldable pub exists : Sight → Bool
exists Hidden = false
exists Open = true
exists Closed = true

unfoldable pub is_closed : Sight → Bool
is_closed Hidden = false
is_closed Open = false
is_closed Closed = true

unfoldable pub existing : List Look → List Seen
existing [] = []
existing (x ∷ l) = record { bounce = x.bounce; closed = is_closed x.sight } ∷ existing l if exists x.sight else existing l
