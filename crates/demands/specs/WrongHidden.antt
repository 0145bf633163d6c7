-- WRONG MACHINES OF THE HIDDEN ROW: ours, but that a look takes other samples for those that exist. None meets the demands: proofs/RefutedHidden.antt.
--
--    changes_by, settles_by, contacts_by, looked_by c    a look that makes of each key's contact what c says: its changes, whether one is settling, its keys, the state after it
--    showing f         a contact by its step, f telling what the look shows of it
--    matrix k          key k is one of the matrix
--    before            the panel before E3: nothing is hidden
--    held_hides        the row is hidden while its special function key is held, as it was before the look
--    held_hides_after  the same, as it is held after the look
--    hidden_open       a hidden contact counts as open
--    hidden_again      a hidden contact counts as it read last
--    out_hides         a closed special function contact in a row out of the size hides every row
--    hides_itself      a closed special function contact is hidden with its row
--    hidden_changes    a hidden key changes once its run has reached KBDBOUNCE
--    raw_hides         a row out of the size hides its own keys too: no caller can tell
use Rattle.std.specs.Prelude.{ℕ, zero, suc, ◌/◌, Bool, true, false, not, ◌&&◌, ◌||◌, List, [], ◌∷◌, ◌++◌, get_or, leb, ltb}
use Rattle.words.specs.Words.{◌if◌, ◌else◌, some, all_below, bit, table}
use Rattle.keys.specs.Keys.{row_of, col_of, code, sample, special, hidden}
use Rattle.contact.specs.declared.Contact.{Contact}
use Rattle.contact.specs.declared.Sight.{Sight}
use Rattle.contact.specs.Contact.{looks, stepped, sight_of}
use Rattle.state.specs.declared.Module.{Module}
use Rattle.state.specs.Module.{queue_of, sleep_of, with_keys, with_queue, with_sleep}
use Rattle.state.specs.Queue.{put_all}
use Rattle.state.specs.Sleep.{counted}
use Rattle.scan.specs.Scan.{contact_at, noticed}
use Rattle.demands.specs.Machine.{Machine}
use Rattle.demands.specs.Wrong.{looking}

unfoldable pub changes_by : (Module → List ℕ → ℕ → Contact) → Module → List ℕ → ℕ → List ℕ
changes_by c m s zero = []
changes_by c m s (suc k) = changes_by c m s k ++ ((code k (c m s k).held ∷ []) if (c m s k).changed else [])

unfoldable pub settles_by : (Module → List ℕ → ℕ → Contact) → Module → List ℕ → ℕ → Bool
settles_by c m s zero = false
settles_by c m s (suc k) = settles_by c m s k || (c m s k).settling

unfoldable pub contacts_by : (Module → List ℕ → ℕ → Contact) → Module → List ℕ → Module
contacts_by c m s =
    with_sleep (with_keys m (table (λ k. (c m s k).held) 104) (table (λ k. (c m s k).run) 104))
    (counted (sleep_of m) (not (some (changes_by c m s 104)) && not (settles_by c m s 104)))

unfoldable pub looked_by : (Module → List ℕ → ℕ → Contact) → Module → List ℕ → Module
looked_by c m s =
    noticed (with_queue (contacts_by c m s) (put_all (queue_of m) (changes_by c m s 104))) if some (changes_by c m s 104) else contacts_by c m s

unfoldable pub showing : (Module → List ℕ → ℕ → Sight) → Module → List ℕ → ℕ → Contact
showing f m s k = stepped (get_or m.held k false) (get_or m.run k 0) (f m s k) m.bounce

abbrev pub matrix : ℕ → Bool
matrix k = ltb (col_of k) 12

-- ---- "All 13 contacts are read independently", as document 01 had it
unfoldable pub apart : Module → List ℕ → ℕ → Sight
apart m s k = sight_of false (sample s m.size k)

abbrev pub before : Machine
before = looking (looked_by (showing apart))

-- ---- by the key as it is held, not by the contact
unfoldable pub by_held : Module → List ℕ → ℕ → Sight
by_held m s k = sight_of (matrix k && get_or m.held (special k) false) (sample s m.size k)

abbrev pub held_hides : Machine
held_hides = looking (looked_by (showing by_held))

unfoldable pub by_held_after : Module → List ℕ → ℕ → Sight
by_held_after m s k = sight_of (matrix k && (contact_at m s (special k)).held) (sample s m.size k)

abbrev pub held_hides_after : Machine
held_hides_after = looking (looked_by (showing by_held_after))

-- ---- a hidden contact counts all the same
unfoldable pub open_then : Module → List ℕ → ℕ → Sight
open_then m s k = sight_of false (sample s m.size k && not (hidden s m.size k))

abbrev pub hidden_open : Machine
hidden_open = looking (looked_by (showing open_then))

-- with a run it read the opposite of how it is held, and without one the same
unfoldable pub last_read : Module → ℕ → Bool
last_read m k = get_or m.held k false if leb (get_or m.run k 0) 0 else not (get_or m.held k false)

unfoldable pub again : Module → List ℕ → ℕ → Sight
again m s k = sight_of false (last_read m k if hidden s m.size k else sample s m.size k)

abbrev pub hidden_again : Machine
hidden_again = looking (looked_by (showing again))

-- ---- what hides, and what is hidden
-- every row from R on has its special function contact open
unfoldable pub out_open : Module → List ℕ → Bool
out_open m s = all_below (λ row. ltb row (m.size / 16) || not (bit 12 (get_or s row 0))) 8

unfoldable pub by_rows_out : Module → List ℕ → ℕ → Sight
by_rows_out m s k = sight_of (hidden s m.size k || (matrix k && not (out_open m s))) (sample s m.size k)

abbrev pub out_hides : Machine
out_hides = looking (looked_by (showing by_rows_out))

unfoldable pub with_itself : Module → List ℕ → ℕ → Sight
with_itself m s k = sight_of (sample s m.size (special k)) (sample s m.size k)

abbrev pub hides_itself : Machine
hides_itself = looking (looked_by (showing with_itself))

-- ---- "a key with none in a look doesn't change at it"
-- the rule, asked of the samples that were there before
unfoldable pub ripe : Module → List ℕ → ℕ → Contact
ripe m s k =
    record { held = not (get_or m.held k false); run = 0; changed = true; settling = false }
    if hidden s m.size k && leb (looks m.bounce) (get_or m.run k 0)
    else contact_at m s k

abbrev pub hidden_changes : Machine
hidden_changes = looking (looked_by ripe)

-- ---- which is not wrong
unfoldable pub raw : Module → List ℕ → ℕ → Sight
raw m s k = sight_of (matrix k && bit 12 (get_or s (row_of k) 0)) (sample s m.size k)

abbrev pub raw_hides : Machine
raw_hides = looking (looked_by (showing raw))
