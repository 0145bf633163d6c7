-- What one look does to a module.
--
--    sight s size k      what the look with samples s shows of key k's contact: nothing if it is hidden, else its sample
--    contact_at m s k    what the look makes of it
--    changes_below m s n    the codes of the changes of the keys below n, by row, then by column
--    changes m s         the codes of all the look's changes
--    settles_below m s n    some key below n has a contact that is settling after the look
--    calm m s            the look is quiet: no change, no contact settling
--    contacts m s        the state with every key's contact as the look makes it, and the look counted
--    noticed m           what a look with at least one change does to the flags
--    looked m s          the state after the look
use Rattle.std.specs.Prelude.{ℕ, zero, suc, Bool, true, false, not, ◌&&◌, ◌||◌, List, [], ◌∷◌, ◌++◌, get_or}
use Rattle.words.specs.Words.{◌if◌, ◌else◌, some, table}
use Rattle.keys.specs.Keys.{code, sample, hidden}
use Rattle.contact.specs.declared.Contact.{Contact}
use Rattle.contact.specs.declared.Sight.{Sight}
use Rattle.contact.specs.Contact.{stepped, sight_of}
use Rattle.state.specs.declared.Module.{Module}
use Rattle.state.specs.Module.{forgotten, queue_of, sleep_of, with_keys, with_queue, with_rsint, with_rklint, with_seen, with_sleep}
use Rattle.state.specs.Queue.{put_all}
use Rattle.state.specs.Sleep.{counted}

unfoldable pub sight : List ℕ → ℕ → ℕ → Sight
sight s size k = sight_of (hidden s size k) (sample s size k)

unfoldable pub contact_at : Module → List ℕ → ℕ → Contact
contact_at m s k = stepped (get_or m.held k false) (get_or m.run k 0) (sight s m.size k) m.bounce

-- "The changes of one look are taken by row, then by column."
unfoldable pub changes_below : Module → List ℕ → ℕ → List ℕ
changes_below m s zero = []
changes_below m s (suc k) = changes_below m s k ++ ((code k (sample s m.size k) ∷ []) if (contact_at m s k).changed else [])

unfoldable pub changes : Module → List ℕ → List ℕ
changes m s = changes_below m s 104

unfoldable pub settles_below : Module → List ℕ → ℕ → Bool
settles_below m s zero = false
settles_below m s (suc k) = settles_below m s k || (contact_at m s k).settling

-- document 02, E7: "with no change, no settling"
unfoldable pub calm : Module → List ℕ → Bool
calm m s = not (some (changes m s)) && not (settles_below m s 104)

-- "The key counts as changed either way." [its change queued or dropped]
unfoldable pub contacts : Module → List ℕ → Module
contacts m s = with_sleep (with_keys m (table (λ k. (contact_at m s k).held) 104) (table (λ k. (contact_at m s k).run) 104)) (counted (sleep_of m) (calm m s))

-- "if RSINT is already set, set RKLINT; set RSINT; forget which picture registers were read"
unfoldable pub noticed : Module → Module
noticed m = with_seen (with_rsint (with_rklint m (m.rklint || m.rsint)) true) forgotten

-- "A look with at least one change does this"
unfoldable pub looked : Module → List ℕ → Module
looked m s = noticed (with_queue (contacts m s) (put_all (queue_of m) (changes m s))) if some (changes m s) else contacts m s
