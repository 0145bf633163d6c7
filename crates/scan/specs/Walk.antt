-- A look as the code walks it, key by key. What a look does is said in Scan alone; this is for the contracts of the walk's own functions.
--
--    Parts, parts h r q a         what a look's walk alters: the keys held, their runs, the queue, and whether a key has changed
--    parts_of m a                 these parts of the module m, a being whether a key has changed
--    with_parts m p               the module m, with these parts for its own
--    Walked p a b any             the walk makes the module b of a, with the parts p, and tells whether a key has changed
--    counted x size row col       a key's sample, x being its row's
--    shows x size row col         what the look shows of the key
--    first_shown x size row       the row's first column that the look shows
--    at_key d k sight p           the parts p after a look at key k, d being the bounce
--    at_row d size x row p n      the parts p after the row's keys in columns below n
--    at_rows d size s p n         the parts p after the rows below n, s being the samples
--    runs run                     some key has a run
--    Still size held run          every key out of the size is open and has no run, and there are at most 8 rows
use Rattle.std.specs.Prelude.{ℕ, zero, suc, ◌+◌, ◌*◌, ◌/◌, ◌≤◌, ◌<◌, ◌≡◌, Bool, false, not, ◌&&◌, ◌||◌, List, get_or, set, ltb, eqb}
use Rattle.words.specs.Words.{◌if◌, ◌else◌, all_below, bit}
use Rattle.keys.specs.Keys.{code, in_size, key_in}
use Rattle.contact.specs.declared.Contact.{Contact}
use Rattle.contact.specs.declared.Sight.{Sight}
use Rattle.contact.specs.Contact.{stepped, sight_of}
use Rattle.state.specs.declared.Module.{Module}
use Rattle.state.specs.Module.{Queue, queue_of, with_keys, with_queue}
use Rattle.state.specs.Queue.{put}

pub record Parts : Type 0 where
  pub held : List Bool
  pub run : List ℕ
  pub queue : Queue
  pub any : Bool

abbrev pub parts : List Bool → List ℕ → Queue → Bool → Parts
parts held run queue any = record { held = held; run = run; queue = queue; any = any }

abbrev pub parts_of : Module → Bool → Parts
parts_of m any = parts m.held m.run (queue_of m) any

abbrev pub with_parts : Module → Parts → Module
with_parts m p = with_queue (with_keys m p.held p.run) p.queue

abbrev pub Walked : Parts → Module → Module → Bool → Type 0
Walked p a b any = (b ≡ with_parts a p) × (any ≡ p.any)

unfoldable pub counted : ℕ → ℕ → ℕ → ℕ → Bool
counted x size row col = bit col x if in_size size row col else false

unfoldable pub shows : ℕ → ℕ → ℕ → ℕ → Sight
shows x size row col = sight_of (ltb col 12 && counted x size row 12) (counted x size row col)

unfoldable pub first_shown : ℕ → ℕ → ℕ → ℕ
first_shown x size row = 12 if counted x size row 12 else 0

-- the parts p, key k's contact having become x
abbrev pub became : ℕ → Parts → Contact → Parts
became k p x =
    parts (set p.held k x.held) (set p.run k x.run)
    (put p.queue (code k x.held) if x.changed else p.queue) (p.any || x.changed)

unfoldable pub at_key : ℕ → ℕ → Sight → Parts → Parts
at_key d k o p = became k p (stepped (get_or p.held k false) (get_or p.run k 0) o d)

unfoldable pub at_row : ℕ → ℕ → ℕ → ℕ → Parts → ℕ → Parts
at_row d size x row p zero = p
at_row d size x row p (suc col) = at_key d (13 * row + col) (shows x size row col) (at_row d size x row p col)

unfoldable pub at_rows : ℕ → ℕ → List ℕ → Parts → ℕ → Parts
at_rows d size s p zero = p
at_rows d size s p (suc row) = at_row d size (get_or s row 0) row (at_rows d size s p row) 13

-- a contact is settling exactly if it has a run
unfoldable pub runs : List ℕ → Bool
runs run = not (all_below (λ k. eqb (get_or run k 0) 0) 104)

-- what soundness says of the keys that a look need not walk
pub record Still (size : ℕ) (held : List Bool) (run : List ℕ) : Type 0 where
  pub rows : size / 16 ≤ 8
  pub keys : (k : ℕ) → k < 104 → key_in size k ≡ false → (get_or held k false ≡ false) × (get_or run k 0 ≡ 0)
