-- `codes::follow` meets its contract: a code of no key speaks of a place past the table's end, where nothing is written.
use native.Mathlib.Omega.{arith}
use mathlib.Core.Path.{sym}
use Rattle.keys.specs.Replay.{is_press}
use Rattle.codes.specs.Codes.{after}
use Rattle.codes.proofs.Laws.{after_out}
use Rattle.codes.proofs.follow.Goals as goal

pub returns-then-key-lt-KEYS : goal.returns-then-key-lt-KEYS
unfolding after is_press
returns-then-key-lt-KEYS c = rw c.key_of-key.ensures

pub returns-else-key-lt-KEYS : goal.returns-else-key-lt-KEYS
returns-else-key-lt-KEYS c = let key = c.key_of-key.ensures in sym (after_out _ _ (omega arith))
