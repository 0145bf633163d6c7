-- EVERY DEFINITION of the crate and of the crates below, opened by one name: a proof by computing says `unfolding opened`.
use mathlib.Core.Bool.{Bool, true}
use Rattle.words.proofs.Opened as words
use Rattle.contact.specs.Contact.{looks, opposite, changes, samples, held_after, run_of, settling, moved, sampled, stepped, sight_of, exists, is_closed, existing}

unfoldable pub opened : Bool
unfolding words.opened
    looks opposite changes samples held_after run_of settling moved sampled stepped sight_of exists is_closed existing
opened = true
