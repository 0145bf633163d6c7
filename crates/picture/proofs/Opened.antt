-- EVERY DEFINITION of the crate and of the crates below, opened by one name: a proof by computing says `unfolding opened`.
use mathlib.Core.Bool.{Bool, true}
use Rattle.keys.proofs.Opened as keys
use Rattle.state.proofs.Opened as state
use Rattle.picture.specs.Picture.{held_codes, more, nth, picture, all_read, marked}
use Rattle.picture.specs.Masks.{mask_at, masks, codes_in, first_of, but_first, by_masks}

unfoldable pub opened : Bool
unfolding keys.opened state.opened
    held_codes more nth picture all_read marked
    mask_at masks codes_in first_of but_first by_masks
opened = true
