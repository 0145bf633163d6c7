-- EVERY DEFINITION of the crate and of the crates below, opened by one name: a proof by computing says `unfolding opened`.
use mathlib.Core.Bool.{Bool, true}
use Rattle.picture.proofs.Opened as picture
use Rattle.sound.specs.Sound.{key_sound, place_sound, keys_sound, codes_sound, rest_unused, sound}

unfoldable pub opened : Bool
unfolding picture.opened
    key_sound place_sound keys_sound codes_sound rest_unused sound
opened = true
