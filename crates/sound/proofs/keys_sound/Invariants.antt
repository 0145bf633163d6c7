-- `sound::keys_sound` meets its contract. The loop's invariant: the keys of the rows below are sound.
use Prim.Native.Nat.{◌*◌}
use mathlib.Core.Path.{◌≡◌}
use mathlib.Core.Bool.{true, false}
use lib.ListN.{get_or}
use Rattle.words.specs.Words.{all_below}
use Rattle.sound.specs.Sound.{key_sound}
use Rattle.sound.proofs.keys_sound.Given as goal

abbrev pub invariant-loop-row : goal.invariant-loop-row
invariant-loop-row l = all_below (λ j. key_sound l.m.size j (get_or l.m.held j false) (get_or l.m.run j 0)) (13 * l.row) ≡ true
