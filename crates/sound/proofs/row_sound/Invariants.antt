-- `sound::row_sound` meets its contract. The loop's invariant: the keys of the row below are sound.
use mathlib.Core.Path.{◌≡◌}
use mathlib.Core.Bool.{true}
use Rattle.words.specs.Words.{all_below}
use Rattle.sound.specs.Sound.{place_sound}
use Rattle.sound.proofs.row_sound.Given as goal

abbrev pub invariant-loop-col : goal.invariant-loop-col
invariant-loop-col l = all_below (place_sound l.m.size l.row l.m.held l.m.run) l.col ≡ true
