-- `picture::shown_of` meets its contract. The loop's invariant: register n shows of all rows what register `rest` would of the keys left from this row on.
use mathlib.Core.Path.{◌≡◌}
use Prim.Native.Nat.{◌+◌, ◌-◌, ◌*◌, ◌≤◌, ◌<◌}
use Rattle.picture.specs.Picture.{nth}
use Rattle.picture.specs.Masks.{by_masks, codes_from}
use Rattle.picture.proofs.shown_of.Given as goal

abbrev pub invariant-loop-row : goal.invariant-loop-row
invariant-loop-row l = (l.mask < 65536) × (l.mask ≤ 65536 * (8 - l.row)) × (nth l.n (by_masks 0 l.rows) ≡ nth l.rest (codes_from l.rows l.row l.mask))

abbrev pub decreases-loop-row : goal.decreases-loop-row
decreases-loop-row l = 8 - l.row + l.rest
