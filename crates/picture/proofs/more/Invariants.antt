-- `picture::more` meets its contract. The loop's invariant: whether a key of the rows from the first on is held is whether one is from this row on.
use mathlib.Core.Path.{◌≡◌}
use lib.ListN.{drop}
use Rattle.picture.specs.Picture.{more}
use Rattle.picture.specs.Masks.{by_masks}
use Rattle.picture.proofs.more.Given as goal

abbrev pub invariant-loop-row : goal.invariant-loop-row
invariant-loop-row l = more (by_masks l.from (drop l.from l.rows)) ≡ more (by_masks l.row (drop l.row l.rows))
