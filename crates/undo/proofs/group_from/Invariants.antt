-- `undo::group_from` meets its contract. The loop's invariant: the codes up to place i are a group that is open.
use mathlib.Core.Path.{◌≡◌}
use lib.ListN.{drop}
use Rattle.undo.specs.Groups.{groups_of, ends_with_release}
use Rattle.undo.proofs.Following.{open_at}
use Rattle.undo.proofs.group_from.Given as goal

abbrev pub invariant-loop-i : goal.invariant-loop-i
invariant-loop-i l =
    groups_of (ends_with_release l.trim) l.trim (drop l.at l.codes) ≡ open_at (ends_with_release l.trim) l.trim l.codes l.at l.i
