-- `undo::stand_at` meets its contract. The loop's invariant: what stands at the place is among the marks from place `at` on.
use Prim.Native.Nat.{◌-◌}
use mathlib.Core.Path.{◌≡◌}
use Rattle.undo.specs.Groups.{ends_with_release}
use Rattle.undo.specs.Stands.{marks_of, stand_at}
use Rattle.undo.proofs.Following.{marks_at}
use Rattle.undo.proofs.stand_at.Given as goal

abbrev pub invariant-loop-at : goal.invariant-loop-at
invariant-loop-at l =
    stand_at l.place (marks_of (ends_with_release l.trim) l.trim l.codes) ≡ stand_at l.place (marks_at (ends_with_release l.trim) l.trim l.codes l.at)

abbrev pub decreases-loop-at : goal.decreases-loop-at
decreases-loop-at l = l.place - l.at
