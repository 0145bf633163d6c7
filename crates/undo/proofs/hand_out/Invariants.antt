-- `undo::hand_out` meets its contract. The loop's invariant: so many groups are handed out, and the rest is cut from place `at` on.
use Prim.Native.Nat.{◌-◌, ◌≤◌}
use mathlib.Core.Path.{◌≡◌}
use lib.ListN.{length}
use Rattle.undo.specs.Groups.{ends_with_release}
use Rattle.undo.proofs.Following.{HandedOut}
use Rattle.undo.proofs.hand_out.Given as goal

abbrev pub invariant-loop-at : goal.invariant-loop-at
invariant-loop-at l =
    (l.at ≤ length l.codes) × ((length l.ends ≡ length l.initial.ends) × HandedOut (ends_with_release l.trim) l.trim l.codes l.groups l.at l.initial.ends l.ends)

abbrev pub decreases-loop-at : goal.decreases-loop-at
decreases-loop-at l = length l.codes - l.at
