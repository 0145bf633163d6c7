-- `undo::of_place` meets its contract: the place is beyond the end, or the list decides.
use mathlib.Core.Path.{sym, ◌∙◌}
use borrow.Author.Tests.{lt-ltb, le-ltb}
use Rattle.numbers.proofs.Laws.{line_yes, line_no}
use Rattle.undo.specs.Places.{place_lines}
use Rattle.undo.proofs.of_place.Goals as goal

pub returns-then-codes-place : goal.returns-then-codes-place
unfolding place_lines
returns-then-codes-place c = sym (line_yes _ 22 _ (lt-ltb _ _ c.if-codes-place.true))

pub returns : goal.returns
unfolding place_lines
returns c = c.of_list.ensures ∙ sym (line_no _ 22 _ (le-ltb _ _ c.if-codes-place.false))
