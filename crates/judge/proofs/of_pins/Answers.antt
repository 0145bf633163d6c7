-- `judge::of_pins` meets its contract: each return stops at its line or has passed it.
use mathlib.Core.Path.{sym, ◌∙◌}
use borrow.Author.Tests.{le-leb, lt-leb}
use Rattle.numbers.proofs.Laws.{line_yes, line_no, lines_end}
use Rattle.judge.specs.Lines.{pin_lines}
use Rattle.judge.proofs.of_pins.Goals as goal

pub returns-then-samples-ge524288 : goal.returns-then-samples-ge524288
unfolding pin_lines
returns-then-samples-ge524288 c = sym (line_yes _ 26 _ (le-leb _ _ c.if-samples-ge524288.true))

pub returns : goal.returns
unfolding pin_lines
returns c = sym (line_no _ 26 _ (lt-leb _ _ c.if-samples-ge524288.false) ∙ lines_end)
