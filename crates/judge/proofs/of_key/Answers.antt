-- `judge::of_key` meets its contract: each return stops at its line or has passed it.
use mathlib.Core.Path.{sym, ◌∙◌, ap}
use mathlib.Core.Bool.{not}
use Rattle.numbers.proofs.Laws.{line_yes, line_no, lines_end}
use Rattle.judge.specs.Lines.{key_lines}
use Rattle.judge.proofs.of_key.Goals as goal

pub returns-then-not-is_key : goal.returns-then-not-is_key
unfolding key_lines
returns-then-not-is_key c = sym (line_yes _ 7 _ (ap not (sym c.if-not-is_key.ensures)))

pub returns : goal.returns
unfolding key_lines
returns c = sym (line_no _ 7 _ (ap not (sym c.if-not-is_key.ensures)) ∙ lines_end)
