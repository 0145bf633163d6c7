-- `judge::of_samples` meets its contract: each return stops at its line and has passed those before it.
use mathlib.Core.Path.{sym, ◌∙◌, ap}
use mathlib.Core.Bool.{not}
use borrow.Author.Tests.{eq-eqb, ne_eqb}
use Rattle.numbers.proofs.Laws.{line_yes, line_no, lines_end}
use Rattle.judge.specs.Lines.{sample_lines}
use Rattle.judge.proofs.of_samples.Goals as goal

pub returns-then-samples-ne8 : goal.returns-then-samples-ne8
unfolding sample_lines
returns-then-samples-ne8 c = sym (line_yes _ 1 _ (ap not (ne_eqb _ _ c.if-samples-ne8.true)))

pub returns-then-not-are_narrow : goal.returns-then-not-are_narrow
unfolding sample_lines
returns-then-not-are_narrow c =
    let eight = ap not (eq-eqb _ _ c.if-samples-ne8.false) in
    sym (line_no _ 1 _ eight ∙ line_yes _ 2 _ (ap not (sym c.if-not-are_narrow.ensures)))

pub returns : goal.returns
unfolding sample_lines
returns c =
    let eight = ap not (eq-eqb _ _ c.if-samples-ne8.false) in
    sym (line_no _ 1 _ eight ∙ line_no _ 2 _ (ap not (sym c.if-not-are_narrow.ensures)) ∙ lines_end)
