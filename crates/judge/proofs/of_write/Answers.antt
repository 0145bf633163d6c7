-- `judge::of_write` meets its contract: declined as an access, or else by its bytes.
use mathlib.Core.Path.{sym, ◌∙◌, ap}
use mathlib.Core.Bool.{not}
use borrow.Author.Rules.{rules}
use Rattle.numbers.proofs.Laws.{line_yes, line_no, lines_end}
use Rattle.judge.proofs.Laws.{write_err, write_rest}
use Rattle.judge.proofs.of_write.Goals as goal

pub returns-in_err-of_access : goal.returns-in_err-of_access
returns-in_err-of_access c = search (rules, write_err)

pub returns-then-not-are_fit : goal.returns-then-not-are_fit
returns-then-not-are_fit c =
    let a = c.args in
    sym (line_yes _ 6 _ (ap not (sym c.if-not-are_fit.ensures))) ∙ write_rest a.first a.bytes.now c.in_ok-of_access.ensures

pub returns : goal.returns
returns c =
    let a = c.args in
    sym (line_no _ 6 _ (ap not (sym c.if-not-are_fit.ensures)) ∙ lines_end) ∙ write_rest a.first a.bytes.now c.in_ok-of_access.ensures
