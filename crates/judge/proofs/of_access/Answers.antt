-- `judge::of_access` meets its contract: each return stops at its line and has passed those before it.
use native.Mathlib.Omega.{arith}
use mathlib.Core.Path.{sym, ◌∙◌, ap}
use mathlib.Core.Bool.{not}
use borrow.Author.Tests.{eq-eqb, ne_eqb, lt-ltb, le-ltb}
use Rattle.numbers.proofs.Laws.{line_yes, line_no, lines_end}
use Rattle.judge.specs.Lines.{access_lines}
use Rattle.judge.proofs.of_access.Goals as goal

pub returns-then-count-lt1 : goal.returns-then-count-lt1
unfolding access_lines
returns-then-count-lt1 c = let n = c.args.count in sym (line_yes _ 3 _ (eq-eqb n 0 (omega arith)))

pub returns-then-count-gt32 : goal.returns-then-count-gt32
unfolding access_lines
returns-then-count-gt32 c = let n = c.args.count in sym (line_no _ 3 _ (ne_eqb n 0 (omega arith)) ∙ line_yes _ 4 _ (lt-ltb _ _ c.if-count-gt32.true))

pub returns-then-not-is_run_allowed : goal.returns-then-not-is_run_allowed
unfolding access_lines
returns-then-not-is_run_allowed c =
    let n = c.args.count in
    let some = ne_eqb n 0 (omega arith) in
    let few = le-ltb _ _ c.if-count-gt32.false in
    sym (line_no _ 3 _ some ∙ line_no _ 4 _ few ∙ line_yes _ 5 _ (ap not (sym c.if-not-is_run_allowed.ensures)))

pub returns : goal.returns
unfolding access_lines
returns c =
    let n = c.args.count in
    let some = ne_eqb n 0 (omega arith) in
    let few = le-ltb _ _ c.if-count-gt32.false in
    sym (line_no _ 3 _ some ∙ line_no _ 4 _ few ∙ line_no _ 5 _ (ap not (sym c.if-not-is_run_allowed.ensures)) ∙ lines_end)
