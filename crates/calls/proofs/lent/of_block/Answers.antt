-- `calls::lent::of_block` meets its contract: declined at one of a block's lines, or passed.
use mathlib.Core.Path.{◌≡◌, sym, ap, ◌∙◌}
use mathlib.Core.Bool.{not}
use borrow.Author.Rules.{rules}
use Rattle.std.specs.Prelude.{Err}
use borrow.Author.Tests.{ne_eqb, eq-eqb}
use Rattle.numbers.proofs.Laws.{line_yes, line_no, lines_end}
use Rattle.calls.specs.Blocks.{block_lines}
use Rattle.calls.proofs.Laws.{state_err, state_ok}
use Rattle.calls.proofs.lent.of_block.Goals as goal

pub returns-in_err-of_state : goal.returns-in_err-of_state
unfolding block_lines
returns-in_err-of_state c =
    let r = c.in_err-of_state.field-0.0 in
    let same : c.from_residual.result ≡ Err r = search rules in
    rw same (state_err c.args.m.now _ r c.in_err-of_state.ensures)

pub returns-then-samples-ne0 : goal.returns-then-samples-ne0
unfolding block_lines
returns-then-samples-ne0 c =
    sym (line_yes _ 1 _ (ap not (ne_eqb _ 0 c.if-samples-ne0.true))) ∙ state_ok _ _ c.in_ok-of_state.ensures

pub returns : goal.returns
unfolding block_lines
returns c =
    sym (line_no _ 1 _ (ap not (eq-eqb _ 0 c.if-samples-ne0.false)) ∙ lines_end) ∙ state_ok _ _ c.in_ok-of_state.ensures
