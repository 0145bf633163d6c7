-- `calls::lent::interrupt` meets its contract: declined for an unsound state, or done.
use mathlib.Core.Path.{◌≡◌}
use borrow.Author.Rules.{rules}
use Rattle.std.specs.Prelude.{Err}
use Rattle.calls.specs.Calls.{interrupt_call}
use Rattle.calls.proofs.Laws.{answer_done, answer_declined}
use Rattle.calls.proofs.lent.interrupt.Goals as goal

pub returns-in_err-of_state : goal.returns-in_err-of_state
unfolding interrupt_call
returns-in_err-of_state c =
    let r = c.in_err-of_state.field-0.0 in
    let same : c.from_residual.result ≡ Err r = search rules in
    rw same (answer_declined c.args.m.now _ _ r c.in_err-of_state.ensures)

pub returns : goal.returns
unfolding interrupt_call
returns c = answer_done _ _ _ _ c.line.ensures c.in_ok-of_state.ensures
