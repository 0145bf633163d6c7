-- `calls::lent::pins` meets its contract: each return is declined at its line, or done.
use mathlib.Core.Path.{◌≡◌, ap, ◌∙◌}
use borrow.Author.Rules.{rules}
use Rattle.std.specs.Prelude.{Err}
use Rattle.state.specs.Module.{with_pins}
use Rattle.calls.specs.Calls.{pins_number, sampling, pins_call}
use Rattle.calls.proofs.Laws.{state_err, state_ok, outcome_done, outcome_declined}
use Rattle.calls.proofs.lent.pins.Goals as goal

pub returns-in_err-of_state : goal.returns-in_err-of_state
unfolding pins_call pins_number
returns-in_err-of_state c =
    let r = c.in_err-of_state.field-0.0 in
    let same : c.from_residual.result ≡ Err r = search rules in
    rw same (outcome_declined c.args.m.now _ _ r (state_err _ _ r c.in_err-of_state.ensures))

pub returns-in_err-of_pins : goal.returns-in_err-of_pins
unfolding pins_call pins_number
returns-in_err-of_pins c =
    let r = c.in_err-of_pins.field-0.0 in
    let same : c.from_residual-in_err-of_pins.result ≡ Err r = search rules in
    rw same (outcome_declined c.args.m.now _ _ r (c.in_err-of_pins.ensures ∙ state_ok _ _ c.in_ok-of_state.ensures))

pub returns : goal.returns
unfolding pins_call pins_number sampling
returns c = outcome_done _ _ _ _ (ap (with_pins c.args.m.now) c.sample.ensures) (c.in_ok-of_pins.ensures ∙ state_ok _ _ c.in_ok-of_state.ensures)
