-- `calls::lent::look` meets its contract: each return is declined at its line, or done.
use mathlib.Core.Path.{◌≡◌, sym, ◌∙◌}
use mathlib.Core.List.{[]}
use borrow.Author.Rules.{rules}
use Rattle.std.specs.Prelude.{Err}
use Rattle.judge.proofs.Laws.{eight_samples}
use Rattle.calls.specs.Calls.{look_lines, look_number, look_call}
use Rattle.calls.proofs.Kept.{still}
use Rattle.calls.proofs.Laws.{state_err, state_ok, state_sound, outcome_done, outcome_declined}
use Rattle.calls.proofs.lent.look.Goals as goal

pub returns-in_err-of_state : goal.returns-in_err-of_state
unfolding look_call look_number look_lines
returns-in_err-of_state c =
    let r = c.in_err-of_state.field-0.0 in
    let same : c.from_residual.result ≡ Err r = search rules in
    rw same (outcome_declined c.args.m.now _ _ r (state_err _ _ r c.in_err-of_state.ensures))

pub returns-in_err-of_samples : goal.returns-in_err-of_samples
unfolding look_call look_number look_lines
returns-in_err-of_samples c =
    let r = c.in_err-of_samples.field-0.0 in
    let same : c.from_residual-in_err-of_samples.result ≡ Err r = search rules in
    rw same (outcome_declined c.args.m.now _ _ r (c.in_err-of_samples.ensures ∙ state_ok _ _ c.in_ok-of_state.ensures))

pub look-requires : goal.look-requires
look-requires c = (eight_samples _ (sym c.in_ok-of_samples.ensures), still _ (state_sound _ [] c.in_ok-of_state.ensures))

pub returns : goal.returns
unfolding look_call look_number look_lines
returns c = outcome_done _ _ _ _ c.look.ensures (c.in_ok-of_samples.ensures ∙ state_ok _ _ c.in_ok-of_state.ensures)
