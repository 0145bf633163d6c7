-- `calls::lent::of_sleep` meets its contract: the first two lines of an access.
use mathlib.Core.Path.{◌≡◌}
use borrow.Author.Rules.{rules}
use Rattle.std.specs.Prelude.{Err}
use Rattle.calls.proofs.Laws.{slept_unsound, slept_woken, slept_awake}
use Rattle.calls.proofs.lent.of_sleep.Goals as goal

pub returns-in_err-of_state : goal.returns-in_err-of_state
returns-in_err-of_state c =
    let r = c.in_err-of_state.field-0.0 in
    let same : c.from_residual.result ≡ Err r = search rules in
    rw same (slept_unsound c.args.m.now r c.in_err-of_state.ensures)

pub returns-then-m : goal.returns-then-m
returns-then-m c = slept_woken _ c.in_ok-of_state.ensures c.if-m.true c.wake.ensures

pub returns : goal.returns
returns c = slept_awake _ c.in_ok-of_state.ensures c.if-m.false
