-- `calls::lent::write` meets its contract: each return is declined at its line, or done.
use mathlib.Core.Path.{◌≡◌, ◌∙◌, ap}
use borrow.Author.Rules.{rules}
use Rattle.std.specs.Prelude.{Err}
use Rattle.state.specs.Module.{woken}
use Rattle.access.specs.Accesses.{wrote}
use Rattle.calls.specs.Calls.{write_number, write_call}
use Rattle.calls.proofs.Laws.{still_awake, access_slept, access_declined, access_done, write_awake}
use Rattle.calls.proofs.lent.write.Goals as goal

pub returns-in_err-of_sleep : goal.returns-in_err-of_sleep
unfolding write_call write_number
returns-in_err-of_sleep c =
    let r = c.in_err-of_sleep.field-0.0 in
    let same : c.from_residual.result ≡ Err r = search rules in
    rw same (access_slept c.args.m.now _ _ _ r c.in_err-of_sleep.ensures.0 c.in_err-of_sleep.ensures.1)

pub returns-in_err-of_write : goal.returns-in_err-of_write
unfolding write_call write_number
returns-in_err-of_write c =
    let r = c.in_err-of_write.field-0.0 in
    let same : c.from_residual-in_err-of_write.result ≡ Err r = search rules in
    let ok = c.in_ok-of_sleep.ensures in
    let e = rw c.from-first.ensures at c.in_err-of_write.ensures in
    rw same (access_declined c.args.m.now _ _ _ ok.0 r ok.1 e (write_awake c.args.first _ _ e))

pub returns : goal.returns
unfolding write_call write_number
returns c =
    let a = c.args in
    let ok = c.in_ok-of_sleep.ensures.0 in
    access_done a.m.now _ _ _ ok (rw c.from-first.ensures at c.in_ok-of_write.ensures)
    (c.wake.ensures ∙ ap woken c.write.ensures ∙ (λ i. woken (wrote (still_awake a.m.now _ ok c.in_ok-of_sleep.ensures.1 i) (c.from-first.ensures i) a.bytes.now)))
