-- `calls::lent::read` meets its contract: each return is declined at its line, with the buffer as it was, or done.
use mathlib.Core.Path.{◌≡◌, sym, ◌∙◌, ap}
use borrow.Author.Rules.{rules}
use lib.ListN.{length}
use Rattle.std.specs.Prelude.{Err}
use Rattle.judge.proofs.Laws.{read_allowed}
use Rattle.state.specs.Module.{woken}
use Rattle.access.specs.Accesses.{read_all, bytes_read}
use Rattle.calls.specs.Calls.{read_number, read_call}
use Rattle.calls.proofs.Laws.{access_err, access_ok, still_awake, access_slept, access_declined, access_done, buffer_done, buffer_declined, read_awake}
use Rattle.calls.proofs.lent.read.Goals as goal

pub returns-in_err-of_sleep : goal.returns-in_err-of_sleep
unfolding read_call read_number
returns-in_err-of_sleep c =
    let a = c.args in
    let r = c.in_err-of_sleep.field-0.0 in
    let same : c.from_residual.result ≡ Err r = search rules in
    let e = c.in_err-of_sleep.ensures in
    rw same (access_slept a.m.now _ _ _ r e.0 e.1, buffer_declined a.m.now _ a.out.now r (access_err a.m.now _ r e.0))

pub returns-in_err-of_read : goal.returns-in_err-of_read
unfolding read_call read_number
returns-in_err-of_read c =
    let a = c.args in
    let r = c.in_err-of_read.field-0.0 in
    let same : c.from_residual-in_err-of_read.result ≡ Err r = search rules in
    let ok = c.in_ok-of_sleep.ensures in
    let e = rw c.from-first.ensures at c.in_err-of_read.ensures in
    rw same
    (access_declined a.m.now _ _ _ ok.0 r ok.1 e (read_awake a.first _ _ e), buffer_declined a.m.now _ a.out.now r (e ∙ access_ok a.m.now _ ok.0))

pub read-requires : goal.read-requires
read-requires c = read_allowed _ (length c.args.out.now) (sym c.in_ok-of_read.ensures)

pub returns : goal.returns
unfolding read_call read_number
returns c =
    let a = c.args in
    let n = length a.out.now in
    let first = c.from-first.ensures in
    let ok = c.in_ok-of_sleep.ensures.0 in
    let same = still_awake a.m.now _ ok c.in_ok-of_sleep.ensures.1 in
    let good = rw first at c.in_ok-of_read.ensures in (
      access_done a.m.now _ _ _ ok good (c.wake.ensures ∙ ap woken c.read.ensures.0 ∙ (λ i. woken (read_all (same i) (first i) n))),
      buffer_done a.m.now _ a.out.now _ (c.read.ensures.1 ∙ (λ i. bytes_read (same i) (first i) n)) (good ∙ access_ok a.m.now _ ok),
    )
