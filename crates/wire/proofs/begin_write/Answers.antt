-- `wire::begin_write` meets its contract: declined as an access, or begun.
use mathlib.Core.Path.{◌≡◌}
use borrow.Author.Rules.{rules}
use Rattle.std.specs.Prelude.{Err}
use Rattle.wire.proofs.Laws.{write_declined, write_begun}
use Rattle.wire.proofs.begin_write.Goals as goal

pub returns-in_err-of_access : goal.returns-in_err-of_access
returns-in_err-of_access c =
    let a = c.args in
    let r = c.in_err-of_access.field-0.0 in
    let same : c.from_residual.result ≡ Err r = search rules in
    rw same (write_declined a.m.now a.w.now _ c.open.ensures r c.in_err-of_access.ensures)

pub returns : goal.returns
returns c = write_begun _ _ _ c.open.ensures c.in_ok-of_access.ensures
