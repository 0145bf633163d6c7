-- `wire::begin_read` meets its contract: declined as an access, or at the address, or all that can be read is made ahead.
use native.Mathlib.Omega.{arith}
use mathlib.Core.Path.{◌≡◌}
use borrow.Author.Rules.{rules}
use Rattle.std.specs.Prelude.{Err}
use Rattle.wire.proofs.Laws.{one_err, read_declined, run_ahead, read_none, read_begun}
use Rattle.wire.proofs.begin_read.Goals as goal

pub returns-in_err-of_access : goal.returns-in_err-of_access
returns-in_err-of_access c =
    let a = c.args in
    let r = c.in_err-of_access.field-0.0 in
    let same : c.from_residual.result ≡ Err r = search rules in
    rw same (read_declined a.m.now a.w.now _ c.open.ensures r (one_err a.m.now _ r c.in_err-of_access.ensures))

pub returns-then-n-lt1 : goal.returns-then-n-lt1
returns-then-n-lt1 c =
    let a = c.args in
    read_none a.m.now a.w.now _ c.open.ensures _ _ c.from-first.ensures c.longest-n.ensures.0 c.in_ok-of_access.ensures c.if-n-lt1.true

pub peek-requires : goal.peek-requires
peek-requires c = run_ahead c.args.m.now c.args.w.now _ c.open.ensures _ _ c.from-first.ensures c.longest-n.ensures.0

pub returns : goal.returns
returns c =
    let a = c.args in
    read_begun a.m.now a.w.now _ c.open.ensures _ _ c.from-first.ensures c.longest-n.ensures.0 c.in_ok-of_access.ensures (omega (arith, c.if-n-lt1.false)) _ c.peek.ensures
