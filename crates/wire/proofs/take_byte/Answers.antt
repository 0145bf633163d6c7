-- `wire::take_byte` meets its contract: by what the wire is doing, and whether it has room.
use native.Mathlib.Omega.{arith}
use Rattle.wire.proofs.Laws.{told_kept, byte_names, byte_refused, byte_nowhere, byte_over, byte_kept}
use Rattle.wire.proofs.take_byte.Goals as goal

pub returns-in-1 : goal.returns-in-1
returns-in-1 c = told_kept _ (byte_names c.args.w.now _ c.in-1.is)

pub returns-in-4 : goal.returns-in-4
returns-in-4 c = told_kept _ (byte_refused c.args.w.now _ (λ e. omega arith) c.in-4.is)

pub returns-in-2 : goal.returns-in-2
returns-in-2 c = told_kept _ (byte_kept c.args.w.now _ (λ e. omega arith) (λ e. omega arith) c.in-2.is c.if-w-lt33.true)

pub returns-in_default : goal.returns-in_default
returns-in_default c = told_kept _ (byte_over c.args.w.now _ (λ e. omega arith) (λ e. omega arith) c.in-2.is c.if-w-lt33.false)

pub returns-in_default-2 : goal.returns-in_default-2
returns-in_default-2 c = told_kept _ (byte_nowhere c.args.w.now _ (λ e. omega arith) (λ e. omega arith) (λ e. omega arith))
