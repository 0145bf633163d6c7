-- `wire::counted` meets its contract: by what the wire is doing.
use native.Mathlib.Omega.{arith}
use Rattle.wire.proofs.Laws.{write_counted, none_counted, read_counted, run_part}
use Rattle.wire.proofs.counted.Goals as goal

pub returns-in-2 : goal.returns-in-2
returns-in-2 c = write_counted c.args.m.now c.args.w.now c.args.sent _ c.in-2.is (omega arith)

pub agreed-requires : goal.agreed-requires
agreed-requires c = run_part _ _ c.min-handed.result _ c.args.w.now.bytes c.longest.ensures.0 (omega (arith, c.min-handed.ensures)) (omega (arith, c.min-in-3.ensures))

pub returns-in-3 : goal.returns-in-3
returns-in-3 c =
    read_counted c.args.m.now c.args.w.now c.args.sent _ _ _ _ _ c.in-3.is c.from-first.ensures c.longest.ensures.0 c.min-handed.ensures c.min-in-3.ensures c.agreed.ensures.0

pub returns-in_default : goal.returns-in_default
returns-in_default c = none_counted c.args.m.now c.args.w.now c.args.sent (λ e. omega arith) (λ e. omega arith)
