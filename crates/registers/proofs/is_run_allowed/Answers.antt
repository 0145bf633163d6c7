-- `registers::is_run_allowed` meets its contract, by its invariant.
use mathlib.Core.Path.{◌≡◌}
use mathlib.Core.Bool.{true, false}
use Prim.Native.Nat.{◌+◌, ◌-◌}
use native.Mathlib.Omega.{arith}
use Rattle.registers.specs.Registers.{register_at, allowed}
use Rattle.registers.proofs.Laws.{run_end, run_no, run_yes}
use Rattle.registers.proofs.is_run_allowed.Goals as goal

pub returns-then-not-is_allowed : goal.returns-then-not-is_allowed
returns-then-not-is_allowed c =
    let a = c.args in
    let l = c.loop in
    let e : allowed a.access (register_at l.address) ≡ false = cc in
    cc (l.invariant, run_no a.access l.address (a.count - l.counter) (omega arith) e)

pub loop-preserved : goal.loop-preserved
loop-preserved c =
    let a = c.args in
    let l = c.loop in
    let e : allowed a.access (register_at l.address) ≡ true = cc in
    let one : a.count - l.counter - 1 ≡ a.count - (l.counter + 1) = omega arith in
    cc (l.invariant, run_yes a.access l.address (a.count - l.counter) (omega arith) e)

pub returns : goal.returns
returns c =
    let l = c.loop in
    let none : c.args.count - l.counter ≡ 0 = omega arith in
    cc (l.invariant, run_end c.args.access l.address)
