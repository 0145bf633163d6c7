use native.Mathlib.Omega.{arith}
use mathlib.Core.Path.{refl}
use Rattle.scan.proofs.Walk.{runs_none, runs_next, runs_all}
use Rattle.scan.proofs.is_settling.Goals as goal

pub loop-n-init : goal.loop-n-init
loop-n-init c = runs_none c.args.run.now

pub loop-n-preserved : goal.loop-n-preserved
loop-n-preserved c = let l = c.loop-n in runs_next c.args.run.now l.n-index l.invariant refl

pub returns : goal.returns
returns c = runs_all c.args.run.now c.loop-n.invariant (omega arith)
