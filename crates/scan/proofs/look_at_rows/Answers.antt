use Prim.Native.Nat.{◌/◌}
use native.Mathlib.Omega.{arith}
use mathlib.Core.Path.{◌≡◌, refl, sym}
use mathlib.Core.Bool.{false}
use Rattle.scan.specs.Walk.{at_rows, parts_of}
use Rattle.scan.proofs.Walk.{rows_next}
use Rattle.scan.proofs.look_at_rows.Goals as goal

pub loop-row-init : goal.loop-row-init
unfolding at_rows
loop-row-init c = (refl, refl)

pub loop-row-preserved : goal.loop-row-preserved
loop-row-preserved c =
    let a = c.args in
    let m = a.m.now in
    let l = c.loop-row in
    rows_next m a.samples.now (parts_of m false) l.row l.invariant c.look_at_row-any.ensures

pub returns : goal.returns
returns c =
    let l = c.loop-row in
    let all : l.row ≡ c.args.m.now.size / 16 = omega arith in
    rw (sym all) l.invariant
