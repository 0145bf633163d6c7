use native.Mathlib.Omega.{arith}
use mathlib.Core.Path.{◌≡◌, sym, ◌∙◌}
use lib.ListN.{length}
use Rattle.codes.specs.Codes.{none_down}
use Rattle.codes.proofs.Laws.{agreeing_end, agreeing_stop, agreeing_go}
use Rattle.codes.proofs.agreeing.Goals as goal

pub loop-i-init : goal.loop-i-init
unfolding none_down
loop-i-init c = omega arith

pub returns-then-not-agrees : goal.returns-then-not-agrees
returns-then-not-agrees c =
    let l = c.loop-i in
    (sym (agreeing_stop l.down c.args.codes.now l.i _ l.invariant c.loop-i-test.true (sym c.if-not-agrees.ensures)), omega arith)

pub loop-i-preserved : goal.loop-i-preserved
loop-i-preserved c =
    let l = c.loop-i in
    rw c.follow.ensures (agreeing_go l.down c.args.codes.now l.i _ l.invariant c.loop-i-test.true (sym c.if-not-agrees.ensures))

pub returns : goal.returns
returns c =
    let l = c.loop-i in
    let more = c.loop-i-test.false in
    let end : l.i ≡ length c.args.codes.now = omega arith in
    (sym (agreeing_end l.down c.args.codes.now l.i _ l.invariant more ∙ end), omega arith)
