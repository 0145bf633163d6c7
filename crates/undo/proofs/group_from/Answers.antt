use native.Mathlib.Omega.{arith}
use mathlib.Core.Path.{sym}
use Rattle.undo.specs.Groups.{ends_with_release}
use Rattle.undo.proofs.Following.{open_begin, open_on, open_ends, open_end}
use Rattle.undo.proofs.group_from.Goals as goal

pub loop-i-init : goal.loop-i-init
loop-i-init c =
    let a = c.args in
    open_begin (ends_with_release a.trim) a.trim a.codes.now a.at c.requires.0 c.requires.1

pub returns-then-has_ended : goal.returns-then-has_ended
returns-then-has_ended c = let l = c.loop-i in open_ends _ _ _ l.i (omega arith) c.loop-i-test.true l.invariant (sym c.if-has_ended.ensures)

pub loop-i-preserved : goal.loop-i-preserved
loop-i-preserved c = let l = c.loop-i in open_on _ _ _ l.i (omega arith) c.loop-i-test.true l.invariant (sym c.if-has_ended.ensures)

pub returns : goal.returns
returns c = let l = c.loop-i in open_end _ _ _ _ l.i (omega arith) (omega arith) c.loop-i-test.false l.invariant
