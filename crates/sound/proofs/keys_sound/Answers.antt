use native.Mathlib.Omega.{arith}
use mathlib.Core.Path.{refl, sym, ap, ◌∙◌}
use borrow.Author.Tests.{not-true, not-false}
use Rattle.words.specs.Words.{all_below}
use Rattle.sound.specs.Sound.{keys_sound}
use Rattle.sound.proofs.Laws.{keys_yes, keys_no}
use Rattle.sound.proofs.keys_sound.Goals as goal

pub loop-row-init : goal.loop-row-init
unfolding all_below
loop-row-init c = refl

pub returns-then-not-row_sound : goal.returns-then-not-row_sound
returns-then-not-row_sound c =
    let at = c.loop-row in
    let m = c.args.m.now in
    keys_no m.size m.held m.run at.row c.loop-row-test.true at.invariant c.row_sound.ensures (not-true _ c.if-not-row_sound.true-raw)

pub loop-row-preserved : goal.loop-row-preserved
loop-row-preserved c =
    let at = c.loop-row in
    let m = c.args.m.now in
    keys_yes m.size m.held m.run at.row c.loop-row-test.true at.invariant c.row_sound.ensures (not-false _ c.if-not-row_sound.false-raw)

pub returns : goal.returns
unfolding keys_sound
returns c = sym (ap (all_below _) (omega arith) ∙ c.loop-row.invariant)
