use native.Mathlib.Omega.{arith}
use mathlib.Core.Path.{refl, sym, ap, ◌∙◌}
use borrow.Author.Tests.{not-true, not-false}
use Rattle.words.specs.Words.{all_below}
use Rattle.words.proofs.Laws.{below_next, below_fails}
use Rattle.sound.specs.Sound.{place_sound}
use Rattle.sound.proofs.row_sound.Goals as goal

pub loop-col-init : goal.loop-col-init
unfolding all_below
loop-col-init c = refl

pub returns-then-not-key_sound : goal.returns-then-not-key_sound
unfolding place_sound
returns-then-not-key_sound c = sym (below_fails _ 13 _ c.loop-col-test.true (sym c.key_sound.ensures ∙ not-true _ c.if-not-key_sound.true-raw))

pub loop-col-preserved : goal.loop-col-preserved
unfolding place_sound
loop-col-preserved c = below_next _ _ c.loop-col.invariant (sym c.key_sound.ensures ∙ not-false _ c.if-not-key_sound.false-raw)

pub returns : goal.returns
returns c = sym (ap (all_below _) (omega arith) ∙ c.loop-col.invariant)
