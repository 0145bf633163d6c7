use mathlib.Core.Path.{refl, ◌∙◌}
use native.Mathlib.Omega.{arith}
use borrow.Author.Rules.{rules}
use Rattle.calls.proofs.Kept.{still}
use Rattle.calls.proofs.Blocks.{walked_none, walked_next, walked_stop, walked_all, told_apart}
use Rattle.calls.proofs.lent.look_by_look.Goals as goal

pub loop-done-init : goal.loop-done-init
loop-done-init c =
    let a = c.args in
    let chunks = c.chunks_exact.ensures in
    let items = c.enumerate-done-items.ensures in
    rw (c.into_iter-done-iterator.ensures.into_iter_gives, items.source, items.count)
    (chunks.size, walked_none a.m.now a.samples.now _ chunks.rest (record { keys = search rules; runs = search rules; places = search rules; low = search rules; ok = c.requires }))

pub returns-in-Err : goal.returns-in-Err
returns-in-Err c =
    let a = c.args in
    let l = c.loop-done in
    let s = c.in-Some.ensures.steps in
    told_apart _ s.1 (walked_stop a.m.now a.samples.now l.m _ _ c.in-Some.eight.now _ l.invariant.1 s.0.1.0 (s.0.1.1 ∙ l.invariant.0) c.in-Err.refusal c.in-Err.ensures)

pub look-requires : goal.look-requires
look-requires c = (c.in-Some.ensures.steps.0.1.1 ∙ c.loop-done.invariant.0, still _ c.loop-done.invariant.1.kept.ok)

pub loop-done-preserved : goal.loop-done-preserved
loop-done-preserved c =
    let a = c.args in
    let l = c.loop-done in
    let s = c.in-Some.ensures.steps in (
      s.0.0 ∙ l.invariant.0,
      walked_next a.m.now a.samples.now l.m _ _ c.in-Some.eight.now _ l.invariant.1 s.0.1.0 (s.0.1.1 ∙ l.invariant.0) _ _ c.in_default.ensures c.look.ensures s.2,
    )

pub returns : goal.returns
returns c =
    let a = c.args in
    let l = c.loop-done in
    told_apart _ refl (walked_all a.m.now a.samples.now l.m _ _ l.invariant.1 (omega (arith, c.in-None.ensures.steps.0.1.0, l.invariant.0)))
