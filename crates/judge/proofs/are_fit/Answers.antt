use mathlib.Core.Path.{sym, ◌∙◌}
use Rattle.judge.proofs.Laws.{sizes_end, sizes_no, sizes_yes}
use Rattle.judge.proofs.are_fit.Goals as goal

pub returns-then-not-is_fit : goal.returns-then-not-is_fit
returns-then-not-is_fit c =
    let l = c.loop-byte in
    sym (l.invariant ∙ sizes_no l.address _ l.byte-index _ _ c.loop-byte-test.true c.register_at.ensures c.is_fit.ensures c.if-not-is_fit.true)

pub loop-byte-preserved : goal.loop-byte-preserved
loop-byte-preserved c =
    let l = c.loop-byte in
    l.invariant ∙ sizes_yes l.address _ l.byte-index _ _ c.loop-byte-test.true c.register_at.ensures c.is_fit.ensures c.if-not-is_fit.false _ c.next_address-address.ensures

pub returns : goal.returns
returns c = let l = c.loop-byte in sym (l.invariant ∙ sizes_end l.address _ l.byte-index c.loop-byte-test.false)
