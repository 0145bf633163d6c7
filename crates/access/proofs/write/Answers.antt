use mathlib.Core.Path.{sym, ◌∙◌}
use Rattle.access.proofs.Laws.{wrote_end, wrote_next}
use Rattle.access.proofs.write.Goals as goal

pub loop-byte-preserved : goal.loop-byte-preserved
loop-byte-preserved c =
    let l = c.loop-byte in
    l.invariant ∙ wrote_next l.m _ l.address _ _ _ l.byte-index c.loop-byte-test.true c.register_at.ensures c.written.ensures c.next_address-address.ensures

pub returns : goal.returns
returns c = let l = c.loop-byte in sym (l.invariant ∙ wrote_end l.m l.address _ l.byte-index c.loop-byte-test.false)
