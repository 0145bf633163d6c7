use Rattle.std.proofs.Common.{sym, ◌∙◌, arith}
use Rattle.text.proofs.Laws.{wrote_end, wrote_next}
use Rattle.text.proofs.page.Page.text.Goals as goal

pub loop-byte-preserved : goal.loop-byte-preserved
loop-byte-preserved c = let l = c.loop-byte in (omega arith, l.invariant.1 ∙ wrote_next l.self _ l.byte-index c.loop-byte-test.true _ c.put.ensures.0)

pub returns : goal.returns
returns c = let l = c.loop-byte in (sym (l.invariant.1 ∙ wrote_end l.self _ l.byte-index c.loop-byte-test.false), omega arith)
