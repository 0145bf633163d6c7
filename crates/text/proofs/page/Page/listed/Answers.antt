use Rattle.std.proofs.Common.{sym, ◌∙◌, arith}
use Rattle.text.proofs.Laws.{listed_end, listed_next}
use Rattle.text.proofs.page.Page.listed.Goals as goal

pub loop-byte-preserved : goal.loop-byte-preserved
loop-byte-preserved c = let l = c.loop-byte in (omega arith, l.invariant.1 ∙ listed_next l.self _ l.byte-index c.loop-byte-test.true _ _ c.put.ensures.0 c.hex.ensures.0)

pub returns : goal.returns
returns c = let l = c.loop-byte in (sym (l.invariant.1 ∙ listed_end l.self _ l.byte-index c.loop-byte-test.false), omega arith)
