-- `bits::three_bytes` meets its contract: 24 bits are three bytes.
use Rattle.bits.proofs.Windows.{three_there}
use borrow.Author.Rules.{rules}
use Rattle.bits.proofs.three_bytes.Goals as goal

pub returns : goal.returns
returns c =
    let a = c.args in
    (three_there a.bytes.now a.at _ _ _ c.byte_at.ensures c.byte_at-2.ensures c.byte_at-3.ensures, search rules)
