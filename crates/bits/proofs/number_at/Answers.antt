-- `bits::number_at` meets its contract: its bits are a window on 24.
use Rattle.bits.proofs.Windows.{window_fits, window_there}
use borrow.Author.Rules.{rules}
use Rattle.bits.proofs.number_at.Goals as goal

pub overflow_cast-result : goal.overflow_cast-result
overflow_cast-result c = record { fits = window_fits _ c.args.width (search rules) }

pub returns : goal.returns
returns c =
    let a = c.args in
    window_there a.bytes.now a.place a.width c.three_bytes.result (search rules) c.three_bytes.ensures.0
