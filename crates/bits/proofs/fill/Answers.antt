-- `bits::fill` meets its contract: a byte that is begun keeps its first bits, and a whole one stays.
use mathlib.Core.Path.{sym}
use Rattle.bits.specs.Bits.{bits_of}
use Rattle.bits.proofs.Laid.{all_bytes, laid_none}
use Rattle.bits.proofs.Stores.{put_one}
use borrow.Author.Rules.{rules}
use Rattle.bits.proofs.fill.Goals as goal

pub returns-then-bit-ne0 : goal.returns-then-bit-ne0
unfolding bits_of
returns-then-bit-ne0 c =
    let a = c.args in
    let b = all_bytes a.out.now (λ i. (c.slice_known-1.given i).fits) in
    put_one a.out.now a.place 0 0 b (search rules) c.joined.ensures.0 (search rules) (search rules)

pub returns-else-bit-ne0 : goal.returns-else-bit-ne0
returns-else-bit-ne0 c =
    let a = c.args in
    let b = all_bytes a.out.now (λ i. (c.slice_known-1.given i).fits) in
    sym (laid_none a.out.now a.place (search rules) (search rules) b)
