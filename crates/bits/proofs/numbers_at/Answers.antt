use Prim.Native.Nat.{◌*◌}
use mathlib.Core.Path.{refl, sym, ap, ◌∙◌}
use borrow.Author.Rules.{rules}
use Rattle.bits.specs.Bits.{number, numbers, bits_from}
use Rattle.bits.proofs.Laid.{from_more}
use Rattle.bits.proofs.Stores.{found_next}
use Rattle.bits.proofs.numbers_at.Goals as goal

pub loop-i-init : goal.loop-i-init
unfolding numbers
loop-i-init c = refl

pub loop-i-preserved : goal.loop-i-preserved
loop-i-preserved c =
    let a = c.args in
    let l = c.loop-i in
    let v = c.number_at.ensures ∙ ap (number a.width) (sym (from_more a.bytes.now a.place (l.i * a.width))) in
    found_next l.found l.i a.width 32 _ (bits_from a.bytes.now a.place) l.invariant (search rules) v
