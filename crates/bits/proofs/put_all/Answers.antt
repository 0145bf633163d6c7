use mathlib.Core.Path.{refl, sym, ◌∙◌}
use mathlib.Core.List.{[]}
use lib.Seq.{take_all}
use borrow.Author.Rules.{rules}
use Rattle.bits.specs.Bits.{spelled}
use Rattle.bits.proofs.Stores.{laid_again, put_next}
use Rattle.bits.proofs.put_all.Goals as goal

pub loop-i-init : goal.loop-i-init
unfolding spelled
loop-i-init c =
    let a = c.args in
    let e = c.fill.ensures in
    (refl, e ∙ sym (laid_again a.out.now _ a.place [] (search rules) e))

pub loop-i-preserved : goal.loop-i-preserved
loop-i-preserved c =
    let a = c.args in
    let l = c.loop-i in
    let e = c.put.ensures in
    (search rules, put_next _ l.out _ a.place l.i a.width a.numbers.now (search rules) (search rules) l.invariant.1 e)

pub returns : goal.returns
returns c =
    let a = c.args in
    let l = c.loop-i in
    let e = take_all l.i a.numbers.now (search rules) in
    let d = rw e at l.invariant.1 in
    let f = c.fill.ensures in
    d ∙ laid_again a.out.now _ a.place (spelled a.width a.numbers.now) (search rules) f
