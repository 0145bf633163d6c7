use Prim.Native.Nat.{◌+◌}
use native.Mathlib.Omega.{arith}
use mathlib.Core.Path.{◌≡◌, refl, sym, ap, ◌∙◌}
use lib.ListN.{length, get_or, set}
use Rattle.words.proofs.Tables.{replaced_none, replaced_next, replaced_all}
use Rattle.access.proofs.Pins.{items_all}
use Rattle.access.proofs.give.Goals as goal

pub loop-i-init : goal.loop-i-init
loop-i-init c = sym (replaced_none _ _)

pub loop-i-preserved : goal.loop-i-preserved
loop-i-preserved c =
    let l = c.loop-i in
    let a = c.args in
    ap (λ x. set x l.i (get_or a.from.now (a.at + l.i) 0)) l.invariant ∙ replaced_next _ _ l.i c.loop-i-test.true

pub returns : goal.returns
returns c =
    let l = c.loop-i in
    let a = c.args in
    let n = length a.out.now in
    let all : l.i ≡ n = omega arith in
    l.invariant ∙ rw all (replaced_all (λ k. get_or a.from.now (a.at + k) 0) a.out.now n refl) ∙ items_all a.from.now a.at n
