use native.Mathlib.Omega.{arith}
use mathlib.Core.Path.{◌≡◌, refl, sym, ap, ◌∙◌}
use lib.ListN.{get_or, set}
use borrow.Author.Rules.{rules}
use Rattle.words.proofs.Tables.{replaced_none, replaced_next}
use Rattle.carry.proofs.Lists.{front_copied}
use Rattle.carry.proofs.call.values_of.Goals as goal

pub loop-i-init : goal.loop-i-init
loop-i-init c = sym (replaced_none _ _)

pub loop-i-preserved : goal.loop-i-preserved
loop-i-preserved c =
    let l = c.loop-i in
    ap (λ x. set x l.i (get_or c.args.list.now l.i 0)) l.invariant ∙ replaced_next _ _ l.i (search rules)

pub returns : goal.returns
returns c =
    let l = c.loop-i in
    let all : l.i ≡ 32 = omega arith in
    l.invariant ∙ rw all (front_copied c.args.list.now _ c.requires refl)
