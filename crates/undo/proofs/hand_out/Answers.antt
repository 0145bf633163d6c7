use native.Mathlib.Omega.{arith}
use mathlib.Core.Path.{ap, ◌∙◌}
use lib.ListN.{length, length-set}
use Rattle.undo.proofs.Following.{handed_none, handed_few, handed_on, handed_all, handed_ends, next_group, next_stops, groups_past, group_later, group_within}
use borrow.Author.Rules.{rules}
use Rattle.undo.proofs.hand_out.Goals as goal

pub loop-at-init : goal.loop-at-init
loop-at-init c = (omega arith, (search rules, handed_none _ _ _ _))

pub returns-in_default : goal.returns-in_default
returns-in_default c =
    let l = c.loop-at in
    let none = next_stops _ _ _ l.at _ c.next.ensures c.in_default.not-Group in
    let so = l.invariant.1.1 in
    (handed_all _ _ _ l.groups l.at _ _ so none, handed_ends _ _ _ l.groups l.at _ _ so none)

pub overflow_add-groups : goal.overflow_add-groups
overflow_add-groups c =
    let l = c.loop-at in
    let few = handed_few _ _ _ l.groups l.at _ _ l.invariant.1.1 in
    omega (arith, few, c.loop-at-test.true)

pub loop-at-smaller : goal.loop-at-smaller
loop-at-smaller c =
    let l = c.loop-at in
    let r = next_group _ _ _ l.at _ _ c.in-Group.ensures in
    let later = group_later _ _ _ l.at _ r.1 in
    omega (arith, later, c.loop-at-test.true)

pub loop-at-preserved : goal.loop-at-preserved
loop-at-preserved c =
    let l = c.loop-at in
    let r = next_group _ _ _ l.at _ _ c.in-Group.ensures in
    let written = c.put.ensures in (
      group_within _ _ _ l.at _ r.1,
      (
        ap length written ∙ length-set l.ends l.groups c.in-Group.end ∙ l.invariant.1.0,
        handed_on _ _ _ l.groups l.at _ _ l.invariant.1.1 _ r.1 _ written,
      ),
    )

pub returns : goal.returns
returns c =
    let l = c.loop-at in
    let none = groups_past _ _ _ l.at c.loop-at-test.false in
    let so = l.invariant.1.1 in
    (handed_all _ _ _ l.groups l.at _ _ so none, handed_ends _ _ _ l.groups l.at _ _ so none)
