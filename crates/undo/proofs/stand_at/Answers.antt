use native.Mathlib.Omega.{arith}
use mathlib.Core.Path.{sym, ap, ◌∙◌}
use Rattle.undo.specs.Stands.{stand_at}
use Rattle.undo.proofs.Following.{marks_all, marks_skip, marks_stop, marks_here, marks_past, marks_end, next_group, next_stops, group_later}
use Rattle.undo.proofs.stand_at.Goals as goal

pub returns-then-codes-place : goal.returns-then-codes-place
returns-then-codes-place c =
    let a = c.args in
    marks_end _ _ _ a.place (omega arith)

pub loop-at-init : goal.loop-at-init
loop-at-init c =
    let a = c.args in
    ap (stand_at a.place) (marks_all _ _ _)

pub returns-in_default : goal.returns-in_default
returns-in_default c =
    let l = c.loop-at in
    let a = c.args in
    let none = next_stops _ _ _ l.at _ c.next.ensures c.in_default.not-Group in
    marks_stop _ _ _ l.at a.place none c.loop-at-test.true c.if-codes-place.false ∙ sym l.invariant

pub loop-at-smaller : goal.loop-at-smaller
loop-at-smaller c =
    let l = c.loop-at in
    let r = next_group _ _ _ l.at _ _ c.in-Group.ensures in
    let later = group_later _ _ _ l.at _ r.1 in
    omega (arith, later, c.loop-at-test.true)

pub loop-at-preserved : goal.loop-at-preserved
loop-at-preserved c =
    let l = c.loop-at in
    let r = next_group _ _ _ l.at _ _ c.in-Group.ensures in
    l.invariant ∙ marks_skip _ _ _ l.at _ c.args.place r.1 c.loop-at-test.true

pub returns-then-place-at : goal.returns-then-place-at
returns-then-place-at c =
    let l = c.loop-at in
    marks_past _ _ _ l.at c.args.place c.if-place-at.true ∙ sym l.invariant

pub returns : goal.returns
returns c =
    let l = c.loop-at in
    c.next-2.ensures ∙ sym (l.invariant ∙ marks_here _ _ _ l.at c.args.place (omega arith))
