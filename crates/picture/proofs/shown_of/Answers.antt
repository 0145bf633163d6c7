use mathlib.Core.Path.{sym, ap, ◌∙◌}
use Prim.Native.Nat.{◌+◌, ◌-◌}
use borrow.Author.Rules.{rules}
use Rattle.picture.specs.Picture.{nth}
use Rattle.picture.specs.Masks.{codes_from}
use Rattle.picture.proofs.Rows.{shown_from, shown_row, shown_here, shown_later, shown_end, mask_room}
use Rattle.picture.proofs.shown_of.Goals as goal

pub loop-row-init : goal.loop-row-init
loop-row-init c =
    let a = c.args in
    let m = c.mask_at-mask in
    (search rules, search rules, shown_from a.rows.now 0 m.result m.ensures a.n)

pub loop-row-preserved-then-mask-lt1 : goal.loop-row-preserved-then-mask-lt1
loop-row-preserved-then-mask-lt1 c =
    let l = c.loop-row in
    let rows = c.args.rows.now in
    let m = c.mask_at-mask-then-mask-lt1 in
    (search rules, mask_room rows (l.row + 1) m.result m.ensures (search rules) (search rules), l.invariant.2 ∙ shown_row rows l.row l.mask c.if-mask-lt1.true l.rest m.result m.ensures)

pub returns-then-rest-lt1 : goal.returns-then-rest-lt1
returns-then-rest-lt1 c =
    let l = c.loop-row in
    let rows = c.args.rows.now in
    c.first_code.ensures ∙ sym (l.invariant.2 ∙ shown_here rows l.row l.mask (search rules) l.invariant.0 l.rest c.if-rest-lt1.true)

pub loop-row-preserved : goal.loop-row-preserved
loop-row-preserved c =
    let l = c.loop-row in
    let rows = c.args.rows.now in
    (search rules, search rules, l.invariant.2 ∙ shown_later rows l.row l.mask (search rules) l.invariant.0 l.rest c.if-rest-lt1.false ∙ ap (λ m. nth (l.rest - 1) (codes_from rows l.row m)) (sym c.but_first-mask.ensures))

pub returns : goal.returns
returns c =
    let l = c.loop-row in
    let rows = c.args.rows.now in
    sym (l.invariant.2 ∙ shown_end rows l.row (search rules) l.rest l.mask (search rules))
