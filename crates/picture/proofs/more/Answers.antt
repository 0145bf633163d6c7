use mathlib.Core.Path.{refl, sym, ◌∙◌}
use borrow.Author.Rules.{rules}
use Rattle.picture.proofs.Rows.{more_here, more_later, more_end}
use Rattle.picture.proofs.more.Goals as goal

pub returns-then-rows-row-gt0 : goal.returns-then-rows-row-gt0
returns-then-rows-row-gt0 c =
    let l = c.loop-row in
    (sym (l.invariant ∙ more_here c.args.rows.now l.row _ refl c.if-rows-row-gt0.true (search rules)), search rules)

pub loop-row-preserved : goal.loop-row-preserved
loop-row-preserved c =
    let l = c.loop-row in
    l.invariant ∙ more_later c.args.rows.now l.row _ refl (search rules)

pub returns : goal.returns
returns c =
    let l = c.loop-row in
    (sym (l.invariant ∙ more_end c.args.rows.now l.row (search rules)), search rules)
