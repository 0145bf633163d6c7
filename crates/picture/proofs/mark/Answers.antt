-- `picture::mark` meets its contract: by whether the four marks are then set.
use mathlib.Core.Path.{sym, ap, ◌∙◌}
use Rattle.state.specs.Module.{forgotten, with_seen}
use Rattle.picture.specs.Picture.{all_read}
use Rattle.picture.proofs.Laws.{marked_all, marked_some}
use Rattle.picture.proofs.mark.Goals as goal

pub returns-then-all_read : goal.returns-then-all_read
unfolding forgotten
returns-then-all_read c =
    let a = c.args in
    sym (marked_all a.m.now a.n (ap all_read (sym c.with_mark-marks.ensures) ∙ sym c.all_read.ensures ∙ c.if-all_read.true))

pub returns-else-all_read : goal.returns-else-all_read
returns-else-all_read c =
    let a = c.args in
    ap (with_seen a.m.now) c.with_mark-marks.ensures
    ∙ sym (marked_some a.m.now a.n (ap all_read (sym c.with_mark-marks.ensures) ∙ sym c.all_read.ensures ∙ c.if-all_read.false))
