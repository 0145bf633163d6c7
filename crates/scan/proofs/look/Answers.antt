-- `scan::look` meets its contract: the rows of the size are done, those out of it are still, a change is noticed, and the look is counted.
use mathlib.Core.Path.{ap, ◌∙◌}
use mathlib.Core.Bool.{Bool, not}
use borrow.Author.Rules.{rules}
use Rattle.state.specs.Module.{forgotten, sleep_of, with_sleep}
use Rattle.state.specs.Sleep.{counted}
use Rattle.scan.specs.Scan.{noticed}
use Rattle.scan.proofs.Walk.{walked}
use Rattle.scan.proofs.look.Goals as goal

pub returns-then-look_at_rows : goal.returns-then-look_at_rows
unfolding noticed forgotten
returns-then-look_at_rows c =
    let a = c.args in
    c.count_look.ensures ∙ walked a.m.now a.samples.now c.requires.1 (search rules) (search rules) c.if-look_at_rows.ensures

pub returns-else-look_at_rows : goal.returns-else-look_at_rows
returns-else-look_at_rows c =
    let a = c.args in
    let n = c.look_at_rows.new.m in
    c.count_look-else-look_at_rows.ensures
    ∙ ap (λ (b : Bool). with_sleep n (counted (sleep_of n) (not b))) c.is_settling-settling.ensures
    ∙ walked a.m.now a.samples.now c.requires.1 (search rules) (search rules) c.if-look_at_rows.ensures
