-- `undo::walk` meets its contract: it is declined, or all groups are handed out.
use mathlib.Core.Path.{◌∙◌}
use borrow.Author.Rules.{rules}
use Rattle.undo.proofs.Exact.{walk_declined, buffer_declined, walk_done}
use Rattle.undo.proofs.walk.Goals as goal

pub returns-in_err-of_list : goal.returns-in_err-of_list
returns-in_err-of_list c = (search (rules, walk_declined), buffer_declined _ _ _ c.in_err-of_list.ensures _)

pub returns : goal.returns
returns c =
    let all = walk_done _ _ c.in_ok-of_list.ensures _ in
    let out = c.hand_out.ensures in
    (out.0 ∙ all.0, out.1 ∙ all.1)
