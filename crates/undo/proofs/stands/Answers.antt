-- `undo::stands` meets its contract: it is declined by the lines before the last, or it is what the marks have there.
use mathlib.Core.Path.{◌∙◌}
use borrow.Author.Rules.{rules}
use Rattle.undo.proofs.Exact.{stands_declined, stands_done}
use Rattle.undo.proofs.stands.Goals as goal

pub returns-in_err-of_place : goal.returns-in_err-of_place
returns-in_err-of_place c = search (rules, stands_declined)

pub stand_at-requires : goal.stand_at-requires
stand_at-requires c = (stands_done _ _ _ c.in_ok-of_place.ensures).0

pub returns : goal.returns
returns c = c.stand_at.ensures ∙ (stands_done _ _ _ c.in_ok-of_place.ensures).1
