-- `groups::standing_of` meets its contract: each kind of answer has its own words.
use mathlib.Core.Path.{ap, ◌∙◌}
use Rattle.std.specs.Prelude.{Ok, Err}
use Rattle.undo.specs.declared.Stand.TheVariants as found-
use Rattle.undo.specs.Stands.{values_of}
use Rattle.groups.specs.Told.{kind_of}
use Rattle.groups.proofs.Laws.{standing_told}
use Rattle.groups.proofs.standing_of.Goals as goal

pub returns-in_default : goal.returns-in_default
unfolding kind_of values_of
returns-in_default c = standing_told _ _ (c.from.ensures ∙ c.told.ensures) (Err c.in_default.field-0) c.in_default.is

pub returns-in-Group : goal.returns-in-Group
unfolding kind_of values_of
returns-in-Group c =
    let g = c.in-Group in
    standing_told _ _ (c.from.ensures ∙ c.told.ensures) (Ok (found-.Group g.first g.end)) (c.in-Ok.is ∙ ap Ok g.is)

pub returns-in-Open : goal.returns-in-Open
unfolding kind_of values_of
returns-in-Open c =
    let o = c.in-Open in
    standing_told _ _ (c.from.ensures ∙ c.told.ensures) (Ok (found-.Open o.place)) (c.in-Ok.is ∙ ap Ok o.is)

pub returns-in-Nothing : goal.returns-in-Nothing
unfolding kind_of values_of
returns-in-Nothing c = standing_told _ _ (c.from.ensures ∙ c.told.ensures) (Ok found-.Nothing) (c.in-Ok.is ∙ ap Ok c.in-Nothing.is)
