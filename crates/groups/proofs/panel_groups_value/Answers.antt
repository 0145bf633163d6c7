-- `groups::panel_groups_value` meets its contract: it hands on what the walk has handed out, as three words.
use mathlib.Core.Path.{ap, ◌∙◌}
use Rattle.groups.specs.Told.{of_walked}
use Rattle.groups.proofs.Laws.{handed_told}
use Rattle.groups.proofs.panel_groups_value.Goals as goal

pub returns : goal.returns
returns c =
    let told = c.from.ensures ∙ c.told.ensures in
    let walked = c.walk-handed.ensures in
    (handed_told _ _ _ told c.unwrap_or-walked.ensures ∙ ap of_walked walked.0, walked.1)
