-- `groups::panel_stretch_part` meets its contract: the part that what stands at the place leads to.
use mathlib.Core.Path.{ap, ◌∙◌}
use Rattle.groups.specs.Told.{part_of}
use Rattle.groups.proofs.Laws.{part_within}
use Rattle.groups.proofs.panel_stretch_part.Goals as goal

pub part_of-requires : goal.part_of-requires
part_of-requires c = part_within _ _ _ _ c.stands.ensures

pub returns : goal.returns
returns c = c.part_of.ensures ∙ ap part_of c.stands.ensures
