-- `carry::reader::Rest::kind` meets its contract: two bits spell a number below 4.
use mathlib.Core.Path.{◌∙◌}
use Rattle.carry.proofs.Reading.{kind_low}
use Rattle.carry.proofs.reader.Rest.kind.Goals as goal

pub returns : goal.returns
returns c = c.told_by.ensures ∙ kind_low _ c.number_at.result c.number_at.ensures
