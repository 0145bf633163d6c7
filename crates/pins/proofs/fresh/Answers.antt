-- `pins::fresh` meets its contract: the bytes are those of the definition's table, computed.
use mathlib.Core.Path.{refl}
use Rattle.words.specs.Words.{table}
use Rattle.pins.specs.Rules.{after_reset}
use Rattle.pins.specs.Pins.{address_of, fresh}
use Rattle.pins.proofs.fresh.Goals as goal

pub returns : goal.returns
unfolding fresh table after_reset address_of
returns c = refl
