-- `page::glyph` meets its contract: each return rewrites with the test that led there.
use Rattle.std.proofs.Common.{arith}
use Rattle.std.proofs.lemmas.Grind.{common_steps}
use Rattle.text.specs.Pages.{glyph}
use Rattle.text.proofs.page.glyph.Goals as goal

pub returns-in-0-to-9 : goal.returns-in-0-to-9
unfolding glyph
returns-in-0-to-9 c = grind (arith, common_steps)

pub returns-in_default : goal.returns-in_default
unfolding glyph
returns-in_default c = grind (arith, common_steps)
