-- `word::is_blank` meets its contract: each return rewrites with the test that led there.
use Rattle.std.proofs.Common.{arith}
use Rattle.std.proofs.lemmas.Grind.{common_steps}
use Rattle.text.specs.Line.{blank}
use Rattle.text.proofs.word.is_blank.Goals as goal

pub returns-then-byte-eq32 : goal.returns-then-byte-eq32
unfolding blank
returns-then-byte-eq32 c = grind (arith, common_steps)

pub returns-else-byte-eq32 : goal.returns-else-byte-eq32
unfolding blank
returns-else-byte-eq32 c = grind (arith, common_steps)
