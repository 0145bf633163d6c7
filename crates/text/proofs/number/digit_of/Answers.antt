-- `number::digit_of` meets its contract: the library's digit of base 16 is the definition's.
use Rattle.std.proofs.Common.{arith}
use Rattle.std.proofs.lemmas.Grind.{common_steps}
use Rattle.text.specs.Digits.{digit}
use Rattle.text.proofs.number.digit_of.Goals as goal

pub returns : goal.returns
unfolding digit
returns c = grind (arith, common_steps)
