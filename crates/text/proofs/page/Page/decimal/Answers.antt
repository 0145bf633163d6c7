-- `Page::decimal` meets its contract: ten digits are all that a number of 32 bits has.
use Rattle.text.specs.Digits.{decimal}
use Rattle.std.proofs.Common.{arith}
use Rattle.text.proofs.page.Page.decimal.Goals as goal

pub returns : goal.returns
unfolding decimal
returns c = (c.last_digits.ensures.0, omega arith)
