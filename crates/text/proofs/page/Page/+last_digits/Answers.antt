use Rattle.std.proofs.Common.{arith}
use Rattle.std.proofs.lemmas.Grind.{common_steps}
use Rattle.text.proofs.Laws.{last_end, last_one, last_next}
use Rattle.text.proofs.page.Page.+last_digits.Goals as goal

pub returns-then-most-lt1 : goal.returns-then-most-lt1
returns-then-most-lt1 t c = grind (arith, common_steps, last_end)

pub returns : goal.returns
returns t c = grind (arith, common_steps, last_one, last_next)
