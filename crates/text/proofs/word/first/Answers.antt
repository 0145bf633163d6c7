-- `word::first` meets its contract: the place is that of the first byte of its kind, or the end.
use Rattle.std.proofs.Common.{drop, arith}
use Rattle.std.proofs.lemmas.Grind.{common_steps}
use Rattle.std.proofs.lemmas.List.Sums.{prefix_len-le-length}
use Rattle.text.proofs.Laws.{up_to_position}
use Rattle.text.proofs.word.first.Goals as goal

pub returns-in-Some : goal.returns-in-Some
returns-in-Some c = rw (up_to_position c.args.blank (drop c.args.from c.args.line.now)) (grind (arith, common_steps))

pub returns-in-None : goal.returns-in-None
returns-in-None c = rw (up_to_position c.args.blank (drop c.args.from c.args.line.now)) (grind (arith, common_steps, prefix_len-le-length))
