-- `word::is_same` meets its contract: two lists are equal where they are, byte by byte.
use Rattle.text.proofs.Laws.{same_pointwise}
use Rattle.text.proofs.word.is_same.Goals as goal

pub returns : goal.returns
returns c = let e = same_pointwise c.args.word.now c.args.name.now in cc
