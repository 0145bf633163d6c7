-- `judge::of_read` meets its contract: an access that reads.
use Rattle.judge.specs.Lines.{read_lines}
use Rattle.judge.proofs.of_read.Goals as goal

pub returns : goal.returns
unfolding read_lines
returns c = c.of_access.ensures
