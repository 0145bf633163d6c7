-- `undo::is_trim` meets its contract: a press, and then a code of a key.
use native.Mathlib.Omega.{arith}
use borrow.Author.Tests.{lt-ltb, le-ltb, lt-leb}
use Rattle.keys.specs.Replay.{is_press}
use Rattle.undo.specs.Stands.{is_trim}
use Rattle.undo.proofs.is_trim.Goals as goal

pub returns-then-trim-le127 : goal.returns-then-trim-le127
unfolding is_trim is_press
returns-then-trim-le127 c =
    let low = lt-ltb c.args.trim 128 (omega arith) in
    rw low c.is_code.ensures

pub returns-else-trim-le127 : goal.returns-else-trim-le127
unfolding is_trim is_press
returns-else-trim-le127 c = let h = c.if-trim-le127.false in rw (lt-leb c.args.trim 127 (omega arith), le-ltb c.args.trim 128 (omega arith))
