-- `codes::opposite` meets its contract: press codes are those below 128.
use mathlib.Core.Path.{sym}
use borrow.Author.Tests.{lt-ltb, le-ltb}
use Rattle.keys.specs.Replay.{is_press}
use Rattle.codes.proofs.Laws.{opposite_press, opposite_release}
use Rattle.codes.proofs.opposite.Goals as goal

pub returns-then-code-lt-RELEASES : goal.returns-then-code-lt-RELEASES
unfolding is_press
returns-then-code-lt-RELEASES c = sym (opposite_press _ (lt-ltb _ _ c.if-code-lt-RELEASES.true))

pub returns-else-code-lt-RELEASES : goal.returns-else-code-lt-RELEASES
unfolding is_press
returns-else-code-lt-RELEASES c = sym (opposite_release _ (le-ltb _ _ c.if-code-lt-RELEASES.false))
