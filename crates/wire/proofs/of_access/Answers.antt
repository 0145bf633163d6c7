-- `wire::of_access` meets its contract: the first two lines of an access.
use mathlib.Core.Path.{sym, ◌∙◌}
use Rattle.numbers.proofs.Laws.{lines_end}
use Rattle.calls.proofs.Laws.{unsound_access, asleep_first, awake_then}
use Rattle.wire.proofs.of_access.Goals as goal

pub returns-then-not-is_sound : goal.returns-then-not-is_sound
returns-then-not-is_sound c = sym (unsound_access _ _ (sym c.if-not-is_sound.ensures))

pub returns-then-m : goal.returns-then-m
returns-then-m c = sym (asleep_first _ _ (sym c.if-not-is_sound.ensures) c.if-m.true)

pub returns : goal.returns
returns c = sym (awake_then _ _ (sym c.if-not-is_sound.ensures) c.if-m.false ∙ lines_end)
