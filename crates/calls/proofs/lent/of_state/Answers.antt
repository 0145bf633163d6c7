-- `calls::lent::of_state` meets its contract: the first line of every call but reset.
use mathlib.Core.Path.{sym, ap, ◌∙◌}
use mathlib.Core.Bool.{not}
use Rattle.numbers.proofs.Laws.{line_yes, line_no, lines_end}
use Rattle.calls.specs.Calls.{interrupt_number}
use Rattle.calls.proofs.lent.of_state.Goals as goal

pub returns-then-is_sound : goal.returns-then-is_sound
unfolding interrupt_number
returns-then-is_sound c = sym (line_no _ 8 _ (ap not (sym c.if-is_sound.ensures)) ∙ lines_end)

pub returns-else-is_sound : goal.returns-else-is_sound
unfolding interrupt_number
returns-else-is_sound c = sym (line_yes _ 8 _ (ap not (sym c.if-is_sound.ensures)))
