-- `codes::agrees` meets its contract: what is no code is told first, so the key that the code speaks of has a place in the table.
use mathlib.Core.Path.{sym, ◌∙◌}
use Rattle.keys.specs.Replay.{is_press}
use Rattle.codes.proofs.Laws.{code_key_low, agrees_no, agrees_yes}
use Rattle.codes.proofs.agrees.Goals as goal

pub bounds-down-key_of : goal.bounds-down-key_of
bounds-down-key_of c = rw c.key_of.ensures (code_key_low _ (sym c.if-is_code.ensures))

pub returns-then-is_code : goal.returns-then-is_code
unfolding is_press
returns-then-is_code c = rw c.key_of.ensures (sym (agrees_yes _ _ (sym c.if-is_code.ensures)))

pub returns-else-is_code : goal.returns-else-is_code
returns-else-is_code c = c.if-is_code.false ∙ sym (agrees_no _ _ (sym c.if-is_code.ensures))
