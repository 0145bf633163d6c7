-- `carry::call::of_call` meets its contract: the number is the kind's own.
use mathlib.Core.Path.{sym, ◌∙◌}
use Rattle.carry.proofs.Records.{own_look, own_access, own_reset}
use Rattle.carry.proofs.call.of_call.Goals as goal

pub returns-in-Look : goal.returns-in-Look
returns-in-Look c = c.of_look.ensures ∙ sym (own_look c.args.call.now (sym c.in-Look.ensures))

pub returns-in-Reset : goal.returns-in-Reset
returns-in-Reset c = sym (own_reset c.args.call.now (sym c.in-Reset.ensures))

pub returns-in-Write : goal.returns-in-Write
returns-in-Write c = c.of_count.ensures ∙ sym (own_access c.args.call.now c.kind.ensures c.in-Write.is)
