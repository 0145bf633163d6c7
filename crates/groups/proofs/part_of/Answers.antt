-- `groups::part_of` meets its contract: a finished group's part is from its first place to its end, which isn't before it, and every other one is empty.
use mathlib.Core.Path.{sym, ap, ◌∙◌}
use Prim.Native.Nat.{◌-◌}
use Rattle.undo.specs.Stands.{first_in, end_in}
use Rattle.undo.proofs.Exact.{no_part, answered_group, answered_other}
use Rattle.groups.proofs.Laws.{part_told}
use Rattle.groups.proofs.part_of.Goals as goal

pub returns-in_default : goal.returns-in_default
returns-in_default c =
    let other = answered_other c.args.answer (λ f e k. c.in_default.not-Group f e (c.unwrap_or.ensures ∙ k)) in
    let none = no_part _ other in
    part_told _ _ (c.from.ensures ∙ c.told.ensures) 0 0 (sym none.0) (rw (none.0, none.1))

pub overflow_sub-result : goal.overflow_sub-result
unfolding first_in end_in
overflow_sub-result c = rw (answered_group c.args.answer _ _ (sym c.unwrap_or.ensures ∙ c.in-Group.is)) at c.requires

pub returns : goal.returns
unfolding first_in end_in
returns c =
    let group = answered_group c.args.answer _ _ (sym c.unwrap_or.ensures ∙ c.in-Group.is) in
    part_told _ _ (c.from.ensures ∙ c.told.ensures) _ _ (sym (ap first_in group)) (sym (λ i. end_in (group i) - first_in (group i)))
