-- `carry::call::of_look` meets its contract: a count other than eight stops at its line, and else the samples are the first eight values.
use mathlib.Core.Path.{sym, ◌∙◌}
use borrow.Author.Rules.{rules}
use Rattle.carry.proofs.Records.{not_eight_lem, eight}
use Rattle.carry.proofs.call.of_look.Goals as goal

pub returns-then-call-ne8 : goal.returns-then-call-ne8
returns-then-call-ne8 c = sym (not_eight_lem _ c.args.call.now.values c.if-call-ne8.true)

pub returns : goal.returns
returns c =
    let a = c.args.call.now in
    c.of_samples.ensures ∙ sym (eight a.count a.values (search rules) c.if-call-ne8.false)
