-- `codes::good` meets its contract: `take_while` takes the codes that lead, and `count` tells how many.
use mathlib.Core.Path.{◌∙◌}
use borrow.Author.Rules.{rules}
use borrow.Author.Tests.{tests}
use Rattle.std.proofs.lemmas.Iterator.{YieldsList-from_slice}
use Rattle.std.proofs.lemmas.Iterator.Search.{YieldsList-from_take_while}
use Rattle.std.proofs.lemmas.Iterator.Consumers.{count_from_yields_List}
use Rattle.keys.specs.Keys.{is_code}
use Rattle.codes.proofs.Laws.{leading_taken, leading_most}
use Rattle.codes.proofs.good.Goals as goal

pub returns : goal.returns
returns c =
    let codes = c.args.codes.now in
    let e = count_from_yields_List _ _ c.count.ensures.ran (YieldsList-from_take_while _ is_code (YieldsList-from_slice codes cc) c.take_while.ensures.closure c.take_while.ensures.done (λ x b q k. search (rules, tests))) ∙ leading_taken is_code codes in
    (e, rw e (leading_most is_code codes))
