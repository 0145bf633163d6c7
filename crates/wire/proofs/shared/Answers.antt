-- `wire::shared` meets its contract: the first place at which the lists differ, or their length.
use mathlib.Core.Path.{◌≡◌}
use mathlib.Core.Bool.{not}
use lib.Dec.{eqb}
use borrow.Author.Rules.{rules}
use Rattle.std.proofs.Common.{tests}
use Rattle.std.proofs.lemmas.Iterator.{YieldsList-from_slice, YieldsList-from_zip}
use Rattle.std.proofs.lemmas.Iterator.Search.{position_from_yields_List}
use Rattle.wire.proofs.Laws.{shared_found}
use Rattle.wire.proofs.shared.Goals as goal

pub returns : goal.returns
returns c =
    let a = c.args.a.now in
    let b = c.args.b.now in
    let from_a : c.zip.result.a.rest.now ≡ a = cc in
    let from_b : c.zip.result.b.rest.now ≡ b = cc in
    shared_found a b c.requires c.position.result
    (position_from_yields_List (λ p. not (eqb p.0 p.1)) c.position.new.self _ c.position.result c.position.ensures.ran (YieldsList-from_zip (YieldsList-from_slice a from_a) (YieldsList-from_slice b from_b)) (λ x b q k. search (rules, tests)))
    _ c.unwrap_or.ensures
