-- `judge::are_narrow` meets its contract: what `all` answered, by one comparison for each sample.
use Prim.Native.Nat.{◌<◌, ◌≤◌}
use native.Mathlib.Omega.{arith}
use borrow.Author.Rules.{rules}
use borrow.Author.Tests.{tests}
use Rattle.std.proofs.lemmas.Iterator.{cases_from_all, YieldsList-from_slice}
use Rattle.judge.proofs.Laws.{narrow}
use Rattle.judge.proofs.are_narrow.Goals as goal

pub returns : goal.returns
returns c =
    let s = c.args.samples.now in
    narrow s _ (λ i. omega (arith, c.type_inv.samples i))
    (cases_from_all _ _ _ (λ x. x < 0x2000) (λ x. 0x2000 ≤ x) c.all.ensures.ran (YieldsList-from_slice s cc) (λ x q k. search (rules, tests)) (λ x q k. search (rules, tests)))
