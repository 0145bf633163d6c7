-- `undo::next` meets its contract: the end, a code outside, or a group that the trim key opens.
use native.Mathlib.Omega.{arith}
use borrow.Author.Rules.{rules}
use Rattle.undo.proofs.Following.{next_none, next_alone}
use Rattle.undo.proofs.next.Goals as goal

pub returns-in-None : goal.returns-in-None
returns-in-None c = let e = c.in-None.ensures in next_none _ _ _ _ (omega arith)

pub returns-in-Some : goal.returns-in-Some
returns-in-Some c =
    let e = c.in-Some.ensures in
    let other = c.if-code-trim.true in
    next_alone _ _ _ _ (omega arith) (λ k. other (search rules))
