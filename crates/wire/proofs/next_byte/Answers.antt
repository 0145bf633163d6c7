-- `wire::next_byte` meets its contract: the bus is given a byte, or nothing, by what the wire is doing and how many were given.
use mathlib.Core.Path.{sym}
use borrow.Author.Rules.{rules}
use Rattle.wire.proofs.Laws.{has_facts, given_none, given_byte}
use Rattle.wire.proofs.next_byte.Goals as goal

pub returns-then-not-has_more : goal.returns-then-not-has_more
returns-then-not-has_more c = given_none _ (sym c.if-not-has_more.ensures)

pub bounds-w-w : goal.bounds-w-w
bounds-w-w c = (has_facts c.args.w.now (sym c.if-not-has_more.ensures)).2

pub overflow_add-w : goal.overflow_add-w
overflow_add-w c = let h = (has_facts c.args.w.now (sym c.if-not-has_more.ensures)).2 in search rules

pub returns : goal.returns
returns c = given_byte c.args.w.now (sym c.if-not-has_more.ensures)
