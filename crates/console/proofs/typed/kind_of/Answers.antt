-- `typed::kind_of` meets its contract: the word was found to be the name, and each name has four letters or more.
use Rattle.std.proofs.Common.{arith}
use Rattle.console.specs.Names.{call_name}
use Rattle.console.proofs.Names.{named}
use Rattle.console.proofs.typed.kind_of.Goals as goal

pub returns-then-is_same : goal.returns-then-is_same
unfolding call_name
returns-then-is_same c = named _ _ _ 4 c.is_same.ensures c.if-is_same.true (omega arith)

pub returns-then-is_same-2 : goal.returns-then-is_same-2
unfolding call_name
returns-then-is_same-2 c = named _ _ _ 4 c.is_same-2.ensures c.if-is_same-2.true (omega arith)

pub returns-then-is_same-3 : goal.returns-then-is_same-3
unfolding call_name
returns-then-is_same-3 c = named _ _ _ 4 c.is_same-3.ensures c.if-is_same-3.true (omega arith)

pub returns-then-is_same-4 : goal.returns-then-is_same-4
unfolding call_name
returns-then-is_same-4 c = named _ _ _ 4 c.is_same-4.ensures c.if-is_same-4.true (omega arith)
