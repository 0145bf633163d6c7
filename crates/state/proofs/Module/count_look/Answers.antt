-- `Module::count_look` meets its contract: each branch by the law of its test.
use borrow.Author.Rules.{rules}
use mathlib.Core.Path.{ap, ◌∙◌}
use Rattle.state.specs.Module.{with_sleep}
use Rattle.state.proofs.Counted.{counted_woke, counted_awake, counted_asleep}
use Rattle.state.proofs.Module.count_look.Goals as goal

pub returns-then-stirred : goal.returns-then-stirred
returns-then-stirred c = c.wake.ensures ∙ ap (with_sleep c.args.self.now) (counted_woke _ _ c.if-stirred.true)

pub returns-then-self : goal.returns-then-self
returns-then-self c = ap (with_sleep c.args.self.now) (counted_awake _ _ c.if-stirred.false c.if-self.true)

pub returns-else-self : goal.returns-else-self
returns-else-self c = ap (with_sleep c.args.self.now) (counted_asleep _ _ c.if-stirred.false c.if-self.false)
