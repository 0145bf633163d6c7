-- `state::queue::shifted` meets its contract: the array's elements, one by one, are the list's.
use Rattle.state.proofs.Laws.{shift_fifteen}
use borrow.Author.Rules.{rules}
use Rattle.state.proofs.queue.shifted.Goals as goal

pub returns : goal.returns
returns c = shift_fifteen c.args.places (search rules)
