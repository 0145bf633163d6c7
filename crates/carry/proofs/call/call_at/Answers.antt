-- `carry::call::call_at` meets its contract: the numbers are read where the list has the call.
use Rattle.carry.proofs.Lists.{call_there}
use Rattle.carry.proofs.call.call_at.Goals as goal

pub returns : goal.returns
returns c =
    let a = c.args in
    call_there a.calls.now a.i c.values_of.result c.values_of.ensures
