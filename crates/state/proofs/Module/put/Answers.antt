-- `Module::put` meets its contract: by the test whether there is room.
use mathlib.Core.Path.{sym, ap}
use Rattle.state.specs.Module.{with_queue}
use Rattle.state.proofs.Laws.{put_room, put_full}
use Rattle.state.proofs.Module.put.Goals as goal

pub returns-then-self-lt-FULL : goal.returns-then-self-lt-FULL
returns-then-self-lt-FULL c =
    let a = c.args in
    let m = a.self.now in
    sym (ap (with_queue m) (put_room m.queue m.count m.relint a.code c.if-self-lt-FULL.true))

pub returns-else-self-lt-FULL : goal.returns-else-self-lt-FULL
returns-else-self-lt-FULL c =
    let a = c.args in
    let m = a.self.now in
    sym (ap (with_queue m) (put_full m.queue m.count m.relint a.code c.if-self-lt-FULL.false))
