-- `Module::take_oldest` meets its contract: by the test whether a code waits.
use Prim.Native.Nat.{ℕ, ◌-◌}
use mathlib.Core.Path.{◌∙◌, ap}
use mathlib.Core.List.{List}
use Rattle.state.specs.Module.{queue, with_queue}
use Rattle.state.proofs.Laws.{taken_none, taken_some}
use Rattle.state.proofs.Module.take_oldest.Goals as goal

pub returns-then-self-lt1 : goal.returns-then-self-lt1
returns-then-self-lt1 c =
    let m = c.args.self.now in
    let e = taken_none m.queue m.count m.relint c.if-self-lt1.true in
    (e.0, ap (with_queue m) e.1)

pub returns : goal.returns
returns c =
    let m = c.args.self.now in
    let e = taken_some m.queue m.count m.relint c.if-self-lt1.false in
    (e.0, ap (λ (l : List ℕ). with_queue m (queue l (m.count - 1) m.relint)) c.shifted-self.ensures ∙ ap (with_queue m) e.1)
