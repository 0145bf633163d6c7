-- `Module::restart` meets its contract: the fresh state, but for what a restart keeps.
use mathlib.Core.Path.{ap}
use Rattle.state.specs.declared.Module.{Module}
use Rattle.state.specs.Module.{anew, restarted}
use Rattle.state.proofs.Module.restart.Goals as goal

pub returns : goal.returns
unfolding restarted
returns c = let a = c.args in ap (λ (f : Module). anew f a.self.now a.size) c.fresh.ensures
