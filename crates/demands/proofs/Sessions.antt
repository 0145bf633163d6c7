-- THE P SESSIONS: ours give all that the table of specs/Sessions.antt says, whatever the module was before a session's reset.
--
--    sessions_pass    P1 TO P12, computed
-- Assumes nothing.
use mathlib.Core.Path.{◌≡◌, refl}
use mathlib.Core.Bool.{true}
use lib.ListN.{length}
use Rattle.words.specs.Words.{all}
use Rattle.state.specs.declared.Module.{Module}
use Rattle.demands.specs.Ours.{ours}
use Rattle.demands.specs.Sessions.{passes, sessions}
use Rattle.demands.proofs.Opened.{opened}

-- "Those marked P are proved."
pub sessions_pass : (m : Module) → (length sessions ≡ 12) × (all (passes ours m) sessions ≡ true)
unfolding opened
sessions_pass m = (refl, refl)
