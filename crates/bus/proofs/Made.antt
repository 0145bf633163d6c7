-- THE CALLS THAT A STOP MAKES.
--
--    count_read, count_write           how many bytes the access has
--    made_read, made_write, made_none  the calls, while the host reads, while it writes, and while it does neither
--    once                              an access that isn't declined with 27 is made once
-- Assumes nothing.
use Prim.Native.Nat.{ℕ}
use native.Mathlib.Omega.{arith}
use mathlib.Core.Path.{◌≡◌, refl}
use mathlib.Core.Bool.{cond}
use mathlib.Core.List.{[], ◌∷◌}
use lib.Dec.{eqb}
use lib.ListN.{take}
use borrow.Author.Tests.{eq-eqb, ne_eqb}
use Rattle.state.specs.declared.Module.{Module}
use Rattle.wire.specs.declared.Wire.{Wire}
use Rattle.wire.specs.Wire.{least, agreed, sent, counted}
use Rattle.demands.specs.Machine.{Call, write, read}
use Rattle.demands.specs.Ours.{called}
use Rattle.bus.specs.Ours.{twice, access_of, made}

module _ (m : Module) (w : Wire) (n : ℕ) where
  module _ (d : w.doing ≡ 3) where
    pub count_read : counted m w n ≡ agreed m w.first (sent w n)
    unfolding counted
    count_read = rw (ne_eqb w.doing 2 (λ e. omega arith), eq-eqb w.doing 3 d) refl

    pub made_read : made m w n ≡ cond (eqb (counted m w n) 0) [] (twice m (read w.first (take (counted m w n) w.bytes)))
    unfolding made access_of
    made_read = rw (ne_eqb w.doing 2 (λ e. omega arith)) refl

  module _ (d : w.doing ≡ 2) where
    pub count_write : counted m w n ≡ least w.count 33
    unfolding counted
    count_write = rw (eq-eqb w.doing 2 d) refl

    pub made_write : made m w n ≡ cond (eqb (counted m w n) 0) [] (twice m (write w.first (take (counted m w n) w.bytes)))
    unfolding made access_of
    made_write = rw (eq-eqb w.doing 2 d) refl

  pub made_none : (w.doing ≡ 2 → ⊥) → (w.doing ≡ 3 → ⊥) → made m w n ≡ []
  unfolding made counted
  made_none a b = rw (ne_eqb w.doing 2 a, ne_eqb w.doing 3 b) refl

pub once : (m : Module) (c : Call) → ((called m c).number ≡ 27 → ⊥) → twice m c ≡ c ∷ []
unfolding twice
once m c h = rw (ne_eqb (called m c).number 27 h) refl
