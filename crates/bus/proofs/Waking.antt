-- A TRANSFER ALTERS THE MACHINE at its beginning, when it wakes it, and at its stop.
--
--    awake_still       if some access isn't declined with 27, one of no bytes alters nothing
--    begins_wakes      so the calls of a beginning leave what that one leaves
--    transfer_wakes    WAKES: the beginning of a transfer wakes a panel that sleeps, and alters none that doesn't
--    takes_nothing, gives_nothing, drops_nothing    what else happens in a transfer alters nothing
-- Assumes nothing.
use Prim.Native.Nat.{ℕ}
use mathlib.Core.Path.{◌≡◌, refl, sym}
use mathlib.Core.Bool.{true, false, cond}
use mathlib.Core.List.{List, [], ◌∷◌, ◌++◌}
use lib.Dec.{eqb}
use borrow.Author.Tests.{eqb-false}
use Rattle.words.proofs.Lists.{by_test}
use Rattle.numbers.specs.Numbers.{Line, number_of}
use Rattle.judge.specs.Lines.{read_lines, access_lines}
use Rattle.state.specs.declared.Module.{Module}
use Rattle.sound.specs.Sound.{sound}
use Rattle.calls.specs.Calls.{access_number, read_number, accessed, read_call}
use Rattle.calls.proofs.Laws.{unsound_access, asleep_first, awake_then}
use Rattle.wire.specs.Wire as wire
use Rattle.demands.specs.Machine.{Call, after, awake}
use Rattle.demands.specs.Ours as calls
use Rattle.demands.specs.Ours.{changing, called}
use Rattle.bus.specs.Bus.{reads, writes, takes, gives, drops, Event, bus, goes_on, story, state}
use Rattle.bus.specs.Ours.{waking, rouses, moved, steps, ours}

-- ---- the beginning
module _ (m : Module) where
  -- an access of no bytes is declined
  still_unsound : sound m ≡ false → (called m waking).next ≡ m
  unfolding called changing read_call accessed read_number
  still_unsound e = rw (unsound_access m (read_lines 0x10 0) e) refl

  still_awake : sound m ≡ true → m.asleep ≡ false → (called m waking).next ≡ m
  unfolding called changing read_call accessed read_number read_lines access_lines number_of
  still_awake e z = rw (awake_then m (read_lines 0x10 0) e z) refl

  -- an access that isn't declined with 27 finds the panel awake
  awake_still : (l : List Line) → (access_number m l ≡ 27 → ⊥) → (called m waking).next ≡ m
  awake_still l h =
      by_test (λ t. sound m ≡ t → (called m waking).next ≡ m) (sound m)
      (λ _ ok. by_test (λ t. m.asleep ≡ t → (called m waking).next ≡ m) m.asleep (λ _ z. absurd (h (asleep_first m l ok z))) (λ _ z. still_awake ok z) refl)
      (λ _ bad. still_unsound bad) refl

begins_wakes : (cs : List Call) (l : List Line) → after calls.ours (rouses (access_number (after calls.ours cs) l) ++ cs) ≡ awake calls.ours (after calls.ours cs)
unfolding rouses after awake
begins_wakes cs l =
    let m = after calls.ours cs in
    let n = access_number m l in
    by_test (λ t. after calls.ours (cond t (waking ∷ []) [] ++ cs) ≡ (called m waking).next) (eqb n 27)
    (λ _. refl) (λ e. sym (awake_still m l (eqb-false n 27 e)))

pub transfer_wakes : (es : List Event) → (state ours (bus reads ∷ es) ≡ awake calls.ours (state ours es)) × (state ours (bus writes ∷ es) ≡ awake calls.ours (state ours es))
unfolding state story goes_on steps moved wire.begin_read wire.begin_write read_number
transfer_wakes es =
    let s = story ours es in
    (begins_wakes s.calls (read_lines s.at.first 1), begins_wakes s.calls [])

-- ---- what else happens
pub takes_nothing : (es : List Event) (b : ℕ) → state ours (bus (takes b) ∷ es) ≡ state ours es
unfolding state story goes_on steps moved
takes_nothing es b = refl

pub gives_nothing : (es : List Event) → state ours (bus gives ∷ es) ≡ state ours es
unfolding state story goes_on steps moved
gives_nothing es = refl

pub drops_nothing : (es : List Event) → state ours (bus drops ∷ es) ≡ state ours es
unfolding state story goes_on steps moved
drops_nothing es = refl
