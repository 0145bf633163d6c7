-- SOUND IS REACHED, no more and no less: a state of the struct's type is sound exactly when calls from reset reach the one with its keypad,
-- awake, with a count of 0, and with the pins as after reset.
--
--    reached_by (proofs/Calls.antt)    that state is reached, if the given one is sound
--    back             a reached state is sound, and of the struct's type
--    sound_is_reached    both, as specs/Reach.antt has them
--    next_reached     one call more
--    reached_itself   a sound state whose count is 0, and whose pins are as after reset, is reached itself
--    unreached        a state that isn't sound is reached by no calls; unsound: one whose keypad no calls reach isn't sound
--    least            a test that never fails after calls from reset holds of every sound state that is awake, with a count of 0, and with the pins as after reset
--    onward           calls from a state that others reach are calls that come later
--    from_sound       so calls from such a state are calls from reset that come later
-- Assumes nothing.
use native.Mathlib.Omega.{arith}
use mathlib.Core.Path.{◌≡◌, refl, sym, ap, ◌∙◌, subst}
use mathlib.Core.Bool.{Bool, true, false}
use mathlib.Core.List.{List, [], ◌∷◌, ◌++◌}
use Rattle.words.specs.Words.{all}
use Rattle.words.proofs.Laws.{all_cons}
use Rattle.words.proofs.Lists.{by_test}
use Rattle.pins.specs.Pins as pins
use Rattle.state.specs.declared.Module.{Module}
use Rattle.state.specs.Module.{keypad}
use Rattle.state.specs.Typed.{Typed}
use Rattle.sound.specs.Said.{Said}
use Rattle.demands.specs.Machine as machine
use Rattle.demands.specs.Machine.{Call, Machine}
use Rattle.demands.specs.Table.{Unsound}
use Rattle.demands.specs.Ours.{called, ours}
use Rattle.demands.proofs.Reached.{reached_typed, reached_said}
use Rattle.reach.specs.Reach.{callable, ReachedBy, SoundIsReached, after_from}
use Rattle.reach.proofs.Apart.{as_after_reset}
use Rattle.reach.proofs.Calls.{types_fit, reached_by, of_every}

-- ---- "Number 8 is given exactly otherwise, and never for a state reached by calls from reset."
pub back : (m : Module) → ReachedBy m → Typed m × Said m
back m r =
    let fit = types_fit r.calls r.types in
    (subst Typed r.there (reached_typed r.calls fit), subst Said r.there (reached_said r.calls fit))

pub sound_is_reached : SoundIsReached
sound_is_reached = record { reached = reached_by; sound = back }

pub next_reached : (m : Module) (c : Call) → callable c ≡ true → ReachedBy m → ReachedBy (called m c).next
unfolding machine.after
next_reached m c f r =
    record { calls = c ∷ r.calls; types = all_cons callable c r.calls f r.types; there = ap (λ (x : Module). (called x c).next) r.there }

-- with a count of 0 it is awake
pub reached_itself : (m : Module) → m.pins ≡ pins.fresh → m.quiet ≡ 0 → Typed m → Said m → ReachedBy m
reached_itself m p q t s =
    let awake = by_test (λ b. b ≡ false) m.asleep (λ z. let full = s.sleeps z in absurd (omega arith)) (λ _. refl) in
    subst ReachedBy (as_after_reset m p q awake) (reached_by m t s)

pub unreached : (m : Module) → Unsound m → ReachedBy m → ⊥
unreached m n r = n (back m r).1

pub unsound : (m : Module) → Typed m → (ReachedBy (keypad m) → ⊥) → Unsound m
unsound m t n s = n (reached_by m t s)

-- ---- no test that all reached states pass is stricter
pub least : (other : Module → Bool) → ((cs : List Call) → all callable cs ≡ true → other (machine.after ours cs) ≡ true) → (m : Module) → Typed m → Said m → other (keypad m) ≡ true
least other never = of_every (λ m. other m ≡ true) never

-- ---- calls from a given state on, newest first
pub onward : (M : Machine) (cs before : List Call) → after_from M (machine.after M before) cs ≡ machine.after M (cs ++ before)
unfolding after_from machine.after
onward M [] before = refl
onward M (c ∷ cs) before = ap (λ (σ : M.State). (M.does σ c).next) (onward M cs before)

pub from_sound : (m : Module) → Typed m → Said m → (before : List Call) × ((all callable before ≡ true) × ((cs : List Call) → after_from ours (keypad m) cs ≡ machine.after ours (cs ++ before)))
from_sound m t s =
    let r = reached_by m t s in
    (r.calls, (r.types, λ cs. ap (λ (x : Module). after_from ours x cs) (sym r.there) ∙ onward ours cs r.calls))
