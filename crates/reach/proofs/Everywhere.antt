-- THE DEMANDS COVER EVERY SOUND STATE that is awake, with a count of 0, and with the pins as after reset, not only those after a list of calls that one has in hand.
--
--    sleep_kept           a call leaves the count and the sleep as soundness asks for them
--    sound_kept           a call leaves a sound state sound, whatever sound state it was: its pins, its count and its sleep
--    shows_everywhere     demand 2: every sound state, awake, with a count of 0, and with the pins as after reset, shows what the sheet gives for some past that calls can make
--    codes_everywhere     demand 3: for some calls that reach such a state, the codes fetched by them and those that wait are the changes demanded, less those that came when 15 waited
-- Assumes nothing.
use Prim.Native.Nat.{ℕ}
use native.Mathlib.Decide.{ℕ_discrete}
use mathlib.Core.Path.{◌≡◌, sym, ap, ◌∙◌, subst}
use mathlib.Core.Bool.{true, false, cond}
use mathlib.Core.List.{List, ◌++◌}
use lib.Dec.{eqb}
use lib.ListN.{length}
use Rattle.words.proofs.Lists.{by_test}
use Rattle.pins.specs.Pins as part
use Rattle.sheet.specs.Sheet.{Past}
use Rattle.sheet.specs.Ledger.{kept, arrivals}
use Rattle.state.specs.declared.Module.{Module}
use Rattle.state.specs.Module.{fresh, sleep, sleep_of, woken, keypad}
use Rattle.state.specs.Typed.{Typed}
use Rattle.state.proofs.Counted.{counted_least, counted_sleeps}
use Rattle.sound.specs.Sound.{sound}
use Rattle.sound.specs.Said.{Said}
use Rattle.sound.proofs.Laws.{sound_facts}
use Rattle.sound.proofs.Exactly.{said_sound}
use Rattle.scan.specs.Scan.{calm, looked}
use Rattle.scan.proofs.Laws.{looked_sleep}
use Rattle.access.specs.Accesses.{wrote, read_all}
use Rattle.calls.specs.Calls.{look_number, write_number, read_number, pins_number, outcome, accessed, answer, reset_call, look_call, write_call, read_call, held_call, interrupt_call, sampling, pins_call}
use Rattle.demands.specs.Machine as machine
use Rattle.demands.specs.Machine.{Call, reset, look, write, read, held, interrupt, pins, done, fetched, seen}
use Rattle.demands.specs.Ours.{changing, asking, called, ours}
use Rattle.demands.specs.Shown.{fitting}
use Rattle.demands.proofs.Reached.{reached_fitting}
use Rattle.demands.proofs.Rows.{refused_wakes}
use Rattle.demands.proofs.Meets.{ours_demand2, ours_demand3}
use Rattle.reach.specs.Reach.{callable, Shows}
use Rattle.reach.proofs.Apart.{unpinned, Counts, awake_counts, typed_apart, said_apart, pins_apart, sleep_apart}
use Rattle.reach.proofs.Calls.{types_fit, reached_by}
use Rattle.reach.proofs.Exactly.{back, next_reached}

-- ---- one call more
looked_counts : (m : Module) (s : List ℕ) → Counts (sleep_of (looked m s))
looked_counts m s = subst Counts (sym (looked_sleep m s)) (record { least = counted_least (sleep_of m) (calm m s); sleeps = counted_sleeps (sleep_of m) (calm m s) })

access_counts : (n : ℕ) (x m : Module) → Counts (sleep_of m) → Counts (sleep_of (accessed m x n).after)
unfolding accessed
access_counts n x m h =
    let w = by_test (λ t. Counts (sleep_of (cond t (woken m) m))) (eqb n 27) (λ _. awake_counts) (λ _. h) in
    by_test (λ t. Counts (sleep_of (cond t (woken x) (cond (eqb n 27) (woken m) m)))) (eqb n 0) (λ _. awake_counts) (λ _. w)

sleep_kept : (m : Module) (c : Call) → Counts (sleep_of m) → Counts (sleep_of (called m c).next)
unfolding called changing asking reset_call look_call write_call read_call held_call interrupt_call pins_call sampling outcome accessed answer fresh
sleep_kept m reset h = awake_counts
sleep_kept m (look s) h = by_test (λ t. Counts (sleep_of (cond t (looked m s) m))) (eqb (look_number m s) 0) (λ _. looked_counts m s) (λ _. h)
sleep_kept m (write a bs) h = access_counts (write_number m a bs) (wrote m a bs) m h
sleep_kept m (read a out) h = access_counts (read_number m a (length out)) (read_all m a (length out)) m h
sleep_kept m (held row col) h = h
sleep_kept m interrupt h = h
sleep_kept m (pins x) h = by_test (λ t. Counts (sleep_of (cond t (sampling m x) m))) (eqb (pins_number m x) 0) (λ _. h) (λ _. h)

pub sound_kept : (m : Module) (c : Call) → Typed m → Said m → callable c ≡ true → Typed (called m c).next × Said (called m c).next
sound_kept m c y e f = go (ℕ_discrete (called m c).number 27)
  where
    ok : sound m ≡ true
    ok = said_sound m y e

    x : Module
    x = (called m c).next

    z : Module
    z = (called (keypad m) c).next

    counts : Counts (sleep_of x)
    counts = let s = sound_facts m ok in sleep_kept m c (record { least = s.counted; sleeps = s.asleep })

    go : Dec ((called m c).number ≡ 27) → Typed x × Said x
    -- the panel was woken, and nothing else
    go (yes w) =
        subst (λ n. Typed n × Said n) (sym (refused_wakes m c w).0)
        (typed_apart m m.pins (sleep 0 false) y, said_apart m m.pins (sleep 0 false) awake_counts e)
    go (no w) =
        let k = back z (next_reached (keypad m) c f (reached_by m y e)) in
        let same : keypad z ≡ keypad x = sym (ap unpinned (sleep_apart m ok c w) ∙ ap woken (pins_apart (woken m) c)) in (
          typed_apart (keypad x) x.pins (sleep_of x) (subst Typed same (typed_apart z part.fresh (sleep 0 false) k.0)),
          said_apart (keypad x) x.pins (sleep_of x) counts (subst Said same (said_apart z part.fresh (sleep 0 false) awake_counts k.1)),
        )

-- ---- demand 2
pub shows_everywhere : (m : Module) → Typed m → Said m → (past : Past) × ((fitting past ≡ true) × Shows (keypad m) past)
shows_everywhere m y e =
    let r = reached_by m y e in
    let cs = r.calls in
    let t = types_fit cs r.types in
    let there : Shows (machine.after ours cs) (done ours cs) = record { bytes = ours_demand2.bytes cs; keys = ours_demand2.keys cs t; line = ours_demand2.line cs t } in
    (done ours cs, (reached_fitting cs t, subst (λ (x : Module). Shows x (done ours cs)) r.there there))

-- ---- demand 3
pub codes_everywhere : (m : Module) → Typed m → Said m → (cs : List Call) × ((machine.after ours cs ≡ keypad m) × (fetched ours cs ++ seen ours (keypad m) ≡ kept (arrivals (done ours cs))))
codes_everywhere m y e =
    let r = reached_by m y e in
    let cs = r.calls in
    (cs, (r.there, ap (λ (x : Module). fetched ours cs ++ seen ours x) (sym r.there) ∙ ours_demand3.ledger cs (types_fit cs r.types)))
