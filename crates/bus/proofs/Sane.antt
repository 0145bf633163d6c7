-- AFTER ANY EVENTS the wire and the host agree, and every call that was made has values that fit.
--
--    made_fit     the calls that a stop makes fit
--    Sane s       the wire and the host of the story s agree, and its calls fit
--    sane         so it is after any events that fit
-- Assumes nothing.
use Prim.Native.Nat.{ℕ}
use native.Mathlib.Omega.{arith}
use mathlib.Core.Path.{◌≡◌, refl}
use mathlib.Core.Bool.{true, cond}
use mathlib.Core.List.{List, [], ◌∷◌, ◌++◌}
use lib.Dec.{eqb}
use lib.ListN.{take}
use borrow.Author.Tests.{eqb-true}
use Rattle.words.specs.Words.{all}
use Rattle.words.proofs.Laws.{all_first, all_rest, all_cons}
use Rattle.words.proofs.Lists.{by_test, all_none, all_take}
use Rattle.wire.specs.declared.Wire.{Wire}
use Rattle.wire.specs.Wire as wire
use Rattle.demands.specs.Machine.{Call, write, read, after, fits}
use Rattle.demands.specs.Ours as calls
use Rattle.bus.specs.Bus.{Step, reads, writes, takes, gives, stops, drops, Event, bus, own, Host, told, Story, goes_on, story, fit}
use Rattle.bus.specs.Ours.{twice, access_of, made, moved, steps, ours}
use Rattle.bus.proofs.Twice.{rouses_fit, twice_fit}
use Rattle.bus.proofs.Wired.{low, Wired, wired_start, wired_idle, wired_reads, wired_writes, wired_takes, wired_gives}

made_fit : (cs : List Call) (w : Wire) (h : Host) (n : ℕ) → Wired w h → all fits cs ≡ true → all fits (made (after calls.ours cs) w n ++ cs) ≡ true
unfolding made access_of fits
made_fit cs w h n v t =
    let m = after calls.ours cs in
    let k = wire.counted m w n in
    let l = take k w.bytes in
    by_test (λ b. all fits (cond b [] (twice m (cond (eqb w.doing 2) (write w.first l) (read w.first l))) ++ cs) ≡ true) (eqb k 0)
    (λ _. t)
    (λ _. by_test (λ b. all fits (twice m (cond b (write w.first l) (read w.first l)) ++ cs) ≡ true) (eqb w.doing 2)
    (λ e. let two = eqb-true w.doing 2 e in twice_fit cs (write w.first l) (all_take low k w.bytes (v.fitting (omega arith) (omega arith))) t)
    (λ _. twice_fit cs (read w.first l) refl t))

pub record Sane (s : Story ours) : Type 0 where
  pub wired : Wired s.at s.host
  pub fitting : all fits s.calls ≡ true

sane_step : (s : Story ours) (x : Step) → Sane s → fit (bus x) ≡ true → Sane (goes_on ours s (bus x))
unfolding goes_on steps moved fit wire.stop wire.drop_open told
sane_step s reads v f =
    let m = after calls.ours s.calls in
    record { wired = wired_reads s.at s.host v.wired m 0; fitting = rouses_fit s.calls (wire.begin_read m s.at).number v.fitting }
sane_step s writes v f =
    let m = after calls.ours s.calls in
    record { wired = wired_writes s.at s.host v.wired m 0; fitting = rouses_fit s.calls (wire.begin_write m s.at).number v.fitting }
sane_step s (takes b) v f = record { wired = wired_takes s.at s.host v.wired b 0 f; fitting = v.fitting }
sane_step s gives v f = record { wired = wired_gives s.at s.host v.wired; fitting = v.fitting }
sane_step s (stops n) v f = record { wired = wired_idle s.at s.host v.wired; fitting = made_fit s.calls s.at s.host n v.wired v.fitting }
sane_step s drops v f = record { wired = wired_idle s.at s.host v.wired; fitting = v.fitting }

pub sane : (es : List Event) → all fit es ≡ true → Sane (story ours es)
unfolding story goes_on fit
sane [] f = record { wired = wired_start; fitting = all_none fits }
sane (bus x ∷ es) f = sane_step (story ours es) x (sane es (all_rest fit (bus x) es f)) (all_first fit (bus x) es f)
sane (own c ∷ es) f =
    let v = sane es (all_rest fit (own c) es f) in
    record { wired = v.wired; fitting = all_cons fits c (story ours es).calls (all_first fit (own c) es f) v.fitting }
