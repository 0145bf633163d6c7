-- THE CODES MADE AHEAD, while a host reads from EVTCODE: they waited when the read began, and still wait before all that came since.
--
--    Ahead w past      so it is of the wire w after a past; AheadThen w past: if the host reads there
--    ahead_waiting     the bytes made ahead at EVTCODE are the codes that wait, then empty marks
--    ahead_reads, ahead_takes, ahead_gives, ahead_own    after each event
--    aheads            AHEADS: after any events that fit, if the panel's own program only looks, samples its pins and asks while the host reads
-- Assumes nothing.
use Prim.Native.Nat.{ℕ, ◌-◌}
use native.Mathlib.Omega.{arith}
use mathlib.Core.Path.{◌≡◌, refl, sym, ap, subst, ◌∙◌}
use mathlib.Core.Bool.{Bool, true, false, cond, not, ◌||◌, or-false}
use mathlib.Core.List.{List, [], ◌∷◌, ◌++◌, append-nil, append_assoc}
use lib.Dec.{eqb}
use lib.ListN.{length, take, replicate, length-append}
use lib.Seq.{take-append_seam}
use borrow.Author.Tests.{eq-eqb}
use Rattle.words.specs.Words.{all}
use Rattle.words.proofs.Laws.{true_false, and_left, and_right, all_rest}
use Rattle.words.proofs.Lists.{by_test, take_room}
use Rattle.sheet.specs.Sheet.{Past, Beside, sampled, refused, looked, beside, changes, waiting}
use Rattle.sheet.proofs.Facts.{waiting_most}
use Rattle.state.specs.declared.Module.{Module}
use Rattle.access.specs.Accesses.{bytes_read}
use Rattle.calls.specs.Calls.{access_number, read_number}
use Rattle.wire.specs.declared.Wire.{Wire}
use Rattle.wire.specs.Wire as wire
use Rattle.wire.proofs.Laws.{longest_most, longest_run, bytes_length}
use Rattle.demands.specs.Machine.{Call, reset, look, write, read, held, interrupt, pins, after, happened, noted, done}
use Rattle.demands.specs.Ours as calls
use Rattle.demands.proofs.Sleep.{noted_cases}
use Rattle.demands.proofs.Observed.{bytes_read_lem}
use Rattle.bus.specs.Bus.{Step, reads, writes, takes, gives, stops, drops, Event, bus, own, Story, goes_on, story, fit, mild, proper}
use Rattle.bus.specs.Ours.{rouses, nameless, moved, steps, ours}
use Rattle.bus.proofs.Laws.{bytes_waiting}
use Rattle.bus.proofs.Twice.{rouses_waiting}
use Rattle.bus.proofs.Cases.{takes_cases, gives_cases}
use Rattle.bus.proofs.Sane.{sane}

-- the codes that waited then, and those that came since
pub record Ahead (w : Wire) (past : Past) : Type 0 where
  pub old : List ℕ
  pub since : List ℕ
  pub waits : waiting past ≡ old ++ since
  pub same : take w.count w.bytes ≡ take w.count (old ++ replicate 32 0x7F)

-- it is asked for only while the host reads there
abbrev pub AheadThen : Wire → Past → Type 0
AheadThen w past = w.doing ≡ 3 → w.first ≡ 0x10 → Ahead w past

-- ---- the beginning
module _ (cs : List Call) where
  abbrev module_now : Module
  module_now = after calls.ours cs

  abbrev waits_now : List ℕ
  waits_now = waiting (done calls.ours cs)

  ahead_waiting : wire.ahead module_now 0x10 ≡ take (length (wire.ahead module_now 0x10)) (waits_now ++ replicate 32 0x7F)
  unfolding wire.ahead
  ahead_waiting =
      let n = wire.longest 0x10 in
      by_test (λ t. cond t (bytes_read module_now 0x10 n) [] ≡ take (length (cond t (bytes_read module_now 0x10 n) [])) (waits_now ++ replicate 32 0x7F))
      (eqb (read_number module_now 0x10 1) 0)
      (λ _. bytes_read_lem cs 0x10 n (longest_run 0x10)
      ∙ bytes_waiting n (done calls.ours cs) 32 (longest_most 0x10)
      ∙ ap (λ (k : ℕ). take k (waits_now ++ replicate 32 0x7F)) (sym (bytes_length module_now 0x10 n)))
      (λ _. refl)

  ahead_reads : (w : Wire) → AheadThen (wire.begin_read module_now w).wire (done calls.ours (rouses (wire.begin_read module_now w).number ++ cs))
  unfolding wire.begin_read wire.opened wire.filled
  ahead_reads w d a =
      let l = wire.ahead module_now w.first in
      record {
        old = waits_now;
        since = [];
        waits = rouses_waiting cs (read_number module_now w.first 1) ∙ sym (append-nil waits_now);
        same = take-append_seam l (replicate (33 - length l) 0)
            ∙ subst (λ b. wire.ahead module_now b ≡ take (length (wire.ahead module_now b)) (waits_now ++ replicate 32 0x7F)) (sym a) ahead_waiting;
      }

-- ---- bytes
module _ (w : Wire) (past : Past) (h : AheadThen w past) where
  ahead_takes : (x : ℕ) → AheadThen (wire.take_byte w x).wire past
  ahead_takes x =
      takes_cases w (λ v. AheadThen v past) x (λ _ d. absurd (omega arith)) (λ _ d. absurd (omega arith)) (λ e _ d. absurd (omega arith)) (λ _ _. h)

  ahead_gives : AheadThen (wire.next_byte w).wire past
  ahead_gives =
      gives_cases w (λ v _. AheadThen v past)
      (λ _ _ _ d a. let g = h d a in record { old = g.old; since = g.since; waits = g.waits; same = g.same }) (λ _. h)

-- ---- the panel's own program
-- a look puts its codes behind those that wait
ahead_looked : (w : Wire) (s : List ℕ) (past : Past) → Ahead w past → Ahead w (looked s ∷ past)
unfolding waiting
ahead_looked w s past h =
    let most = waiting_most past in
    let long = ap length h.waits ∙ length-append h.old h.since in
    record {
      old = h.old;
      since = take (15 - length h.old) (h.since ++ changes s past);
      waits = ap (λ (l : List ℕ). take 15 (l ++ changes s past)) h.waits
          ∙ ap (take 15) (append_assoc h.old h.since (changes s past))
          ∙ take_room 15 h.old (h.since ++ changes s past) (omega arith);
      same = h.same;
    }

-- what the keypad doesn't see alters no code that waits
ahead_beside : (w : Wire) (b : Beside) (past : Past) → Ahead w past → Ahead w (beside b ∷ past)
unfolding waiting
ahead_beside w b past h = record { old = h.old; since = h.since; waits = h.waits; same = h.same }

-- what else it may do while the host reads doesn't either
ahead_mild : (w : Wire) (c : Call) (past : Past) → mild c ≡ true → Ahead w past → Ahead w (happened c past)
unfolding mild happened
ahead_mild w reset past e h = true_false (sym e)
ahead_mild w (look s) past e h = ahead_looked w s past h
ahead_mild w (write a bs) past e h = true_false (sym e)
ahead_mild w (read a out) past e h = true_false (sym e)
ahead_mild w (held row col) past e h = h
ahead_mild w interrupt past e h = h
ahead_mild w (pins x) past e h = ahead_beside w (sampled x) past h

ahead_own : (w : Wire) (n : ℕ) (c : Call) (past : Past) → mild c ≡ true → Ahead w past → Ahead w (noted n c past)
ahead_own w n c past e h =
    noted_cases (λ p. Ahead w p) n c past (λ _. ahead_mild w c past e h) (λ _. ahead_beside w refused past h) (λ _ _. h)

-- ---- any events
mild_then : (t r : Bool) → (t || not r) ≡ true → r ≡ true → t ≡ true
mild_then t r e f = sym (or-false t) ∙ rw f at e

no_read : (t : Bool) → cond {A = ℕ} t 1 4 ≡ 3 → ⊥
no_read true e = omega arith
no_read false e = omega arith

aheads_step : (s : Story ours) (x : Step) → AheadThen s.at (done calls.ours s.calls)
    → AheadThen (goes_on ours s (bus x)).at (done calls.ours (goes_on ours s (bus x)).calls)
unfolding goes_on steps moved wire.begin_write wire.opened wire.stop wire.drop_open wire.idle
aheads_step s reads h = ahead_reads s.calls s.at
aheads_step s writes h = λ d _. absurd (no_read (eqb (access_number (after calls.ours s.calls) []) 0) d)
aheads_step s (takes b) h = ahead_takes s.at (done calls.ours s.calls) h b
aheads_step s gives h = ahead_gives s.at (done calls.ours s.calls) h
aheads_step s (stops n) h = λ d _. absurd (omega arith)
aheads_step s drops h = λ d _. absurd (omega arith)

pub aheads : (es : List Event) → all fit es ≡ true → proper ours es ≡ true → AheadThen (story ours es).at (done calls.ours (story ours es).calls)
unfolding story goes_on proper nameless done
aheads [] f p d a = absurd (omega arith)
aheads (bus x ∷ es) f p d a =
    let g = all_rest fit (bus x) es f in
    aheads_step (story ours es) x (aheads es g p) d a
aheads (own c ∷ es) f p d a =
    let g = all_rest fit (own c) es f in
    let s = story ours es in
    let free = mild c || not s.host.reading in
    let gentle = mild_then (mild c) s.host.reading (and_left free (proper ours es) p) ((sane es g).wired.reading ∙ eq-eqb s.at.doing 3 d) in
    ahead_own s.at (calls.called (after calls.ours s.calls) c).number c (done calls.ours s.calls) gentle
    (aheads es g (and_right free (proper ours es) p) d a)
