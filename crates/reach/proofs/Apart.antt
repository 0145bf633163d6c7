-- THE KEYPAD APART FROM THE PINS AND THE SLEEP: what a call makes of the keypad's state doesn't depend on the pins, in every state, reached or not;
-- nor, in a sound state, on the count and the sleep, unless the sleep declines it.
--
--    unpinned m                the state m, with the pins as after reset
--    apart m p z               the state m, with these pins, and this count and sleep
--    as_after_reset            a state that is awake, with a count of 0, and with the pins as after reset, is `keypad` of itself
--    Counts z                  a count and a sleep as soundness asks for them
--    typed_apart, said_apart   no pin has a part in the struct's types, as far as they are asked for, or in soundness, nor have the count and the sleep any other part in it
--    woken_sound               so a sound state is sound once awake
--    calm_apart                whether a look is quiet depends on neither
--    unpinned-look, woken-look a look
--    wrote_apart, read_apart   the bytes of an access, from two states with the same keypad
--    pins_apart                EVERY CALL, AND THE PINS
--    sleep_apart               EVERY CALL THAT THE SLEEP DOESN'T DECLINE, AND THE SLEEP
-- Assumes nothing.
use Prim.Native.Nat.{ℕ, zero, suc, ◌≤◌}
use native.Mathlib.Omega.{arith}
use mathlib.Core.Path.{◌≡◌, refl, sym, ap, ◌∙◌}
use mathlib.Core.Bool.{Bool, true, false, cond, not, ◌&&◌, ◌||◌}
use mathlib.Core.List.{List, [], ◌∷◌, ◌++◌}
use borrow.Author.Tests.{eqb-true, eqb-false}
use lib.Dec.{eqb}
use lib.ListN.{length, set}
use Rattle.words.specs.Words.{some, table}
use Rattle.words.proofs.Lists.{by_test}
use Rattle.numbers.specs.Numbers.{Line, ◌gives◌, number_of, unsound}
use Rattle.keys.specs.Keys.{code, sample}
use Rattle.pins.specs.declared.Pins.{Pins}
use Rattle.pins.specs.Pins as part
use Rattle.registers.specs.declared.Register.{Register}
use Rattle.registers.specs.declared.Register.TheVariants.{KBDBOUNCE, KBDSIZE, KBDRIS, KBDMIS, KBDIC, KBDMSK, KBDCODE, EVTCODE, RSTINTCLR, PIN, Unknown}
use Rattle.registers.specs.Registers.{register_at}
use Rattle.registers.specs.Runs.{next}
use Rattle.judge.specs.Lines.{sample_lines, read_lines, write_lines, pin_lines}
use Rattle.state.specs.declared.Module.{Module}
use Rattle.state.specs.Module.{Sleep, sleep, forgotten, restarted, queue_of, sleep_of, with_keys, with_queue, with_rsint, with_seen, with_pins, with_sleep, woken, keypad}
use Rattle.state.specs.Queue.{put_all}
use Rattle.state.specs.Sleep.{counted}
use Rattle.state.specs.Typed.{Typed}
use Rattle.picture.specs.Picture.{all_read, marked}
use Rattle.sound.specs.Sound.{sound}
use Rattle.sound.specs.Said.{Said}
use Rattle.sound.proofs.Laws.{sound_facts, facts_sound}
use Rattle.scan.specs.Scan.{contact_at, changes_below, changes, settles_below, calm, contacts, noticed, looked}
use Rattle.access.specs.Bytes.{written, read_out}
use Rattle.access.specs.Accesses.{wrote, read_all}
use Rattle.calls.specs.Calls.{look_lines, look_number, access_number, write_number, read_number, pins_number, outcome, accessed, answer, reset_call, look_call, write_call, read_call, held_call, interrupt_call, sampling, pins_call}
use Rattle.calls.proofs.Laws.{sound_then, asleep_first, awake_then}
use Rattle.demands.specs.Machine.{Call, reset, look, write, read, held, interrupt, pins}
use Rattle.demands.specs.Ours.{changing, asking, called}
use Rattle.demands.proofs.Sleep.{wrote_woken, reads_woken}

abbrev pub unpinned : Module → Module
unpinned m = with_pins m part.fresh

abbrev pub apart : Module → Pins → Sleep → Module
apart m p z = with_sleep (with_pins m p) z

pub as_after_reset : (m : Module) → m.pins ≡ part.fresh → m.quiet ≡ 0 → m.asleep ≡ false → keypad m ≡ m
as_after_reset m p q a = λ i. apart m (sym p i) (sleep (sym q i) (sym a i))

-- ---- soundness
-- document 02, E7: "the count is at most 255, and 255 exactly while asleep"
pub record Counts (z : Sleep) : Type 0 where
  pub least : z.quiet ≤ 255
  pub sleeps : z.asleep ≡ eqb z.quiet 255

pub awake_counts : Counts (sleep 0 false)
awake_counts = record { least = omega arith; sleeps = refl }

pub typed_apart : (m : Module) (p : Pins) (z : Sleep) → Typed m → Typed (apart m p z)
typed_apart m p z t = record { keys = t.keys; runs = t.runs; places = t.places; bytes = t.bytes; bounce_low = t.bounce_low; marks = t.marks }

pub said_apart : (m : Module) (p : Pins) (z : Sleep) → Counts z → Said m → Said (apart m p z)
said_apart m p z c s =
    record {
      size = s.size;
      out = s.out;
      low = s.low;
      few = s.few;
      codes = s.codes;
      rest = s.rest;
      mask = s.mask;
      marks = s.marks;
      counted = c.least;
      sleeps = λ e. eqb-true z.quiet 255 (sym c.sleeps ∙ e);
      wakes = λ e. eqb-false z.quiet 255 (sym c.sleeps ∙ e);
    }

pub woken_sound : (m : Module) → sound m ≡ true → sound (woken m) ≡ true
woken_sound m ok =
    let f = sound_facts m ok in
    facts_sound (woken m) (record { size = f.size; keys = f.keys; few = f.few; codes = f.codes; rest = f.rest; mask = f.mask; marks = f.marks; counted = omega arith; asleep = refl })

-- ---- a look
module _ (m : Module) (p : Pins) (z : Sleep) (s : List ℕ) where
  below_apart : (n : ℕ) → changes_below m s n ≡ changes_below (apart m p z) s n
  unfolding changes_below contact_at
  below_apart zero = refl
  below_apart (suc k) = ap (λ (l : List ℕ). l ++ cond (contact_at m s k).changed (code k (sample s m.size k) ∷ []) []) (below_apart k)

  settles_apart : (n : ℕ) → settles_below m s n ≡ settles_below (apart m p z) s n
  unfolding settles_below contact_at
  settles_apart zero = refl
  settles_apart (suc k) = ap (λ (b : Bool). b || (contact_at m s k).settling) (settles_apart k)

  changes_apart : changes m s ≡ changes (apart m p z) s
  unfolding changes
  changes_apart = below_apart 104

  calm_apart : calm m s ≡ calm (apart m p z) s
  unfolding calm
  calm_apart = λ i. not (some (changes_apart i)) && not (settles_apart 104 i)

-- the look, of whether it has changes, of these, and of the count and the sleep after it
after_look : Module → List ℕ → Bool → List ℕ → Sleep → Module
after_look m s b l z =
    let x = with_sleep (with_keys m (table (λ k. (contact_at m s k).held) 104) (table (λ k. (contact_at m s k).run) 104)) z in
    cond b (noticed (with_queue x (put_all (queue_of m) l))) x

module _ (m : Module) (s : List ℕ) where
  unpinned_after : (b : Bool) (l : List ℕ) (z : Sleep) → unpinned (after_look m s b l z) ≡ unpinned (after_look (unpinned m) s b l z)
  unfolding after_look noticed contact_at
  unpinned_after true l z = refl
  unpinned_after false l z = refl

  woken_after : (b : Bool) (l : List ℕ) (y z : Sleep) → woken (after_look m s b l y) ≡ woken (after_look (woken m) s b l z)
  unfolding after_look noticed contact_at
  woken_after true l y z = refl
  woken_after false l y z = refl

  unpinned_look : unpinned (looked m s) ≡ unpinned (looked (unpinned m) s)
  unfolding looked contacts after_look
  unpinned_look =
      let l = changes_apart m part.fresh (sleep_of m) s in
      let c = calm_apart m part.fresh (sleep_of m) s in
      unpinned_after (some (changes m s)) (changes m s) (counted (sleep_of m) (calm m s))
      ∙ (λ i. unpinned (after_look (unpinned m) s (some (l i)) (l i) (counted (sleep_of m) (c i))))

  woken_look : woken (looked m s) ≡ woken (looked (woken m) s)
  unfolding looked contacts after_look
  woken_look =
      let z = counted (sleep 0 false) (calm (woken m) s) in
      woken_after (some (changes m s)) (changes m s) (counted (sleep_of m) (calm m s)) z
      ∙ ap (λ (l : List ℕ). woken (after_look (woken m) s (some l) l z)) (changes_apart m m.pins (sleep 0 false) s)

-- ---- the bytes of an access
one_written : (m : Module) (r : Register) (b : ℕ) → keypad (written m r b) ≡ keypad (written (keypad m) r b)
unfolding written restarted
one_written m KBDBOUNCE b = refl
one_written m KBDSIZE b = refl
one_written m KBDRIS b = refl
one_written m KBDMIS b = refl
one_written m KBDIC b = refl
one_written m KBDMSK b = refl
one_written m (KBDCODE n) b = refl
one_written m EVTCODE b = refl
one_written m RSTINTCLR b = refl
one_written m (PIN a) b = refl
one_written m Unknown b = refl

one_read : (m : Module) (r : Register) → keypad (read_out m r) ≡ keypad (read_out (keypad m) r)
unfolding read_out marked
one_read m KBDBOUNCE = refl
one_read m KBDSIZE = refl
one_read m KBDRIS = refl
one_read m KBDMIS = refl
one_read m KBDIC = refl
one_read m KBDMSK = refl
one_read m (KBDCODE n) =
    let s = set m.seen n true in
    by_test (λ t. keypad (cond t (with_seen (with_rsint m false) forgotten) (with_seen m s)) ≡ keypad (cond t (with_seen (with_rsint (keypad m) false) forgotten) (with_seen (keypad m) s)))
    (all_read s) (λ e. refl) (λ e. refl)
one_read m EVTCODE = refl
one_read m RSTINTCLR = refl
one_read m (PIN a) = refl
one_read m Unknown = refl

wrote_apart : (bs : List ℕ) (m n : Module) (a : ℕ) → keypad m ≡ keypad n → keypad (wrote m a bs) ≡ keypad (wrote n a bs)
unfolding wrote
wrote_apart [] m n a e = e
wrote_apart (b ∷ bs) m n a e =
    let r = register_at a in
    wrote_apart bs (written m r b) (written n r b) (next a) (one_written m r b ∙ ap (λ (x : Module). keypad (written x r b)) e ∙ sym (one_written n r b))

read_apart : (k : ℕ) (m n : Module) (a : ℕ) → keypad m ≡ keypad n → keypad (read_all m a k) ≡ keypad (read_all n a k)
unfolding read_all
read_apart zero m n a e = e
read_apart (suc k) m n a e =
    let r = register_at a in
    read_apart k (read_out m r) (read_out n r) (next a) (one_read m r ∙ ap (λ (x : Module). keypad (read_out x r)) e ∙ sym (one_read n r))

-- ---- every call
-- done or declined
either : (d : Bool) (m x y : Module) → unpinned x ≡ unpinned y → unpinned (cond d x m) ≡ unpinned (cond d y (unpinned m))
either true m x y e = e
either false m x y e = refl

-- an access: done, declined by the sleep, or declined otherwise
either_access : (d w : Bool) (m x y : Module) → keypad x ≡ keypad y
    → unpinned (cond d (woken x) (cond w (woken m) m)) ≡ unpinned (cond d (woken y) (cond w (woken (unpinned m)) (unpinned m)))
either_access true w m x y e = e
either_access false true m x y e = refl
either_access false false m x y e = refl

pub pins_apart : (m : Module) (c : Call) → unpinned (called m c).next ≡ unpinned (called (unpinned m) c).next
unfolding called changing asking reset_call look_call write_call read_call held_call interrupt_call pins_call sampling outcome accessed answer look_number look_lines access_number write_number read_number pins_number sound
pins_apart m reset = refl
pins_apart m (look s) = either (eqb (look_number m s) 0) m (looked m s) (looked (unpinned m) s) (unpinned_look m s)
pins_apart m (write a bs) =
    let n = write_number m a bs in
    either_access (eqb n 0) (eqb n 27) m (wrote m a bs) (wrote (unpinned m) a bs) (wrote_apart bs m (unpinned m) a refl)
pins_apart m (read a out) =
    let k = length out in
    let n = read_number m a k in
    either_access (eqb n 0) (eqb n 27) m (read_all m a k) (read_all (unpinned m) a k) (read_apart k m (unpinned m) a refl)
pins_apart m (held row col) = refl
pins_apart m interrupt = refl
pins_apart m (pins x) = either (eqb (pins_number m x) 0) m (sampling m x) (sampling (unpinned m) x) refl

-- ---- every call that the sleep doesn't decline
module _ (m : Module) (ok : sound m ≡ true) where
  -- the number is the same once awake
  same_number : (lines : List Line) → number_of (not (sound m) gives unsound ∷ lines) ≡ number_of (not (sound (woken m)) gives unsound ∷ lines)
  same_number lines = sound_then m lines ok ∙ sym (sound_then (woken m) lines (woken_sound m ok))

  same_access : (lines : List Line) → (access_number m lines ≡ 27 → ⊥) → access_number m lines ≡ access_number (woken m) lines
  same_access lines h =
      let awake = by_test (λ t. t ≡ false) m.asleep (λ z. absurd (h (asleep_first m lines ok z))) (λ _. refl) in
      awake_then m lines ok awake ∙ sym (awake_then (woken m) lines (woken_sound m ok) refl)

  -- done or declined
  whether : (n k : ℕ) (x y : Module) → n ≡ k → woken x ≡ woken y → woken (outcome m x n).after ≡ woken (outcome (woken m) y k).after
  unfolding outcome
  whether n k x y e f =
      by_test (λ t. woken (cond t x m) ≡ woken (cond t y (woken m))) (eqb n 0) (λ _. f) (λ _. refl)
      ∙ ap (λ (j : ℕ). woken (cond (eqb j 0) y (woken m))) e

  whether_access : (n k : ℕ) (x y : Module) → n ≡ k → woken x ≡ woken y → woken (accessed m x n).after ≡ woken (accessed (woken m) y k).after
  unfolding accessed
  whether_access n k x y e f =
      let w = by_test (λ t. woken (cond t (woken m) m) ≡ woken (cond t (woken (woken m)) (woken m))) (eqb n 27) (λ _. refl) (λ _. refl) in
      by_test (λ t. woken (cond t (woken x) (cond (eqb n 27) (woken m) m)) ≡ woken (cond t (woken y) (cond (eqb n 27) (woken (woken m)) (woken m)))) (eqb n 0) (λ _. f) (λ _. w)
      ∙ ap (λ (j : ℕ). woken (cond (eqb j 0) (woken y) (cond (eqb j 27) (woken (woken m)) (woken m)))) e

pub sleep_apart : (m : Module) → sound m ≡ true → (c : Call) → ((called m c).number ≡ 27 → ⊥) → woken (called m c).next ≡ woken (called (woken m) c).next
unfolding called changing asking reset_call look_call write_call read_call held_call interrupt_call pins_call sampling outcome accessed answer look_number look_lines write_number read_number pins_number
sleep_apart m ok reset h = refl
sleep_apart m ok (look s) h = whether m ok (look_number m s) (look_number (woken m) s) (looked m s) (looked (woken m) s) (same_number m ok (sample_lines s)) (woken_look m s)
sleep_apart m ok (write a bs) h =
    whether_access m ok (write_number m a bs) (write_number (woken m) a bs) (wrote m a bs) (wrote (woken m) a bs)
    (same_access m ok (write_lines a bs) h) (sym (ap woken (wrote_woken m a bs)))
sleep_apart m ok (read a out) h =
    let n = length out in
    whether_access m ok (read_number m a n) (read_number (woken m) a n) (read_all m a n) (read_all (woken m) a n)
    (same_access m ok (read_lines a n) h) (sym (ap woken (reads_woken m a n)))
sleep_apart m ok (held row col) h = refl
sleep_apart m ok interrupt h = refl
sleep_apart m ok (pins x) h = whether m ok (pins_number m x) (pins_number (woken m) x) (sampling m x) (sampling (woken m) x) (same_number m ok (pin_lines x)) refl
