-- WHICH COUNTS ARE REACHED: of the sound states with the pins as after reset, those that have a count of 0, or no run.
--
--    NoRun m          no key has a run
--    quiet_rests      on the sheet: while the row of quiet looks isn't empty, no key has a run
--    counting_rests   so after calls no key has a run while the count is above 0
--    unreached_restless    a state with a count above 0 and a run above 0 is reached by no calls, sound or not
--    step_rests       a contact without a run that reads as its key is held, or is hidden, stays so
--    counted_on       a look at which every contact reads so adds one to the count, and alters nothing else, if no key has a run
--    reached_resting  so a sound state without a run, and with the pins as after reset, is reached, whatever its count
--    reached_exactly  A SOUND STATE WITH SUCH PINS IS REACHED EXACTLY IF ITS COUNT IS 0 OR IT HAS NO RUN
-- Assumes nothing.
use Prim.Native.Nat.{ℕ, zero, suc, ◌+◌, ◌<◌, ◌≤◌, min}
use native.Mathlib.Decide.{dec_lt}
use native.Mathlib.Omega.{arith}
use mathlib.Core.Path.{◌≡◌, refl, sym, ap, ◌∙◌, subst}
use mathlib.Core.Logic.{◌⊎◌, inl, inr}
use mathlib.Core.Bool.{Bool, true, false, cond}
use mathlib.Core.List.{List, [], ◌∷◌}
use borrow.Author.Tests.{eq-eqb, ltb-false}
use lib.Dec.{eqb}
use lib.ListN.{length, get_or}
use Rattle.words.specs.Words.{some}
use Rattle.words.proofs.Lists.{by_test}
use Rattle.words.proofs.Tables.{table_at, by_table}
use Rattle.keys.specs.Keys.{hidden}
use Rattle.contact.specs.declared.Contact.{Contact}
use Rattle.contact.specs.Contact.{opposite, sampled, stepped, sight_of}
use Rattle.pins.specs.Pins as pins
use Rattle.sheet.specs.Sheet as sheet
use Rattle.sheet.specs.Sheet.{Past, refused, looked, wrote, got, beside, history, held, quiet_looks, quiet}
use Rattle.sheet.proofs.Sleep.{settling_run, calm_exactly}
use Rattle.state.specs.declared.Module.{Module}
use Rattle.state.specs.Module.{Sleep, sleep, with_keys, with_sleep, keypad}
use Rattle.state.specs.Sleep.{counted}
use Rattle.state.specs.Typed.{Typed}
use Rattle.state.proofs.Counted.{counted_sleeps}
use Rattle.sound.specs.Said.{Said}
use Rattle.sound.proofs.Laws.{sound_facts, sound_out}
use Rattle.sound.proofs.Exactly.{said_sound}
use Rattle.scan.specs.Scan as scan
use Rattle.scan.specs.Scan.{sight, contact_at, changes_below, changes, settles_below, contacts}
use Rattle.demands.specs.Machine as machine
use Rattle.demands.specs.Machine.{Call, look, done}
use Rattle.demands.specs.Ours.{ours}
use Rattle.demands.specs.Shown.{run, shown}
use Rattle.demands.proofs.Reached.{reached}
use Rattle.reach.specs.Reach.{callable, ReachedBy}
use Rattle.reach.proofs.Samples.{samples_of, Within, told, eight, narrow, u16s}
use Rattle.reach.proofs.Steps.{calm}
use Rattle.reach.proofs.Apart.{apart}
use Rattle.reach.proofs.Calls.{look_made, reached_by}
use Rattle.reach.proofs.Exactly.{back, next_reached, reached_itself}

-- no key has a run
abbrev pub NoRun : Module → Type 0
NoRun m = (k : ℕ) → k < 104 → get_or m.run k 0 ≡ 0

-- ---- no count with a run
quiet_rests : (past : Past) → 0 < quiet_looks past → (k : ℕ) → k < 104 → run k past ≡ 0
unfolding quiet_looks run held history
quiet_rests [] h k l = absurd (omega arith)
quiet_rests (looked s ∷ past) h k l =
    by_test (λ t. sheet.calm s past ≡ t → 0 < cond t (quiet_looks past + 1) 0 → run k (looked s ∷ past) ≡ 0) (sheet.calm s past)
    (λ _ e _.
    let r = ltb-false 0 (run k (looked s ∷ past)) (sym (settling_run (looked s ∷ past) k) ∙ ((calm_exactly s past).0 e).1 k l) in
    omega arith)
    (λ _ e z. absurd (omega arith)) refl h
quiet_rests (wrote r b ∷ past) h k l = absurd (omega arith)
quiet_rests (got r ∷ past) h k l = absurd (omega arith)
quiet_rests (beside (sheet.sampled x) ∷ past) h k l = quiet_rests past h k l
quiet_rests (beside refused ∷ past) h k l = absurd (omega arith)

pub counting_rests : (cs : List Call) → 0 < (machine.after ours cs).quiet → NoRun (machine.after ours cs)
unfolding shown quiet
counting_rests cs h k l =
    let past = done ours cs in
    let q : (machine.after ours cs).quiet ≡ min 255 (quiet_looks past) = ap (λ (m : Module). m.quiet) (reached cs) in
    ap (λ (m : Module). get_or m.run k 0) (reached cs) ∙ table_at (λ j. run j past) 104 k 0 l ∙ quiet_rests past (omega arith) k l

reached_rests : (m : Module) → 0 < m.quiet → ReachedBy m → NoRun m
reached_rests m q r k l =
    ap (λ (x : Module). get_or x.run k 0) (sym r.there) ∙ counting_rests r.calls (subst (λ (x : Module). 0 < x.quiet) (sym r.there) q) k l

pub unreached_restless : (m : Module) → 0 < m.quiet → (k : ℕ) → k < 104 → 0 < get_or m.run k 0 → ReachedBy m → ⊥
unreached_restless m q k l above r = let none = reached_rests m q r k l in omega arith

-- ---- any count without a run
step_rests : (b held : Bool) (d : ℕ) → stepped held 0 (sight_of b held) d ≡ calm held 0
unfolding stepped sight_of sampled opposite calm
step_rests true held d = refl
step_rests false true d = refl
step_rests false false d = refl

module _ (m : Module) (y : Typed m) (e : Said m) (rests : NoRun m) where
  h : ℕ → Bool
  h k = get_or m.held k false

  h_ok : Within m.size h
  unfolding h
  h_ok k l o = (sound_out m (said_sound m y e) k l o).0

  s : List ℕ
  s = samples_of h

  -- the keypad of m, with this count and sleep
  at : Sleep → Module
  at z = with_sleep (keypad m) z

  contact_rests : (z : Sleep) (k : ℕ) → k < 104 → contact_at (at z) s k ≡ calm (h k) 0
  unfolding contact_at sight at s h
  contact_rests z k l =
      (λ i. stepped (h k) (rests k l i) (sight_of (hidden (samples_of h) m.size k) (told h m.size k l (h_ok k l) i)) m.bounce)
      ∙ step_rests (hidden (samples_of h) m.size k) (h k) m.bounce

  none_changed : (z : Sleep) (n : ℕ) → n ≤ 104 → changes_below (at z) s n ≡ []
  unfolding changes_below calm
  none_changed z zero l = refl
  none_changed z (suc n) l = rw (none_changed z n (omega arith), contact_rests z n (omega arith))

  none_settles : (z : Sleep) (n : ℕ) → n ≤ 104 → settles_below (at z) s n ≡ false
  unfolding settles_below calm
  none_settles z zero l = refl
  none_settles z (suc n) l = rw (none_settles z n (omega arith), contact_rests z n (omega arith))

  calm_rests : (z : Sleep) → scan.calm (at z) s ≡ true
  unfolding scan.calm changes some
  calm_rests z = rw (none_changed z 104 (omega arith), none_settles z 104 (omega arith))

  counted_on : (z : Sleep) → scan.looked (at z) s ≡ at (counted z true)
  unfolding scan.looked contacts changes some at calm h
  counted_on z =
      let held = by_table false (λ k. (contact_at (at z) s k).held) 104 m.held y.keys (λ k l. ap (λ (x : Contact). x.held) (contact_rests z k l)) in
      let run = by_table 0 (λ k. (contact_at (at z) s k).run) 104 m.run y.runs (λ k l. ap (λ (x : Contact). x.run) (contact_rests z k l) ∙ sym (rests k l)) in
      rw (none_changed z 104 (omega arith)) (λ i. with_sleep (with_keys (keypad m) (held i) (run i)) (counted z (calm_rests z i)))

  -- one quiet look more
  one_more_lem : (n : ℕ) → n < 255 → ReachedBy (at (sleep n (eqb n 255))) → ReachedBy (at (sleep (suc n) (eqb (suc n) 255)))
  unfolding counted callable s
  one_more_lem n l r =
      let z : Sleep = sleep n (eqb n 255) in
      let q : min 255 (n + 1) ≡ suc n = omega arith in
      let more : counted z true ≡ sleep (suc n) (eqb (suc n) 255) = λ i. sleep (q i) ((counted_sleeps z true ∙ ap (λ (j : ℕ). eqb j 255) q) i) in
      let known = back (at z) r in
      let step = look_made (at z) (said_sound (at z) known.0 known.1) s (eq-eqb (length s) 8 (eight h)) (narrow h) in
      subst ReachedBy (step ∙ counted_on z ∙ ap at more) (next_reached (at z) (look s) (u16s h) r)

  reached_at : (n : ℕ) → n ≤ 255 → ReachedBy (at (sleep n (eqb n 255)))
  unfolding at
  reached_at zero l = reached_by m y e
  reached_at (suc n) l = one_more_lem n (omega arith) (reached_at n (omega arith))

pub reached_resting : (m : Module) → m.pins ≡ pins.fresh → NoRun m → Typed m → Said m → ReachedBy m
unfolding at
reached_resting m p rests y e =
    let f = sound_facts m (said_sound m y e) in
    subst ReachedBy (λ i. apart m (sym p i) (sleep m.quiet (sym f.asleep i))) (reached_at m y e rests m.quiet e.counted)

-- ---- exactly
pub reached_exactly : (m : Module) → m.pins ≡ pins.fresh → Typed m → Said m → ((m.quiet ≡ 0) ⊎ NoRun m → ReachedBy m) × (ReachedBy m → (m.quiet ≡ 0) ⊎ NoRun m)
reached_exactly m p y e = (there, home)
  where
    there : (m.quiet ≡ 0) ⊎ NoRun m → ReachedBy m
    there (inl q) = reached_itself m p q y e
    there (inr rests) = reached_resting m p rests y e

    go : ReachedBy m → Dec (0 < m.quiet) → (m.quiet ≡ 0) ⊎ NoRun m
    go r (yes q) = inr (reached_rests m q r)
    go r (no q) = inl (omega (arith, q))

    home : ReachedBy m → (m.quiet ≡ 0) ⊎ NoRun m
    home r = go r (dec_lt 0 m.quiet)
