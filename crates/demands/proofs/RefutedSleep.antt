-- NO WRONG MACHINE OF specs/WrongSleep.antt MEETS THE DEMANDS: for each a list of calls, or a state, at which it is seen.
--
--    vacant, looks n, one, ..     the samples of a look with every contact open, n such looks, a read of one byte of KBDSIZE
--    napping n                    the module after reset, with a count of n: such are ours after n of those looks, 255 at most (ours-after)
--    vacant_asleep                the sheet says that the panel sleeps after 255 of them, and not before
--    aside n                      the state after reset of a machine that counts beside the module, with a row of n: such is one that sleeps after k looks, after n of them (sleeps_at_after)
--    elsewhere_refuted            A MACHINE THAT SLEEPS AFTER k QUIET LOOKS MEETS THE DEMAND FOR NO k BUT 255
--    early_refuted, late_refuted  so neither after 254 nor after 256
--    LeftWrong, no_left           what a read leaves that was declined with 27; then the machine doesn't meet demand 1
--    Told, told                   what is found of the other machines, and what was to be found: ALL COMPUTED
--    deaf_refuted, ..             no wrong machine meets the demand
-- Assumes nothing.
use Prim.Native.Nat.{ℕ, zero, suc, ◌+◌, ◌<◌, ◌≤◌, min}
use native.Mathlib.Numerals.{add-one}
use native.Mathlib.Decide.{dec_lt}
use native.Mathlib.Omega.{arith}
use mathlib.Core.Path.{◌≡◌, refl, sym, ap, ◌∙◌}
use mathlib.Core.Bool.{Bool, true, false, not}
use mathlib.Core.List.{List, [], ◌∷◌}
use borrow.Author.Tests.{le-leb, lt-leb, ne_eqb, eqb-false}
use lib.Dec.{eqb, leb}
use lib.ListN.{replicate}
use Rattle.words.specs.Words.{◌if◌, ◌else◌, all}
use Rattle.words.proofs.Laws.{all_cons}
use Rattle.words.proofs.Lists.{by_test, all_replicate}
use Rattle.numbers.specs.Numbers.{number_of}
use Rattle.judge.specs.Lines.{sample_lines}
use Rattle.sheet.specs.Sheet as sheet
use Rattle.sheet.specs.Sheet.{Past, looked}
use Rattle.state.specs.declared.Module.{Module}
use Rattle.state.specs.Module.{queue, sleep, with_queue, with_sleep, woken, fresh}
use Rattle.sound.specs.Sound.{sound}
use Rattle.sound.proofs.Laws.{sound_facts, facts_sound, fresh_sound}
use Rattle.scan.specs.Scan as scan
use Rattle.calls.specs.Calls.{look_lines, look_number, outcome, look_call}
use Rattle.demands.specs.Machine.{Call, look, write, read, Gives, Machine, lent, after, happened, noted, done, fits}
use Rattle.demands.specs.Demands.{Demand1}
use Rattle.demands.specs.Sessions.{same}
use Rattle.demands.specs.Sleep.{SleepDemand, looks_in, NotTwice}
use Rattle.demands.specs.Ours.{changing, called, ours}
use Rattle.demands.specs.Wrong.{doing}
use Rattle.demands.specs.WrongSleep.{Napping, on, refusal, napped, sleeps_at, deaf, greedy, filling, restless, careless}
use Rattle.demands.proofs.Failing.{differ, SleepWrong, no_sleep, CountWrong, no_count}
use Rattle.demands.proofs.Opened.{opened}
use Rattle.demands.proofs.MeetsSleep.{ours_sleeps}

-- ---- the calls
abbrev vacant : List ℕ
vacant = replicate 8 0

abbrev looks : ℕ → List Call
looks n = replicate n (look vacant)

abbrev one : Call
one = read 0x03 (0 ∷ [])

looks_fit : (n : ℕ) → all fits (looks n) ≡ true
unfolding fits
looks_fit n = all_replicate fits n (look vacant) refl

-- if each of them is done, they are what has happened
looks_done : (M : Machine) (k : ℕ) → ((n : ℕ) → n < k → (M.does (after M (looks n)) (look vacant)).number ≡ 0)
    → (n : ℕ) → n ≤ k → done M (looks n) ≡ replicate n (looked vacant)
unfolding done noted happened
looks_done M k zeros zero h = refl
looks_done M k zeros (suc n) h = rw (zeros n (omega arith)) (ap (λ (p : Past). looked vacant ∷ p) (looks_done M k zeros n (omega arith)))

-- ---- ours, after n of them
napping : ℕ → Module
napping n = with_sleep fresh (sleep n (leb 255 n))

napping_sound : (n : ℕ) → n < 255 → sound (napping n) ≡ true
unfolding napping
napping_sound n h =
    let f = sound_facts fresh fresh_sound in
    facts_sound (napping n) (record {
      size = f.size;
      keys = f.keys;
      few = f.few;
      codes = f.codes;
      rest = f.rest;
      mask = f.mask;
      marks = f.marks;
      counted = omega arith;
      asleep = lt-leb 255 n h ∙ sym (ne_eqb n 255 (omega arith));
    })

vacant_allowed : number_of (sample_lines vacant) ≡ 0
unfolding opened
vacant_allowed = refl

vacant_number : (n : ℕ) → n < 255 → look_number (napping n) vacant ≡ 0
unfolding look_number look_lines number_of
vacant_number n h = rw (napping_sound n h) vacant_allowed

vacant_looked : (n : ℕ) (b : Bool) → scan.looked (with_sleep fresh (sleep n b)) vacant ≡ with_sleep fresh (sleep (min 255 (n + 1)) (leb 255 (n + 1)))
unfolding opened
vacant_looked n b = refl

vacant_next : (n : ℕ) → n < 255 → scan.looked (napping n) vacant ≡ napping (suc n)
unfolding napping
vacant_next n h =
    let e : min 255 (n + 1) ≡ suc n = omega arith in
    vacant_looked n (leb 255 n) ∙ (λ i. with_sleep fresh (sleep (e i) (leb 255 (add-one n i))))

vacant_called : (n : ℕ) → n < 255 → ((called (napping n) (look vacant)).number ≡ 0) × ((called (napping n) (look vacant)).next ≡ napping (suc n))
unfolding called changing look_call outcome
vacant_called n h = (vacant_number n h, rw (vacant_number n h) (vacant_next n h))

-- of any machine on our module that makes our looks
doing_after : (does : Module → Call → Gives Module) → ((m : Module) → does m (look vacant) ≡ called m (look vacant))
    → (n : ℕ) → n ≤ 255 → after (doing does) (looks n) ≡ napping n
unfolding after napping fresh
doing_after does ours-look zero h = refl
doing_after does ours-look (suc n) h =
    ap (λ (g : Gives Module). g.next) (ours-look (after (doing does) (looks n)))
    ∙ ap (λ (m : Module). (called m (look vacant)).next) (doing_after does ours-look n (omega arith))
    ∙ (vacant_called n (omega arith)).1

ours_after : (n : ℕ) → n ≤ 255 → after ours (looks n) ≡ napping n
ours_after = doing_after called (λ m. refl)

ours_done : (n : ℕ) → n ≤ 255 → done ours (looks n) ≡ replicate n (looked vacant)
ours_done = looks_done ours 255 (λ n h. ap (λ (m : Module). (called m (look vacant)).number) (ours_after n (omega arith)) ∙ (vacant_called n h).0)

vacant_asleep : (n : ℕ) → n ≤ 255 → sheet.asleep (replicate n (looked vacant)) ≡ leb 255 n
unfolding napping
vacant_asleep n h = sym (ap sheet.asleep (ours_done n h)) ∙ sym (ours_sleeps.sleep (looks n) (looks_fit n)) ∙ ap (λ (m : Module). m.asleep) (ours_after n h)

-- ---- a machine that sleeps after k of them, after n of them
aside : ℕ → Napping
aside n = record { base = fresh; row = n }

napped_look : (k n : ℕ) → ((napped k (aside n) (look vacant)).number ≡ 0) × ((napped k (aside n) (look vacant)).next ≡ aside (suc n))
unfolding opened aside
napped_look k n = (refl, ap aside (add-one n))

napped_read : (k n : ℕ) → eqb (napped k (aside n) one).number 27 ≡ leb k n
unfolding opened aside
napped_read k n = by_test (λ t. eqb (refusal (aside n) one if t else on (called fresh one) 0).number 27 ≡ t) (leb k n) (λ _. refl) (λ _. refl)

sleeps_at_after : (k n : ℕ) → after (sleeps_at k) (looks n) ≡ aside n
unfolding after aside
sleeps_at_after k zero = refl
sleeps_at_after k (suc n) = ap (λ (σ : Napping). (napped k σ (look vacant)).next) (sleeps_at_after k n) ∙ (napped_look k n).1

sleeps_at_done : (k n : ℕ) → done (sleeps_at k) (looks n) ≡ replicate n (looked vacant)
sleeps_at_done k n = looks_done (sleeps_at k) n (λ j h. ap (λ (σ : Napping). (napped k σ (look vacant)).number) (sleeps_at_after k j) ∙ (napped_look k j).0) n (omega arith)

sleeps_at_wrong : (k n : ℕ) → n ≤ 255 → (found : Bool) → leb k n ≡ found → leb 255 n ≡ not found → SleepWrong (sleeps_at k) (looks n) 0x03 found
sleeps_at_wrong k n h found sleeps should = (
  looks_fit n,
  ap (λ (σ : Napping). eqb (napped k σ one).number 27) (sleeps_at_after k n) ∙ napped_read k n ∙ sleeps,
  ap sheet.asleep (sleeps_at_done k n) ∙ vacant_asleep n h ∙ should,
)

-- "The module sleeps after 255 looks in a row"
pub elsewhere_refuted : (k : ℕ) → (k ≡ 255 → ⊥) → SleepDemand (sleeps_at k) → ⊥
elsewhere_refuted k other = go (dec_lt k 255)
  where
    go : Dec (k < 255) → SleepDemand (sleeps_at k) → ⊥
    go (yes h) = no_sleep (sleeps_at k) (looks k) 0x03 true (sleeps_at_wrong k k (omega arith) true (le-leb k k (omega arith)) (lt-leb 255 k h))
    go (no h) = no_sleep (sleeps_at k) (looks 255) 0x03 false (sleeps_at_wrong k 255 (omega arith) false (lt-leb k 255 (omega (arith, h, other))) refl)

pub early_refuted : SleepDemand (sleeps_at 254) → ⊥
early_refuted = elsewhere_refuted 254 (λ e. omega (arith, e))

pub late_refuted : SleepDemand (sleeps_at 256) → ⊥
late_refuted = elsewhere_refuted 256 (λ e. omega (arith, e))

-- ---- what is found of the others, and what was to be found
-- the code 0x11 waits
abbrev coded : Module → Module
coded m = with_queue m (queue (0x11 ∷ replicate 14 0x7F) 1 false)

-- what f tells of the module that a read leaves which was declined with 27
abbrev LeftWrong : (Module → Call → Gives Module) → Module → (Module → ℕ) → ℕ → ℕ → Type 0
LeftWrong does m f found wanted = ((does m one).number ≡ 27) × (f (does m one).next ≡ found) × (f (woken m) ≡ wanted) × (eqb found wanted ≡ false)

-- a look with these samples of row 0, the other rows open
abbrev row : ℕ → Call
row x = look (x ∷ replicate 7 0)

-- a read of an unknown address, which is declined with 5
abbrev unknown : Call
unknown = read 0x00 (0 ∷ [])

record Told : Type 0 where
  deaf : LeftWrong deaf.does (napping 255) (λ m. m.quiet) 255 0
  greedy : LeftWrong greedy.does (coded (napping 255)) (λ m. m.count) 0 1
  filling : ((filling.does (napping 255) one).number ≡ 27) × ((filling.does (napping 255) one).buffer ≡ 0x22 ∷ []) × (same (0x22 ∷ []) (0 ∷ []) ≡ false)
  -- the row has one quiet look
  restless_row : CountWrong restless (unknown ∷ look vacant ∷ []) 0 1
  restless : ((restless.does (napping 10) unknown).number ≡ 5) × ((restless.does (napping 10) unknown).next.quiet ≡ 0)
  -- key 0.0 is settling since it was closed for one look, and hidden since by row 0's special function contact
  careless : CountWrong careless (row 0x1000 ∷ row 0x1000 ∷ write 0x02 (1 ∷ []) ∷ row 0x0001 ∷ []) 1 0

told : Told
unfolding opened napping
told =
    record {
      deaf = (refl, refl, refl, refl);
      greedy = (refl, refl, refl, refl);
      filling = (refl, refl, refl);
      restless_row = (refl, refl, refl, refl);
      restless = (refl, refl);
      careless = (refl, refl, refl, refl);
    }

-- ---- "An access is declined once and wakes it"; "that refusal alters only the sleep state and the count"
no_left : (does : Module → Call → Gives Module) (m : Module) (f : Module → ℕ) (found wanted : ℕ) → LeftWrong does m f found wanted → Demand1 (doing does) → ⊥
no_left does m f found wanted w d = eqb-false found wanted w.3 (sym w.1 ∙ ap f (d.refused m one w.0).0 ∙ w.2)

pub deaf_refuted : Demand1 deaf → ⊥
deaf_refuted = no_left deaf.does _ (λ m. m.quiet) _ _ told.deaf

-- it declines the next access too
pub deaf_again_refuted : NotTwice deaf → ⊥
unfolding opened napping
deaf_again_refuted d =
    let refuses : (m : Module) → m ≡ napping 255 → (deaf.does m one).number ≡ 27 = λ m e. ap (λ (x : Module). (deaf.does x one).number) e ∙ told.deaf.0 in
    let asleep = doing_after deaf.does (λ m. refl) 255 (omega arith) in
    let again : after deaf (one ∷ looks 255) ≡ napping 255 = ap (λ (m : Module). (deaf.does m one).next) asleep in
    let h : 255 ≤ looks_in [] = d.read_next (looks 255) one [] (all_cons fits one (looks 255) refl (looks_fit 255)) (refuses _ asleep) 0x03 (0 ∷ []) (refuses _ again) in
    omega (arith, h)

pub greedy_refuted : Demand1 greedy → ⊥
greedy_refuted = no_left greedy.does _ (λ m. m.count) _ _ told.greedy

pub filling_refuted : Demand1 filling → ⊥
unfolding lent
filling_refuted d = let t = told.filling in differ (0x22 ∷ []) (0 ∷ []) t.2 (sym t.1 ∙ (d.refused (napping 255) one t.0).1.0)

-- ---- "no done access between them"
pub restless_refuted : Demand1 restless → ⊥
unfolding napping
restless_refuted d =
    let t = told.restless in
    let e = d.declined (napping 10) unknown (λ z. omega (arith, sym t.0 ∙ z)) (λ z. omega (arith, sym t.0 ∙ z)) in
    let z : ◌≡◌ {A = ℕ} 0 10 = sym t.1 ∙ ap (λ (m : Module). m.quiet) e.0 in
    omega (arith, z)

-- and its count is not the sheet's
pub restless_row_refuted : SleepDemand restless → ⊥
restless_row_refuted = no_count restless _ _ _ told.restless_row

-- ---- "its newest existing sample"
pub careless_refuted : SleepDemand careless → ⊥
careless_refuted = no_count careless _ _ _ told.careless
