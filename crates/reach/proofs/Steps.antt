-- ONE LOOK MORE, on the sheet: under KBDBOUNCE 1, where every key that is not hidden is at once as its sample says.
--
--    possible x       a call can make the happening x, and it is none of the pins
--    doable past      so it is with every happening; doable-before: with those before it too
--    no_pins          the pins are then as after reset
--    Keys past ..     what is known of a past: the size, KBDBOUNCE, the keys, the runs, the queue, and that PORIRQ is set
--    none             the run of every key is 0
--    quick, slow      a look at a contact under KBDBOUNCE 1, its run being 0, and under 255 while its run is below 254
--    calm, unseen     a contact that did not change, and so one that was hidden
--    no_changes, one_change    a look's changes if no key changes, and if one does
--    known_made       what a look makes of a key, by what is known of the past
--    Clear z h f      a look with the samples of f, the keys being h, hides no key that is not yet as f says
--    clear_open       so if f closes no special function key
--    clear_one        so if f differs from h in one key alone, and this one is not hidden
--    look_to          such a look makes the keys as f says
--    look_full        the same while 15 codes wait: none is added
--    look_one         the look's changes, if f differs in one key
-- Assumes nothing.
use Prim.Native.Nat.{ℕ, zero, suc, ◌+◌, ◌-◌, ◌≤◌, ◌<◌}
use native.Mathlib.Nat.{le_refl}
use native.Mathlib.Omega.{arith}
use native.Mathlib.Decide.{dec_lt, ℕ_discrete}
use mathlib.Core.Path.{◌≡◌, refl, sym, ap, ◌∙◌}
use mathlib.Core.Bool.{Bool, true, false, not, ◌&&◌, cond}
use mathlib.Core.List.{List, [], ◌∷◌, ◌++◌, append-nil}
use borrow.Author.Tests.{eq-eqb, lt-ltb}
use lib.Dec.{eqb, leb, ltb}
use lib.ListN.{length, take}
use Rattle.words.specs.Words.{all}
use Rattle.words.proofs.Laws.{true_false, and_left, and_right}
use Rattle.words.proofs.Lists.{take_room}
use Rattle.keys.specs.Keys.{col_of, code, sample, special, hidden}
use Rattle.keys.proofs.Laws.{special_low, special_col}
use Rattle.contact.specs.declared.Contact.{Contact}
use Rattle.contact.specs.Contact.{opposite, sampled, stepped, sight_of}
use Rattle.contact.proofs.Laws.{hidden_keeps, opposite_flips, opposite_stays, reached, ahead}
use Rattle.pins.specs.Pins as pins
use Rattle.registers.specs.declared.Register.{Register}
use Rattle.registers.specs.declared.Register.TheVariants.{KBDBOUNCE, KBDSIZE, KBDRIS, KBDMIS, KBDIC, KBDMSK, KBDCODE, EVTCODE, RSTINTCLR, PIN, Unknown}
use Rattle.registers.specs.Registers.{can_read, can_write, ◌is◌, address, pictured, ◌is_pin◌}
use Rattle.sheet.specs.Sheet.{Happening, Past, looked, wrote, got, beside, bounce, size, held, changed, change, changes_below, changes, waiting, porirq, kept_at, pin_samples, newest, pending}
use Rattle.sheet.proofs.Contacts.{contact_of, contact_right}
use Rattle.judge.specs.Lines.{high, byte_fits}
use Rattle.state.specs.declared.Module.{Module}
use Rattle.state.specs.Module.{fresh}
use Rattle.demands.specs.Shown.{run, pins_shown, shown}
use Rattle.demands.proofs.Simulation.{reset_shown}
use Rattle.reach.proofs.Samples.{samples_of, Within, told, told_hidden, eight, narrow, u16s}

-- ---- the pasts by which a state is reached
-- a register of the keypad
abbrev pub of_keys : Register → Bool
of_keys r = not (r is PIN 0x91)

unfoldable pub possible : Happening → Bool
possible (looked s) = eqb (length s) 8 && all (λ x. not (high x)) s && all (λ x. ltb x 0x10000) s
possible (wrote r b) = leb b 0xFF && byte_fits r b && can_write r && of_keys r
possible (got r) = can_read r && all (λ n. ltb n 4) (pictured r) && of_keys r
possible (beside e) = false

unfoldable pub doable : Past → Bool
doable [] = true
doable (x ∷ past) = possible x && doable past

module _ (x : Happening) (past : Past) (e : doable (x ∷ past) ≡ true) where
  pub doable_last : possible x ≡ true
  unfolding doable
  doable_last = and_left (possible x) (doable past) e

  pub doable_before : doable past ≡ true
  unfolding doable
  doable_before = and_right (possible x) (doable past) e

-- a byte for the keypad
wrote_none : (r : Register) (b : ℕ) (past : Past) → of_keys r ≡ true → pins_shown (wrote r b ∷ past) ≡ pins_shown past
unfolding pins_shown kept_at pin_samples newest pending ◌is◌ address ◌is_pin◌
wrote_none KBDBOUNCE b past o = refl
wrote_none KBDSIZE b past o = refl
wrote_none KBDRIS b past o = refl
wrote_none KBDMIS b past o = refl
wrote_none KBDIC b past o = refl
wrote_none KBDMSK b past o = refl
wrote_none (KBDCODE n) b past o = refl
wrote_none EVTCODE b past o = refl
wrote_none RSTINTCLR b past o = refl
wrote_none (PIN a) b past o = true_false (sym o)
wrote_none Unknown b past o = refl

possible_none : (x : Happening) (past : Past) → possible x ≡ true → pins_shown (x ∷ past) ≡ pins_shown past
unfolding possible pins_shown kept_at pin_samples newest pending
possible_none (looked s) past e = refl
possible_none (wrote r b) past e = wrote_none r b past (and_right (leb b 0xFF && byte_fits r b && can_write r) (of_keys r) e)
possible_none (got r) past e = refl
possible_none (beside x) past e = true_false (sym e)

pub no_pins : (past : Past) → doable past ≡ true → pins_shown past ≡ pins.fresh
unfolding fresh shown
no_pins [] e = sym (ap (λ (m : Module). m.pins) reset_shown)
no_pins (x ∷ past) e = possible_none x past (doable_last x past e) ∙ no_pins past (doable_before x past e)

-- what is known of a past: the settings, the keys, the queue
pub record Keys (past : Past) (z d : ℕ) (h : ℕ → Bool) (r : ℕ → ℕ) (w : List ℕ) : Type 0 where
  pub can : doable past ≡ true
  pub its_size : size past ≡ z
  pub its_bounce : bounce past ≡ d
  pub its_held : (k : ℕ) → k < 104 → held k past ≡ h k
  pub its_run : (k : ℕ) → k < 104 → run k past ≡ r k
  pub its_waiting : waiting past ≡ w
  pub its_porirq : porirq past ≡ true

abbrev pub none : ℕ → ℕ
none _ = 0

-- ---- a contact, with the smallest and the largest KBDBOUNCE
at_once : Bool → Bool → Contact
at_once held s = record { held = s; run = 0; changed = opposite held s; settling = false }

-- if it is hidden, b, it is so already
quick : (b held s : Bool) → (b ≡ true → held ≡ s) → stepped held 0 (sight_of b s) 1 ≡ at_once held s
unfolding stepped sight_of sampled opposite at_once
quick true true true e = refl
quick true false false e = refl
quick true true false e = true_false (e refl)
quick true false true e = true_false (sym (e refl))
quick false true true e = refl
quick false false false e = refl
quick false true false e = rw (reached 1 0 (omega arith)) refl
quick false false true e = rw (reached 1 0 (omega arith)) refl

-- it stays as it is held, and settles if it has a run
unfoldable pub calm : Bool → ℕ → Contact
calm held run = record { held = held; run = run; changed = false; settling = ltb 0 run }

pub unseen : (held : Bool) (run : ℕ) (s : Bool) (d : ℕ) → stepped held run (sight_of true s) d ≡ calm held run
unfolding sight_of calm
unseen held run s d = hidden_keeps held run d

pub slow : (held : Bool) (run : ℕ) (s : Bool) → (opposite held s ≡ true → run + 1 < 255)
    → stepped held run (sight_of false s) 255 ≡ calm held (cond (opposite held s) (run + 1) 0)
unfolding stepped sight_of sampled opposite calm
slow true run true h = refl
slow false run false h = refl
slow true run false h = rw (ahead 255 run (h refl), lt-ltb 0 (run + 1) (omega arith)) refl
slow false run true h = rw (ahead 255 run (h refl), lt-ltb 0 (run + 1) (omega arith)) refl

-- ---- the changes of a look
module _ (s : List ℕ) (past : Past) where
  none_below : (n : ℕ) → ((k : ℕ) → k < n → changed k s past ≡ false) → changes_below n s past ≡ []
  unfolding changes_below change
  none_below zero h = refl
  none_below (suc n) h = rw (none_below n (λ k l. h k (omega arith)), h n (omega arith))

  pub no_changes : ((k : ℕ) → k < 104 → changed k s past ≡ false) → changes s past ≡ []
  unfolding changes
  no_changes h = none_below 104 h

  module _ (k₀ : ℕ) (yes₀ : changed k₀ s past ≡ true) (others : (k : ℕ) → k < 104 → (k ≡ k₀ → ⊥) → changed k s past ≡ false) where
    one_below : (n : ℕ) → k₀ < n → n ≤ 104 → changes_below n s past ≡ code k₀ (sample s (size past) k₀) ∷ []
    unfolding changes_below change
    one_below zero a b = absurd (omega arith)
    one_below (suc n) a b = go (dec_lt k₀ n) (λ l. one_below n l (omega arith))
      where
        go : Dec (k₀ < n) → (k₀ < n → changes_below n s past ≡ code k₀ (sample s (size past) k₀) ∷ []) → changes_below (suc n) s past ≡ code k₀ (sample s (size past) k₀) ∷ []
        go (yes l) rest = rw (rest l, others n (omega arith) (λ e. omega arith))
        go (no l) rest =
            let last : n ≡ k₀ = omega arith in
            rw (none_below n (λ k m. others k (omega arith) (λ e. omega arith)), last, yes₀)

    pub one_change : k₀ < 104 → changes s past ≡ code k₀ (sample s (size past) k₀) ∷ []
    unfolding changes
    one_change l = one_below 104 l (le_refl 104)

-- ---- a look, by the keys that it closes
pub look_can : (f : ℕ → Bool) (past : Past) → doable past ≡ true → doable (looked (samples_of f) ∷ past) ≡ true
unfolding doable possible
look_can f past e = rw (eq-eqb (length (samples_of f)) 8 (eight f), narrow f, u16s f) e

module _ (past : Past) (z d : ℕ) (h : ℕ → Bool) (r : ℕ → ℕ) (w : List ℕ) (t : Keys past z d h r w) (f : ℕ → Bool) (ok : Within z f) (k : ℕ) (l : k < 104) where
  sees : sample (samples_of f) (size past) k ≡ f k
  sees = ap (λ (x : ℕ). sample (samples_of f) x k) t.its_size ∙ told f z k l (ok k l)

  pub known_made : contact_of (samples_of f) past k ≡ stepped (h k) (r k) (sight_of (hidden (samples_of f) z k) (f k)) d
  unfolding run
  known_made =
      sym (contact_right (samples_of f) past k)
      ∙ (λ i. stepped (t.its_held k l i) (t.its_run k l i) (sight_of (hidden (samples_of f) (t.its_size i) k) (sees i)) (t.its_bounce i))

-- ---- a look under KBDBOUNCE 1
-- what is hidden is already as f says
abbrev pub Clear : ℕ → (ℕ → Bool) → (ℕ → Bool) → Type 0
Clear z h f = (k : ℕ) → k < 104 → hidden (samples_of f) z k ≡ true → h k ≡ f k

module _ (z : ℕ) (h f : ℕ → Bool) where
  pub clear_open : Within z f → ((k : ℕ) → k < 104 → ltb (col_of k) 12 ≡ false → f k ≡ false) → Clear z h f
  clear_open ok shut k l e =
      let closed = and_right (ltb (col_of k) 12) (f (special k)) (sym (told_hidden f z k l ok) ∙ e) in
      true_false (sym closed ∙ shut (special k) (special_low k l) (ap (λ (x : ℕ). ltb x 12) (special_col k l)))

  pub clear_one : (k : ℕ) → hidden (samples_of f) z k ≡ false → ((j : ℕ) → (j ≡ k → ⊥) → f j ≡ h j) → Clear z h f
  clear_one k seen same j l e = go (ℕ_discrete j k)
    where
      go : Dec (j ≡ k) → h j ≡ f j
      go (yes p) = true_false (sym e ∙ ap (hidden (samples_of f) z) p ∙ seen)
      go (no n) = sym (same j n)

module _ (past : Past) (z : ℕ) (h : ℕ → Bool) (w : List ℕ) (t : Keys past z 1 h none w) (f : ℕ → Bool) (ok : Within z f) (clear : Clear z h f) where
  quick_made : (k : ℕ) → k < 104 → contact_of (samples_of f) past k ≡ at_once (h k) (f k)
  quick_made k l = known_made past z 1 h none w t f ok k l ∙ quick (hidden (samples_of f) z k) (h k) (f k) (clear k l)

  quick_changed : (k : ℕ) → k < 104 → changed k (samples_of f) past ≡ opposite (h k) (f k)
  unfolding contact_of at_once
  quick_changed k l = ap (λ (x : Contact). x.changed) (quick_made k l)

  -- the look: every key is at once as f says
  pub look_to : (w' : List ℕ) → take 15 (w ++ changes (samples_of f) past) ≡ w' → Keys (looked (samples_of f) ∷ past) z 1 f none w'
  unfolding contact_of run at_once size bounce waiting porirq
  look_to w' e =
      record {
        can = look_can f past t.can;
        its_size = t.its_size;
        its_bounce = t.its_bounce;
        its_held = λ k l. ap (λ (x : Contact). x.held) (quick_made k l);
        its_run = λ k l. ap (λ (x : Contact). x.run) (quick_made k l);
        its_waiting = ap (λ (x : List ℕ). take 15 (x ++ changes (samples_of f) past)) t.its_waiting ∙ e;
        its_porirq = t.its_porirq;
      }

  -- if 15 wait, every change is dropped
  pub look_full : length w ≡ 15 → Keys (looked (samples_of f) ∷ past) z 1 f none w
  look_full n =
      let c = changes (samples_of f) past in
      let o : 15 - length w ≡ 0 = omega arith in
      look_to w (take_room 15 w c (omega arith) ∙ ap (λ (x : ℕ). w ++ take x c) o ∙ append-nil w)

  -- one key is not as f says
  pub look_one : (k : ℕ) → k < 104 → (f k ≡ not (h k)) → ((j : ℕ) → (j ≡ k → ⊥) → f j ≡ h j) → changes (samples_of f) past ≡ code k (f k) ∷ []
  look_one k l e same =
      one_change (samples_of f) past k (quick_changed k l ∙ ap (opposite (h k)) e ∙ opposite_flips (h k))
      (λ j m n. quick_changed j m ∙ ap (opposite (h j)) (same j n) ∙ opposite_stays (h j)) l
      ∙ ap (λ (b : Bool). code k b ∷ []) (sees past z 1 h none w t f ok k l)
