-- One look: what it makes of the module that the sheet wrote down is what the sheet writes down after it.
--
--    contact_shown    the module's step of a key's contact is the sheet's rule over its history
--    changes_shown    the changes of the look are the sheet's
--    queue_shown      so is the queue once they are put
--    calm_shown       the look is quiet exactly when the sheet says so
--    sleep_shown      the count and the sleep are the sheet's
--    look_shown       THE LOOK
-- Assumes nothing.
use Prim.Native.Nat.{ℕ, zero, suc, ◌+◌, ◌≤◌, ◌<◌, min}
use native.Mathlib.Nat.{le_refl}
use native.Mathlib.Omega.{arith}
use mathlib.Core.Path.{◌≡◌, refl, sym, ap, ◌∙◌}
use mathlib.Core.Bool.{Bool, true, false, cond, not, ◌&&◌, ◌||◌, or-true, or-false, and-true, and-false}
use mathlib.Core.List.{List, [], ◌∷◌}
use lib.Dec.{eqb}
use Rattle.words.specs.Words.{◌if◌, ◌else◌, among, some, table}
use Rattle.words.proofs.Lists.{by_test}
use Rattle.words.proofs.Tables.{table_at, table_same}
use Rattle.keys.specs.Keys.{code, sample}
use Rattle.contact.specs.declared.Contact.{Contact}
use Rattle.sheet.specs.Sheet.{Past, looked, bounce, size, mask, held, change, changes_below, changes, waiting, relint, marks, rsint, rklint, kept_at, pin_samples, newest, pending, porirq, settling_below, calm, quiet, asleep}
use Rattle.sheet.proofs.Contacts.{contact_of, contact_right}
use Rattle.sheet.proofs.Facts.{waiting_most}
use Rattle.sheet.proofs.Sleep.{quiet_sleeps, look_counts}
use Rattle.state.specs.declared.Module.{Module}
use Rattle.state.specs.Module.{Queue, Sleep, queue_of, sleep, sleep_of, with_queue, forgotten}
use Rattle.state.specs.Queue.{put_all}
use Rattle.state.specs.Sleep.{counted}
use Rattle.state.proofs.Counted.{counted_sleeps}
use Rattle.scan.specs.Scan as scan
use Rattle.scan.proofs.Laws.{looked_noticed}
use Rattle.demands.specs.Shown.{run, pins_shown, shown}
use Rattle.demands.proofs.Queue.{came, came_few, put_all_came}

module _ (s : List ℕ) (past : Past) where
  contact_shown : (k : ℕ) → k < 104 → scan.contact_at (shown past) s k ≡ contact_of s past k
  unfolding scan.contact_at scan.sight shown run
  contact_shown k h = rw (table_at (λ k. held k past) 104 k false h, table_at (λ k. run k past) 104 k 0 h) (contact_right s past k)

  change_shown : (k : ℕ) → k < 104 → cond (scan.contact_at (shown past) s k).changed (code k (sample s (shown past).size k) ∷ []) [] ≡ change k s past
  unfolding change shown contact_of
  change_shown k h = ap (λ (x : Contact). cond x.changed (code k (sample s (size past) k) ∷ []) []) (contact_shown k h)

  below_shown : (n : ℕ) → n ≤ 104 → scan.changes_below (shown past) s n ≡ changes_below n s past
  unfolding scan.changes_below changes_below
  below_shown zero h = refl
  below_shown (suc k) h = rw (below_shown k (omega arith), change_shown k h)

  pub changes_shown : scan.changes (shown past) s ≡ changes s past
  unfolding scan.changes changes
  changes_shown = below_shown 104 (le_refl 104)

  held_table : table (λ k. (scan.contact_at (shown past) s k).held) 104 ≡ table (λ k. held k (looked s ∷ past)) 104
  unfolding contact_of
  held_table = table_same _ _ 104 (λ k h. ap (λ (x : Contact). x.held) (contact_shown k h))

  run_table : table (λ k. (scan.contact_at (shown past) s k).run) 104 ≡ table (λ k. run k (looked s ∷ past)) 104
  unfolding contact_of run
  run_table = table_same _ _ 104 (λ k h. ap (λ (x : Contact). x.run) (contact_shown k h))

  queue_shown : put_all (queue_of (shown past)) (changes s past) ≡ queue_of (shown (looked s ∷ past))
  unfolding shown came waiting relint
  queue_shown =
      ap (λ (q : Queue). put_all q (changes s past)) (sym (came_few (waiting past) (relint past) (waiting_most past)))
      ∙ put_all_came (waiting past) (changes s past) (relint past)

  settles_shown : (n : ℕ) → n ≤ 104 → scan.settles_below (shown past) s n ≡ settling_below n (looked s ∷ past)
  unfolding scan.settles_below settling_below contact_of
  settles_shown zero h = refl
  settles_shown (suc k) h = λ i. settles_shown k (omega arith) i || (contact_shown k h i).settling

  calm_shown : scan.calm (shown past) s ≡ calm s past
  unfolding scan.calm calm
  calm_shown = λ i. not (some (changes_shown i)) && not (settles_shown 104 (le_refl 104) i)

  count_shown : (counted (sleep_of (shown past)) (calm s past)).quiet ≡ quiet (looked s ∷ past)
  unfolding counted shown
  count_shown = by_test (λ t. (counted (sleep_of (shown past)) t).quiet ≡ cond t (min 255 (quiet past + 1)) 0) (calm s past) (λ _. refl) (λ _. refl) ∙ sym (look_counts s past)

  sleep_shown : counted (sleep_of (shown past)) (scan.calm (shown past) s) ≡ sleep_of (shown (looked s ∷ past))
  unfolding shown
  sleep_shown =
      let z = counted (sleep_of (shown past)) (calm s past) in
      let asleep-too : z.asleep ≡ asleep (looked s ∷ past) =
      counted_sleeps (sleep_of (shown past)) (calm s past) ∙ ap (λ (n : ℕ). eqb n 255) count_shown ∙ sym (quiet_sleeps (looked s ∷ past)) in
      ap (counted (sleep_of (shown past))) calm_shown ∙ (λ i. sleep (count_shown i) (asleep-too i))

  -- the module that the sheet wrote down, with these parts for its own
  parts : List Bool → List ℕ → Queue → Bool → Bool → List Bool → Sleep → Module
  parts h r q rs rk seen z =
      record {
        held = h;
        run = r;
        queue = q.places;
        count = q.count;
        bounce = bounce past;
        size = size past;
        mask = mask past;
        rsint = rs;
        rklint = rk;
        relint = q.relint;
        porirq = porirq past;
        seen = seen;
        quiet = z.quiet;
        asleep = z.asleep;
        pins = pins_shown past;
      }

  -- the flags and the marks, with a change and without
  look_made : (b : Bool) → some (changes s past) ≡ b
      → (scan.noticed (with_queue (scan.contacts (shown past) s) (put_all (queue_of (shown past)) (changes s past))) if b else with_queue (scan.contacts (shown past) s) (put_all (queue_of (shown past)) (changes s past)))
      ≡ shown (looked s ∷ past)
  unfolding scan.noticed scan.contacts shown pins_shown parts bounce size mask porirq rsint rklint marks kept_at pin_samples newest pending among table forgotten
  look_made true e =
      rw (e, or-true (rsint past), and-true (rsint past)) (λ i. parts (held_table i) (run_table i) (queue_shown i) true (rklint past || rsint past) forgotten (sleep_shown i))
  look_made false e =
      rw (e, or-false (rsint past), and-false (rsint past), or-false (rklint past))
      (λ i. parts (held_table i) (run_table i) (queue_shown i) (rsint past) (rklint past) (table (λ n. among n (marks past)) 4) (sleep_shown i))

  pub look_shown : scan.looked (shown past) s ≡ shown (looked s ∷ past)
  look_shown =
      let b = some (changes s past) in
      looked_noticed (shown past) s b (ap some changes_shown) ∙ rw changes_shown (look_made b refl)
