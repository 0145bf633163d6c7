-- A LOOK LEAVES A SOUND MODULE SOUND, so a block judges soundness once.
--
--    Judged m                    the module m is sound, and what the struct's types say of it
--    apart m, bare               a sound module without its mask, PORIRQ and pins is sound
--    still                       keys out of the size are still, as a look asks
--    Held size q                 what soundness asks of the queue q, whose keys are in the size
--    put_held, put_all_held       codes of keys in the size are put into such a queue
--    key_kept                    a key's contact after a look
--    changes_in                  a look's changes are of keys in the size
--    noticed_kept                the flags after a look with a change
--    looked_kept                 THE MODULE AFTER A LOOK
-- Assumes nothing.
use Prim.Native.Nat.{ℕ, zero, suc, ◌+◌, ◌<◌, ◌≤◌}
use native.Mathlib.Numerals.{add-one}
use native.Mathlib.Omega.{arith}
use mathlib.Core.Path.{◌≡◌, refl, sym, ap, ◌∙◌, subst}
use mathlib.Core.Bool.{Bool, true, false, cond}
use mathlib.Core.List.{List, [], ◌∷◌}
use lib.ListN.{length, get_or, set, take, drop, length-set}
use lib.Seq.{take-suc-set, drop-set-lt, drop-cons}
use lib.Dec.{eqb, ltb}
use borrow.Author.Tests.{ltb-true, ltb-false}
use Rattle.words.specs.Words.{all, some}
use Rattle.words.proofs.Laws.{true_false, all_first, all_rest}
use Rattle.words.proofs.Lists.{by_test, all_none, all_one, all_append}
use Rattle.words.proofs.Tables.{table_at, table_length}
use Rattle.keys.specs.Keys.{code, key_in, key_of, sample}
use Rattle.keys.proofs.Laws.{rows_most, code_key}
use Rattle.contact.specs.declared.Contact.{Contact}
use Rattle.contact.proofs.Laws.{step_low}
use Rattle.state.specs.declared.Module.{Module}
use Rattle.state.specs.Module.{Queue, queue, settings, flags, keys_of, queue_of, sleep_of, made, with_queue, forgotten}
use Rattle.state.specs.Queue.{waiting, put, put_all}
use Rattle.state.proofs.Laws.{put_room, put_full}
use Rattle.state.proofs.Counted.{counted_least, counted_sleeps}
use Rattle.picture.specs.Picture.{all_read}
use Rattle.sound.specs.Sound.{key_sound, codes_sound, rest_unused, sound}
use Rattle.sound.proofs.Laws.{sound_facts, facts_sound, sound_out}
use Rattle.sound.proofs.Exactly.{run_said, said_key}
use Rattle.pins.specs.Pins.{fresh}
use Rattle.scan.specs.Scan.{sight, contact_at, changes_below, changes, calm, contacts, noticed, looked}
use Rattle.scan.specs.Walk.{Still}
use Rattle.scan.proofs.Laws.{out_rests, looked_noticed}

pub record Judged (m : Module) : Type 0 where
  pub keys : length m.held ≡ 104
  pub runs : length m.run ≡ 104
  pub places : length m.queue ≡ 15
  pub low : m.bounce ≤ 255
  pub ok : sound m ≡ true

-- ---- the queue
record Held (size : ℕ) (q : Queue) : Type 0 where
  few : q.count ≤ 15
  long : length q.places ≡ 15
  codes : codes_sound size q ≡ true
  rest : rest_unused q ≡ true

abbrev code_in : ℕ → ℕ → Bool
code_in size c = key_in size (key_of c)

abbrev unused : ℕ → Bool
unused c = eqb c 0x7F

module _ (size : ℕ) (l : List ℕ) (n : ℕ) (r : Bool) (c : ℕ) (h : Held size (queue l n r)) where
  put_in : n < 15 → code_in size c ≡ true → Held size (queue (set l n c) (n + 1) r)
  unfolding codes_sound rest_unused waiting
  put_in room e =
      let long = h.long in
      record {
        few = omega arith;
        long = length-set l n c ∙ long;
        codes = rw (add-one n, take-suc-set l n c (omega arith)) (all_append (code_in size) (take n l) (c ∷ []) h.codes (all_one (code_in size) c e));
        rest = rw (add-one n, drop-set-lt (suc n) l n c (omega arith)) (all_rest unused (get_or l n 0) (drop (suc n) l) (rw (drop-cons l n 0 (omega arith)) at h.rest));
      }

  put_over : 15 ≤ n → Held size (queue l n true)
  unfolding codes_sound rest_unused waiting
  put_over full = record { few = h.few; long = h.long; codes = h.codes; rest = h.rest }

  put_held : code_in size c ≡ true → Held size (put (queue l n r) c)
  put_held e =
      by_test (λ b. ltb n 15 ≡ b → Held size (put (queue l n r) c)) (ltb n 15)
      (λ _ t. let room = ltb-true n 15 t in subst (Held size) (sym (put_room l n r c room)) (put_in room e))
      (λ _ t. let full = ltb-false n 15 t in subst (Held size) (sym (put_full l n r c full)) (put_over full)) refl

put_all_held : (size : ℕ) (cs : List ℕ) (q : Queue) → all (code_in size) cs ≡ true → Held size q → Held size (put_all q cs)
unfolding put_all
put_all_held size [] q e h = h
put_all_held size (c ∷ cs) q e h =
    put_all_held size cs (put q c) (all_rest (code_in size) c cs e) (put_held size q.places q.count q.relint c h (all_first (code_in size) c cs e))

abbrev pub apart : Module → Module
apart m = made (keys_of m) (queue_of m) (settings m.bounce m.size 0) (flags m.rsint m.rklint false m.seen) fresh (sleep_of m)

pub bare : (m : Module) → sound m ≡ true → sound (apart m) ≡ true
bare m ok =
    let f = sound_facts m ok in
    facts_sound (apart m) (record { size = f.size; keys = f.keys; few = f.few; codes = f.codes; rest = f.rest; mask = omega arith; marks = f.marks; counted = f.counted; asleep = f.asleep })

pub still : (m : Module) → sound m ≡ true → Still m.size m.held m.run
still m ok = record { rows = rows_most m.size (sound_facts m ok).size; keys = sound_out m ok }

-- ---- the flags
noticed_kept : (m : Module) → Judged m → Judged (noticed m)
unfolding noticed forgotten all_read
noticed_kept m j =
    let f = sound_facts m j.ok in
    record {
      keys = j.keys;
      runs = j.runs;
      places = j.places;
      low = j.low;
      ok = facts_sound (noticed m) (record { size = f.size; keys = f.keys; few = f.few; codes = f.codes; rest = f.rest; mask = f.mask; marks = refl; counted = f.counted; asleep = f.asleep });
    }

-- ---- the keys
module _ (m : Module) (s : List ℕ) (ok : sound m ≡ true) where
  out : (k : ℕ) → k < 104 → key_in m.size k ≡ false → contact_at m s k ≡ record { held = false; run = 0; changed = false; settling = false }
  out k h e = let o = sound_out m ok k h e in out_rests m s k e o.0 o.1

  key_kept : m.bounce ≤ 255 → (k : ℕ) → k < 104 → key_sound m.size k (contact_at m s k).held (contact_at m s k).run ≡ true
  unfolding contact_at
  key_kept low k h =
      said_key m.size k (contact_at m s k).held (contact_at m s k).run
      (λ e. let o = out k h e in (ap (λ (x : Contact). x.held) o, ap (λ (x : Contact). x.run) o))
      (step_low (get_or m.held k false) (get_or m.run k 0) (sight s m.size k) m.bounce low
      (run_said m.size k (get_or m.held k false) (get_or m.run k 0) ((sound_facts m ok).keys k h)))

  -- a key that changes is in the size
  changed_in : (k : ℕ) → k < 104 → (contact_at m s k).changed ≡ true → key_in m.size k ≡ true
  changed_in k h e = by_test (λ b. key_in m.size k ≡ b → b ≡ true) (key_in m.size k) (λ _ f. refl) (λ _ f. true_false (sym e ∙ ap (λ (x : Contact). x.changed) (out k h f))) refl

  below_in : (n : ℕ) → n ≤ 104 → all (code_in m.size) (changes_below m s n) ≡ true
  unfolding changes_below
  below_in zero l = all_none (code_in m.size)
  below_in (suc k) l =
      all_append (code_in m.size) (changes_below m s k) _ (below_in k (omega arith))
      (by_test (λ b. (contact_at m s k).changed ≡ b → all (code_in m.size) (cond b (code k (sample s m.size k) ∷ []) []) ≡ true) (contact_at m s k).changed
      (λ _ e. all_one (code_in m.size) _ (rw (code_key k (sample s m.size k) (omega arith)) (changed_in k (omega arith) e)))
      (λ _ e. all_none (code_in m.size)) refl)

  changes_in : all (code_in m.size) (changes m s) ≡ true
  unfolding changes
  changes_in = below_in 104 (omega arith)

-- ---- the module
module _ (m : Module) (s : List ℕ) (j : Judged m) where
  stepped_kept : Judged (with_queue (contacts m s) (put_all (queue_of m) (changes m s)))
  unfolding contacts
  stepped_kept =
      let f = sound_facts m j.ok in
      let q = put_all_held m.size (changes m s) (queue_of m) (changes_in m s j.ok) (record { few = f.few; long = j.places; codes = f.codes; rest = f.rest }) in
      record {
        keys = table_length (λ k. (contact_at m s k).held) 104;
        runs = table_length (λ k. (contact_at m s k).run) 104;
        places = q.long;
        low = j.low;
        ok = facts_sound (with_queue (contacts m s) (put_all (queue_of m) (changes m s))) (record {
          size = f.size;
          keys = λ k h. (λ i. key_sound m.size k (table_at (λ k. (contact_at m s k).held) 104 k false h i) (table_at (λ k. (contact_at m s k).run) 104 k 0 h i)) ∙ key_kept m s j.ok j.low k h;
          few = q.few;
          codes = q.codes;
          rest = q.rest;
          mask = f.mask;
          marks = f.marks;
          counted = counted_least (sleep_of m) (calm m s);
          asleep = counted_sleeps (sleep_of m) (calm m s);
        });
      }

  pub looked_kept : Judged (looked m s)
  looked_kept =
      let x = with_queue (contacts m s) (put_all (queue_of m) (changes m s)) in
      by_test (λ b. some (changes m s) ≡ b → Judged (looked m s)) (some (changes m s))
      (λ _ e. subst Judged (sym (looked_noticed m s true e)) (noticed_kept x stepped_kept))
      (λ _ e. subst Judged (sym (looked_noticed m s false e)) stepped_kept) refl
