-- Laws of a look.
--
--    put_all_none                with no code to put the queue stays as it is
--    below_more                 one key more
--    below_queue, below_some    what one key more does to the queue, and to whether there is a change
--    out_rests                  an open contact with no run, out of the size, stays so, and isn't settling
--    hidden_keeps               a key that is hidden at a look keeps how it is held and its run, doesn't change, and is settling if it has a run
--    changed_sample             a key that changes is held as its sample says
--    calm_stirred               a look is quiet unless there is a change or a contact is settling
--    looked_noticed             the state after a look: keys, queue and count, and the flags if there is a change
--    looked_sleep               the count and the sleep after a look
-- Assumes nothing.
use Prim.Native.Nat.{ℕ, ◌+◌}
use native.Mathlib.Numerals.{add-one}
use mathlib.Core.Path.{◌≡◌, refl, sym, ap, ◌∙◌}
use mathlib.Core.Bool.{Bool, true, false, not, ◌||◌}
use mathlib.Core.List.{List, [], ◌∷◌, ◌++◌, append-nil}
use lib.ListN.{get_or}
use lib.Dec.{ltb}
use Rattle.words.specs.Words.{◌if◌, ◌else◌, some}
use Rattle.words.proofs.Laws.{true_false}
use Rattle.words.proofs.Lists.{by_test, some_append}
use Rattle.keys.specs.Keys.{code, key_in, sample, hidden}
use Rattle.keys.proofs.Laws.{sample_out}
use Rattle.contact.specs.Contact.{stepped, sight_of}
use Rattle.contact.proofs.Laws.{step_rests, step_changed}
use Rattle.state.specs.declared.Module.{Module}
use Rattle.state.specs.Module.{Queue, queue_of, sleep_of, with_queue}
use Rattle.state.specs.Queue.{put, put_all}
use Rattle.state.specs.Sleep.{counted}
use Rattle.state.proofs.Laws.{put_all_snoc}
use Rattle.scan.specs.Scan.{sight, contact_at, changes_below, changes, settles_below, calm, contacts, noticed, looked}

-- of one code more, or none
put_all_if : (q : Queue) (cs : List ℕ) (c : ℕ) (b : Bool) → put_all q (cs ++ ((c ∷ []) if b else [])) ≡ (put (put_all q cs) c if b else put_all q cs)
put_all_if q cs c true = put_all_snoc q cs c
put_all_if q cs c false = ap (put_all q) (append-nil cs)

some_if : (cs : List ℕ) (c : ℕ) (b : Bool) → some (cs ++ ((c ∷ []) if b else [])) ≡ (some cs || b)
unfolding some
some_if cs c true = some_append cs (c ∷ [])
some_if cs c false = some_append cs []

pub put_all_none : (q : Queue) (cs : List ℕ) → some cs ≡ false → put_all q cs ≡ q
unfolding put_all some
put_all_none q [] e = refl
put_all_none q (c ∷ cs) e = true_false e

module _ (m : Module) (s : List ℕ) where
  module _ (k : ℕ) where
    -- its sample counts as open, or doesn't exist
    pub out_rests : key_in m.size k ≡ false → get_or m.held k false ≡ false → get_or m.run k 0 ≡ 0 → contact_at m s k ≡ record { held = false; run = 0; changed = false; settling = false }
    unfolding contact_at sight
    out_rests out still none = rw (still, none, sample_out s m.size k out) (step_rests (hidden s m.size k) m.bounce)

    pub hidden_keeps : hidden s m.size k ≡ true
        → contact_at m s k ≡ record { held = get_or m.held k false; run = get_or m.run k 0; changed = false; settling = ltb 0 (get_or m.run k 0) }
    unfolding contact_at sight sight_of stepped
    hidden_keeps e = rw e

    pub changed_sample : (contact_at m s k).changed ≡ true → (contact_at m s k).held ≡ sample s m.size k
    unfolding contact_at sight
    changed_sample = step_changed (hidden s m.size k) (get_or m.held k false) (get_or m.run k 0) (sample s m.size k) m.bounce

    pub below_more : changes_below m s (k + 1) ≡ changes_below m s k ++ ((code k (sample s m.size k) ∷ []) if (contact_at m s k).changed else [])
    unfolding changes_below
    below_more = rw (add-one k)

    pub below_queue : (q : Queue)
        → put_all q (changes_below m s (k + 1)) ≡ (put (put_all q (changes_below m s k)) (code k (sample s m.size k)) if (contact_at m s k).changed else put_all q (changes_below m s k))
    below_queue q = ap (put_all q) below_more ∙ put_all_if q (changes_below m s k) (code k (sample s m.size k)) (contact_at m s k).changed

    pub below_some : some (changes_below m s (k + 1)) ≡ (some (changes_below m s k) || (contact_at m s k).changed)
    below_some = ap some below_more ∙ some_if (changes_below m s k) (code k (sample s m.size k)) (contact_at m s k).changed

  pub calm_stirred : (b : Bool) → some (changes m s) ≡ b → calm m s ≡ not (b || settles_below m s 104)
  unfolding calm
  calm_stirred true e = rw e
  calm_stirred false e = rw e

  -- with no change the queue stays as it is, so that keys, queue and count are the same either way
  pub looked_noticed : (b : Bool) → some (changes m s) ≡ b
      → looked m s ≡ (noticed (with_queue (contacts m s) (put_all (queue_of m) (changes m s))) if b else with_queue (contacts m s) (put_all (queue_of m) (changes m s)))
  unfolding looked contacts
  looked_noticed true e = rw e
  looked_noticed false e = rw e (ap (with_queue (contacts m s)) (sym (put_all_none (queue_of m) (changes m s) e)))

  pub looked_sleep : sleep_of (looked m s) ≡ counted (sleep_of m) (calm m s)
  unfolding looked contacts noticed
  looked_sleep =
      by_test (λ t. sleep_of (noticed (with_queue (contacts m s) (put_all (queue_of m) (changes m s))) if t else contacts m s) ≡ counted (sleep_of m) (calm m s)) (some (changes m s))
      (λ _. refl) (λ _. refl)
