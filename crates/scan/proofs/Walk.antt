-- The code's walk over the keys, row by row.
--
--    moved_key            what a look does to one key
--    hidden_same          a key that is hidden leaves all as it is
--    first_low            the first key that is shown is one of the row
--    row_none, row_next   a row before the first key that is shown, and from one key to the next
--    rows_none, rows_next  before the first row, and from one row to the next
--    walk_on              two walks, one after the other
--    done m s k           what a look alters, once the keys below k are done
--    done_none            before the first key
--    done_rows            after the rows of the size
--    done_rest            the rows out of the size are still
--    done_all             after the last key this is the state after the look
--    walked               so it is after the rows of the size, once the look is counted
--    runs_none, runs_next, runs_all    some key has a run: before the first key, from one to the next, and after the last
--    settles_runs         some contact is settling after a look exactly if some key has a run then
--    after m p z          the state m with these parts, and with this count and sleep
-- Assumes nothing.
use Prim.Native.Nat.{ℕ, zero, suc, ◌+◌, ◌-◌, ◌*◌, ◌/◌, ◌<◌, ◌≤◌}
use native.Mathlib.Numerals.{add-one, unary_clauses}
use native.Mathlib.Omega.{arith}
use native.Mathlib.Decide.{dec_lt}
use mathlib.Core.Path.{◌≡◌, refl, sym, ap, subst, ◌∙◌}
use mathlib.Core.Bool.{Bool, true, false, not, ◌&&◌, ◌||◌, cond, or-false, and-false}
use mathlib.Core.List.{List}
use lib.ListN.{length, get_or, set}
use lib.Seq.{set-get_or}
use borrow.Author.Tests.{lt-ltb, le-ltb, ne_eqb}
use lib.Dec.{ltb, eqb}
use Rattle.std.proofs.Math.Bool.{or_assoc}
use Rattle.words.specs.Words.{◌if◌, ◌else◌, some, all_below, table}
use Rattle.words.proofs.Lists.{by_test}
use Rattle.words.proofs.Tables.{table_at, replaced, replaced_none, replaced_all, replaced_at, replaced_next}
use Rattle.keys.specs.Keys.{code, in_size, key_in, sample, hidden}
use Rattle.keys.proofs.Laws.{place_row, place_col, row_yes, hidden_matrix, hidden_special}
use Rattle.contact.specs.declared.Moved.{Moved}
use Rattle.contact.specs.declared.Sight.{Sight}
use Rattle.contact.specs.declared.Sight.TheVariants.{Hidden}
use Rattle.contact.specs.Contact.{moved, stepped, sight_of}
use Rattle.contact.proofs.Laws.{step_settling}
use Rattle.state.specs.declared.Module.{Module}
use Rattle.state.specs.Module.{Queue, Sleep, queue_of, sleep_of, with_queue, with_sleep}
use Rattle.state.specs.Queue.{put, put_all}
use Rattle.state.specs.Sleep as asleep
use Rattle.scan.specs.Scan.{sight, contact_at, changes_below, changes, settles_below, calm, contacts, noticed, looked}
use Rattle.scan.specs.Walk.{Parts, parts, parts_of, with_parts, Walked, counted, shows, first_shown, became, at_key, at_row, at_rows, runs, Still}
use Rattle.scan.proofs.Laws.{out_rests, changed_sample, below_queue, below_some, calm_stirred, looked_noticed}

-- what a look needs of a key's test is enough
pub moved_key : (d k : ℕ) (o : Sight) (p : Parts) (x : Moved) → x ≡ moved (stepped (get_or p.held k false) (get_or p.run k 0) o d)
    → at_key d k o p ≡ parts (set p.held k x.held) (set p.run k x.run) (put p.queue (code k x.held) if x.changed else p.queue) (p.any || x.changed)
unfolding at_key moved
moved_key d k o p x e =
    sym (ap (λ (y : Moved). parts (set p.held k y.held) (set p.run k y.run) (put p.queue (code k y.held) if y.changed else p.queue) (p.any || y.changed)) e)

hidden_same : (d k : ℕ) (p : Parts) → at_key d k Hidden p ≡ p
unfolding at_key stepped
hidden_same d k p = λ i. parts (set-get_or p.held k false i) (set-get_or p.run k 0 i) p.queue (or-false p.any i)

-- ---- a change before a walk is a change after it, and alters nothing else
abbrev unchanged : Parts → Parts
unchanged p = parts p.held p.run p.queue false

abbrev added : Bool → Parts → Parts
added any p = parts p.held p.run p.queue (any || p.any)

key_added : (d k : ℕ) (o : Sight) (any : Bool) (p : Parts) → at_key d k o (added any p) ≡ added any (at_key d k o p)
unfolding at_key
key_added d k o any p =
    let q = at_key d k o p in
    λ i. parts q.held q.run q.queue (or_assoc any p.any (stepped (get_or p.held k false) (get_or p.run k 0) o d).changed i)

row_added : (d size x row : ℕ) (p : Parts) (n : ℕ) → at_row d size x row p n ≡ added p.any (at_row d size x row (unchanged p) n)
unfolding at_row
row_added d size x row p zero = λ i. parts p.held p.run p.queue (sym (or-false p.any) i)
row_added d size x row p (suc n) =
    ap (at_key d (13 * row + n) (shows x size row n)) (row_added d size x row p n)
    ∙ key_added d (13 * row + n) (shows x size row n) p.any (at_row d size x row (unchanged p) n)

module _ (m : Module) (p : Parts) {n o : Module} {a b : Bool} (f : Parts → Parts) (g : f p ≡ added p.any (f (unchanged p))) where
  walk_on : Walked p m n a → Walked (f (parts_of n false)) n o b → Walked (f p) m o (a || b)
  walk_on e h = (
    h.0 ∙ ap (λ (l : Module). with_parts l (f (parts_of l false))) e.0 ∙ ap (with_parts m) (sym g),
    (λ i. e.1 i || (h.1 ∙ ap (λ (l : Module). (f (parts_of l false)).any) e.0) i) ∙ ap (λ (q : Parts). q.any) (sym g),
  )

module _ (d size x row : ℕ) (p : Parts) where
  -- while the special function contact is closed
  hidden_row : counted x size row 12 ≡ true → (n : ℕ) → n ≤ 12 → at_row d size x row p n ≡ p
  unfolding at_row shows sight_of
  hidden_row e zero l = refl
  hidden_row e (suc n) l =
      rw (e, lt-ltb n 12 (omega arith)) (ap (at_key d (13 * row + n) Hidden) (hidden_row e n (omega arith)) ∙ hidden_same d (13 * row + n) p)

  pub first_low : first_shown x size row ≤ 12
  unfolding first_shown
  first_low = by_test (λ t. cond t 12 0 ≤ 12) (counted x size row 12) (λ _. omega arith) (λ _. omega arith)

  pub row_none : p ≡ at_row d size x row p (first_shown x size row)
  unfolding at_row first_shown
  row_none =
      by_test (λ t. counted x size row 12 ≡ t → p ≡ at_row d size x row p (cond t 12 0)) (counted x size row 12)
      (λ e _. sym (hidden_row e 12 (omega arith))) (λ _ _. refl) refl

  -- from there on every key is in sight
  in_sight : (col : ℕ) → first_shown x size row ≤ col → shows x size row col ≡ sight_of false (counted x size row col)
  unfolding shows first_shown
  in_sight col =
      by_test (λ t. cond t 12 0 ≤ col → sight_of (ltb col 12 && t) (counted x size row col) ≡ sight_of false (counted x size row col)) (counted x size row 12)
      (λ _ l. rw (le-ltb col 12 l)) (λ _ _. rw (and-false (ltb col 12)))

  pub row_next : (m : Module) (col : ℕ) {n l : Module} {a b : Bool} {o : Sight} → first_shown x size row ≤ col
      → Walked (at_row d size x row p col) m n a → o ≡ sight_of false (counted x size row col)
      → Walked (at_key d (13 * row + col) o (parts_of n false)) n l b → Walked (at_row d size x row p (col + 1)) m l (a || b)
  unfolding at_row at_key
  row_next m col low e f g =
      rw (add-one col, in_sight col low, sym f)
      (walk_on m (at_row d size x row p col) (at_key d (13 * row + col) _) refl e g)

module _ (d size : ℕ) (s : List ℕ) (p : Parts) where
  pub rows_none : p ≡ at_rows d size s p 0
  unfolding at_rows
  rows_none = refl

module _ (m : Module) (s : List ℕ) (p : Parts) where
  -- the walk alters neither the bounce nor the size
  pub rows_next : (row : ℕ) {n l : Module} {a b : Bool} → Walked (at_rows m.bounce m.size s p row) m n a
      → Walked (at_row n.bounce n.size (get_or s row 0) row (parts_of n false) 13) n l b → Walked (at_rows m.bounce m.size s p (row + 1)) m l (a || b)
  unfolding at_rows
  rows_next row {n} {l} {a} {b} e f =
      let x = get_or s row 0 in
      let q = at_rows m.bounce m.size s p row in
      rw (add-one row)
      (walk_on m q (λ r. at_row m.bounce m.size x row r 13) (row_added m.bounce m.size x row q 13) e
      (subst (λ (k : Module). Walked (at_row k.bounce k.size x row (parts_of n false) 13) n l b) e.0 f))

-- ---- settling
not_and : (a b : Bool) → not (a && b) ≡ (not a || not b)
not_and true b = refl
not_and false b = refl

has_run : (n : ℕ) → ltb 0 n ≡ not (eqb n 0)
has_run zero = refl
has_run (suc n) = lt-ltb 0 (suc n) (omega arith) ∙ ap not (sym (ne_eqb (suc n) 0 (λ e. omega arith)))

-- the keys below n have no run
abbrev pub rest_below : List ℕ → ℕ → Bool
rest_below run n = all_below (λ k. eqb (get_or run k 0) 0) n

module _ (run : List ℕ) where
  pub runs_none : false ≡ not (rest_below run 0)
  unfolding all_below
  runs_none = refl

  pub runs_next : (n : ℕ) {b c : Bool} → b ≡ not (rest_below run n) → c ≡ (b || ltb 0 (get_or run n 0)) → c ≡ not (rest_below run (n + 1))
  unfolding all_below
  runs_next n e f = f ∙ (λ i. e i || has_run (get_or run n 0) i) ∙ sym (rw (add-one n) (not_and (rest_below run n) (eqb (get_or run n 0) 0)))

  pub runs_all : {n : ℕ} {b : Bool} → b ≡ not (rest_below run n) → n ≡ 104 → b ≡ runs run
  unfolding runs
  runs_all e all = e ∙ ap (λ (n : ℕ). not (rest_below run n)) all

module _ (m : Module) (s : List ℕ) where
  -- after the look
  abbrev runs_then : List ℕ
  runs_then = table (λ k. (contact_at m s k).run) 104

  settling_run : (k : ℕ) → k < 104 → (contact_at m s k).settling ≡ ltb 0 (get_or runs_then k 0)
  unfolding contact_at
  settling_run k h =
      step_settling (get_or m.held k false) (get_or m.run k 0) (sight s m.size k) m.bounce ∙ ap (ltb 0) (sym (table_at (λ j. (contact_at m s j).run) 104 k 0 h))

  settles_below_lem : (n : ℕ) → n ≤ 104 → settles_below m s n ≡ not (rest_below runs_then n)
  unfolding settles_below
  settles_below_lem zero l = runs_none runs_then
  settles_below_lem (suc k) l =
      runs_next runs_then k (settles_below_lem k (omega arith)) (ap (λ (b : Bool). settles_below m s k || b) (settling_run k (omega arith)))
      ∙ ap (λ (n : ℕ). not (rest_below runs_then n)) (add-one k)

  pub settles_runs : settles_below m s 104 ≡ runs runs_then
  unfolding runs
  settles_runs = settles_below_lem 104 (omega arith)

-- ---- the keys below k are done
abbrev after : Module → Parts → Sleep → Module
after m p z = with_sleep (with_parts m p) z

abbrev done : Module → List ℕ → ℕ → Parts
done m s k = parts (replaced (λ j. (contact_at m s j).held) k m.held) (replaced (λ j. (contact_at m s j).run) k m.run) (put_all (queue_of m) (changes_below m s k)) (some (changes_below m s k))

module _ (m : Module) (s : List ℕ) where
  done_none : parts m.held m.run (queue_of m) false ≡ done m s 0
  unfolding changes_below put_all some
  done_none = λ i. parts (sym (replaced_none (λ j. (contact_at m s j).held) m.held) i) (sym (replaced_none (λ j. (contact_at m s j).run) m.run) i) (queue_of m) false

  module _ (k : ℕ) (in_held : k < length m.held) (in_run : k < length m.run) where
    -- the step from the arrays as they are now is the step from the module's own
    step_now : stepped (get_or (done m s k).held k false) (get_or (done m s k).run k 0) (sight s m.size k) m.bounce ≡ contact_at m s k
    unfolding contact_at
    step_now = rw (replaced_at (λ j. (contact_at m s j).held) m.held k in_held false, replaced_at (λ j. (contact_at m s j).run) m.run k in_run 0)

    -- a change's code is told by how the key is then held, or by its sample
    done_queue : (q : Queue) → (put q (code k (contact_at m s k).held) if (contact_at m s k).changed else q) ≡ (put q (code k (sample s m.size k)) if (contact_at m s k).changed else q)
    done_queue q =
        by_test (λ t. (contact_at m s k).changed ≡ t → cond t (put q (code k (contact_at m s k).held)) q ≡ cond t (put q (code k (sample s m.size k))) q) (contact_at m s k).changed
        (λ e _. ap (λ (b : Bool). put q (code k b)) (changed_sample m s k e)) (λ _ _. refl) refl

    done_next : at_key m.bounce k (sight s m.size k) (done m s k) ≡ done m s (k + 1)
    unfolding at_key
    done_next =
        ap (became k (done m s k)) step_now
        ∙ (λ i. parts (replaced_next (λ j. (contact_at m s j).held) m.held k in_held i) (replaced_next (λ j. (contact_at m s j).run) m.run k in_run i)
        ((done_queue (put_all (queue_of m) (changes_below m s k)) ∙ sym (below_queue m s k (queue_of m))) i) (sym (below_some m s k) i))

  module _ (row : ℕ) (h : row < 8) where
    row_sample : (col : ℕ) → col < 13 → counted (get_or s row 0) m.size row col ≡ sample s m.size (13 * row + col)
    unfolding counted sample key_in
    row_sample col l = rw (place_row row col (omega arith) (omega arith), place_col row col (omega arith) (omega arith))

    row_hidden : (col : ℕ) → col < 13 → (ltb col 12 && counted (get_or s row 0) m.size row 12) ≡ hidden s m.size (13 * row + col)
    row_hidden col l = rw (row_sample 12 (omega arith)) (go (dec_lt col 12))
      where
        go : Dec (col < 12) → (ltb col 12 && sample s m.size (13 * row + 12)) ≡ hidden s m.size (13 * row + col)
        go (yes c) = rw (lt-ltb col 12 c) (sym (hidden_matrix s m.size row (omega arith) col c))
        go (no c) = let last : col ≡ 12 = omega arith in rw last (sym (hidden_special s m.size row (omega arith)))

    row_sight : (col : ℕ) → col < 13 → shows (get_or s row 0) m.size row col ≡ sight s m.size (13 * row + col)
    unfolding shows sight
    row_sight col l = λ i. sight_of (row_hidden col l i) (row_sample col l i)

    module _ (long-held : length m.held ≡ 104) (long-run : length m.run ≡ 104) where
      done_below : (n : ℕ) → n ≤ 13 → at_row m.bounce m.size (get_or s row 0) row (done m s (13 * row)) n ≡ done m s (13 * row + n)
      unfolding at_row
      done_below zero l = simp unary_clauses
      done_below (suc n) l =
          (λ i. at_key m.bounce (13 * row + n) (row_sight n (omega arith) i) (done_below n (omega arith) i))
          ∙ done_next (13 * row + n) (omega arith) (omega arith) ∙ ap (done m s) (omega arith)

      done_row : at_row m.bounce m.size (get_or s row 0) row (done m s (13 * row)) 13 ≡ done m s (13 * suc row)
      done_row = done_below 13 (omega arith) ∙ ap (done m s) (omega arith)

  module _ (long-held : length m.held ≡ 104) (long-run : length m.run ≡ 104) where
    done_rows : (n : ℕ) → n ≤ 8 → at_rows m.bounce m.size s (done m s 0) n ≡ done m s (13 * n)
    unfolding at_rows
    done_rows zero l = refl
    done_rows (suc row) l = ap (λ (o : Parts). at_row m.bounce m.size (get_or s row 0) row o 13) (done_rows row (omega arith)) ∙ done_row row (omega arith) long-held long-run

  module _ (still : Still m.size m.held m.run) (long-held : length m.held ≡ 104) (long-run : length m.run ≡ 104) where
    module _ (k : ℕ) (low : 13 * (m.size / 16) ≤ k) (h : k < 104) where
      out : key_in m.size k ≡ false
      unfolding key_in in_size
      out = rw (row_yes k h, le-ltb (k / 13) (m.size / 16) (omega arith))

      at_rest : contact_at m s k ≡ record { held = false; run = 0; changed = false; settling = false }
      at_rest = out_rests m s k out (still.keys k h out).0 (still.keys k h out).1

      done_still : done m s k ≡ done m s (k + 1)
      unfolding at_key
      done_still =
          (λ i. parts (sym (stays_held) i) (sym (stays_run) i) (put_all (queue_of m) (changes_below m s k)) (sym (or-false (some (changes_below m s k))) i))
          ∙ ap (became k (done m s k)) (sym (step_now k (omega arith) (omega arith) ∙ at_rest)) ∙ done_next k (omega arith) (omega arith)
        where
          stays_held : set (done m s k).held k false ≡ (done m s k).held
          stays_held = ap (set (done m s k).held k) (sym (replaced_at (λ j. (contact_at m s j).held) m.held k (omega arith) false ∙ (still.keys k h out).0)) ∙ set-get_or (done m s k).held k false

          stays_run : set (done m s k).run k 0 ≡ (done m s k).run
          stays_run = ap (set (done m s k).run k) (sym (replaced_at (λ j. (contact_at m s j).run) m.run k (omega arith) 0 ∙ (still.keys k h out).1)) ∙ set-get_or (done m s k).run k 0

    done_on : (n : ℕ) → 13 * (m.size / 16) + n ≤ 104 → done m s (13 * (m.size / 16)) ≡ done m s (13 * (m.size / 16) + n)
    done_on zero l = simp unary_clauses
    done_on (suc n) l = done_on n (omega arith) ∙ done_still (13 * (m.size / 16) + n) (omega arith) (omega arith) ∙ ap (done m s) (omega arith)

    done_rest : (row : ℕ) → row ≡ m.size / 16 → {p : Parts} → p ≡ done m s (13 * row) → p ≡ done m s 104
    done_rest row all e = let few = still.rows in e ∙ ap (λ (r : ℕ). done m s (13 * r)) all ∙ done_on (104 - 13 * (m.size / 16)) (omega arith) ∙ ap (done m s) (omega arith)

  module _ {p : Parts} {k : ℕ} (e : p ≡ done m s k) (all : k ≡ 104) (long-held : length m.held ≡ 104) (long-run : length m.run ≡ 104) where
    done_parts : p ≡ parts (table (λ j. (contact_at m s j).held) 104) (table (λ j. (contact_at m s j).run) 104) (put_all (queue_of m) (changes m s)) (some (changes m s))
    unfolding changes
    done_parts = e ∙ ap (done m s) all ∙ (λ i. parts (replaced_all (λ j. (contact_at m s j).held) m.held 104 long-held i) (replaced_all (λ j. (contact_at m s j).run) m.run 104 long-run i) (put_all (queue_of m) (changes_below m s 104)) (some (changes_below m s 104)))

    done_state : (z : Sleep) → z ≡ asleep.counted (sleep_of m) (calm m s) → after m p z ≡ with_queue (contacts m s) (put_all (queue_of m) (changes m s))
    unfolding contacts
    done_state z f = λ i. after m (done_parts i) (f i)

    done_any : (b : Bool) → p.any ≡ b → some (changes m s) ≡ b
    done_any b f = sym (ap (λ (o : Parts). o.any) done_parts) ∙ f

    -- the count goes by change and runs
    done_calm : (b : Bool) → p.any ≡ b → calm m s ≡ not (b || runs p.run)
    done_calm b f =
        calm_stirred m s b (done_any b f)
        ∙ ap (λ (t : Bool). not (b || t)) (settles_runs m s ∙ ap (λ (o : Parts). runs o.run) (sym done_parts))

    done_all : (b : Bool) → p.any ≡ b → (z : Sleep) → z ≡ asleep.counted (sleep_of m) (not (b || runs p.run)) → (noticed (after m p z) if b else after m p z) ≡ looked m s
    done_all b f z g =
        ap (λ (n : Module). noticed n if b else n) (done_state z (g ∙ ap (asleep.counted (sleep_of m)) (sym (done_calm b f)))) ∙ sym (looked_noticed m s b (done_any b f))

  module _ (still : Still m.size m.held m.run) (long-held : length m.held ≡ 104) (long-run : length m.run ≡ 104) where
    pub walked : {n : Module} {any : Bool} → Walked (at_rows m.bounce m.size s (parts_of m false) (m.size / 16)) m n any
        → (noticed (with_sleep n (asleep.counted (sleep_of n) (not (any || runs n.run)))) if any else with_sleep n (asleep.counted (sleep_of n) (not (any || runs n.run)))) ≡ looked m s
    walked {any = any} e =
        let rows = m.size / 16 in
        let all = ap (λ (o : Parts). at_rows m.bounce m.size s o rows) done_none ∙ done_rows long-held long-run rows still.rows in
        ap (λ (l : Module). noticed (with_sleep l (asleep.counted (sleep_of l) (not (any || runs l.run)))) if any else with_sleep l (asleep.counted (sleep_of l) (not (any || runs l.run)))) e.0
        ∙ done_all (done_rest still long-held long-run rows refl all) refl long-held long-run any (sym e.1) _ refl
