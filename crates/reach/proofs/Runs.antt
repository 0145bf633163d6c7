-- ANY RUNS up to 254 can be had, under KBDBOUNCE 255, and no code, flag or mark changes by it: by 509 looks, numbered by how many are still to come.
--
--    bounced          KBDBOUNCE written
--    shut b s n       the contact of a row's special function key is closed at look n, and so the row hidden: a key that is open has it closed
--                     in the last s looks, s being the run that it is to have; one that is held has it open in these, and at look 255 and before
--    shows b s n      how many of the last n looks show the row; shows-hidden, shows_more: of one look more
--    due b s n        that key's run when n looks are still to come; due-run: one look less
--    reads p v m      a key of the matrix reads the opposite of how it is held in the last v looks that show it; reads-run: its run
--    as_planned       a look at a key of either kind, which does not change
--    at_rest          an open key that is to have no run reads open, as those out of the size do
--    none_yet, all_there    the runs before all the looks, and after them
--    on n, runs n     the samples of look n, and the runs when n looks are still to come
--    slow_keys        look n makes the runs n of the runs n + 1; slow-flags: and the flags and marks stay
--    any_runs         all the looks
-- Assumes nothing.
use Prim.Native.Nat.{ℕ, zero, suc, ◌+◌, ◌-◌, ◌≤◌, ◌<◌, min}
use native.Mathlib.Omega.{arith}
use mathlib.Core.Path.{◌≡◌, refl, sym, ap, ◌∙◌, subst}
use mathlib.Core.Bool.{Bool, true, false, not, ◌&&◌, cond, or-false, and-false}
use mathlib.Core.List.{List, [], ◌∷◌, ◌++◌, append-nil}
use borrow.Author.Tests.{le-leb, leb-true, leb-false, lt-ltb, le-ltb, ltb-true, ltb-false}
use lib.Dec.{leb, ltb}
use lib.ListN.{length, take}
use lib.Seq.{take-nil}
use Rattle.words.specs.Words.{some}
use Rattle.words.proofs.Laws.{true_false, and_left, and_right}
use Rattle.words.proofs.Lists.{by_test, take_room}
use Rattle.keys.specs.Keys.{col_of, key_in, special, hidden}
use Rattle.keys.proofs.Laws.{special_low, special_col, special_own, special_same}
use Rattle.contact.specs.declared.Contact.{Contact}
use Rattle.contact.specs.Contact.{opposite, stepped, sight_of}
use Rattle.contact.proofs.Laws.{opposite_flips, opposite_stays}
use Rattle.registers.specs.declared.Register.TheVariants.{KBDBOUNCE}
use Rattle.registers.specs.Registers.{◌is◌, address}
use Rattle.sheet.specs.Sheet.{Past, looked, wrote, cleared, bounce, size, history, held, changes, waiting, relint, marks, rsint, rklint, porirq}
use Rattle.sheet.proofs.Facts.{waiting_most}
use Rattle.sheet.proofs.Contacts.{contact_of}
use Rattle.judge.specs.Lines.{byte_fits}
use Rattle.demands.specs.Shown.{run}
use Rattle.reach.proofs.Samples.{samples_of, Within, told_hidden}
use Rattle.reach.proofs.Steps.{possible, doable, Keys, none, calm, unseen, slow, look_can, known_made, no_changes}
use Rattle.reach.proofs.Flags.{Flags, Known}

-- ---- KBDBOUNCE written
module _ (z d : ℕ) (h : ℕ → Bool) (r : ℕ → ℕ) (w : List ℕ) (rs rk re : Bool) (l : List ℕ) where
  pub bounced : (b : ℕ) → b ≤ 255 → Known z d h r w rs rk re l → Known z b h r w rs rk re l
  unfolding doable possible byte_fits ◌is◌ address size bounce held run history waiting porirq rsint rklint relint marks cleared
  bounced b low (past, (t, f)) = (
    wrote KBDBOUNCE b ∷ past,
    (
      record { can = rw (le-leb b 255 low) t.can; its_size = t.its_size; its_bounce = refl; its_held = t.its_held; its_run = t.its_run; its_waiting = t.its_waiting; its_porirq = t.its_porirq },
      record { its_rsint = f.its_rsint; its_rklint = f.its_rklint; its_relint = f.its_relint; its_marks = f.its_marks },
    ),
  )

-- ---- the plan of a row: b is how its special function key is held, s the run that this key is to have
-- its contact is closed at look n
shut : Bool → ℕ → ℕ → Bool
shut false s n = ltb n s
shut true s n = leb s n && ltb n 255

-- how many of the last n looks show the row
shows : Bool → ℕ → ℕ → ℕ
shows false s n = n - s
shows true s n = min n s + (n - 255)

-- its run when n looks are still to come
due : Bool → ℕ → ℕ → ℕ
due false s n = s - n
due true s n = cond (ltb n 255) (s - n) (509 - n)

-- the sample of a key of the matrix, held as p, whose run is to be v, at a look that shows it, m such looks being still to come
reads : Bool → ℕ → ℕ → Bool
reads p v m = cond (ltb m v) (not p) p

shows_hidden : (b : Bool) (s n : ℕ) → shut b s n ≡ true → shows b s (suc n) ≡ shows b s n
unfolding shut shows
shows_hidden false s n e = let a = ltb-true n s e in omega arith
shows_hidden true s n e =
    let a = leb-true s n (and_left (leb s n) (ltb n 255) e) in
    let c = ltb-true n 255 (and_right (leb s n) (ltb n 255) e) in
    omega arith

shows_more : (b : Bool) (s n : ℕ) → s ≤ 254 → shut b s n ≡ false → shows b s (suc n) ≡ suc (shows b s n)
unfolding shut shows
shows_more false s n low e = let a = ltb-false n s e in omega arith
shows_more true s n low e = go (leb s n) (ltb n 255) refl refl e
  where
    go : (x y : Bool) → leb s n ≡ x → ltb n 255 ≡ y → (x && y) ≡ false → min (suc n) s + (suc n - 255) ≡ suc (min n s + (n - 255))
    go false y f g e = let a = leb-false s n f in omega arith
    go true false f g e = let a = leb-true s n f in let c = ltb-false n 255 g in omega arith
    go true true f g e = true_false e

-- one such look more
reads_run : (p : Bool) (v m : ℕ) → cond (opposite p (reads p v m)) (v - suc m + 1) 0 ≡ v - m
unfolding reads
reads_run p v m =
    by_test (λ t. ltb m v ≡ t → cond (opposite p (cond t (not p) p)) (v - suc m + 1) 0 ≡ v - m) (ltb m v)
    (λ e _. let a = ltb-true m v e in ap (λ (b : Bool). cond b (v - suc m + 1) 0) (opposite_flips p) ∙ omega arith)
    (λ e _. let a = ltb-false m v e in ap (λ (b : Bool). cond b (v - suc m + 1) 0) (opposite_stays p) ∙ omega arith) refl

-- one look more at the special function key, whose run stays below 255
due_run : (b : Bool) (s n : ℕ) → s ≤ 254 → n ≤ 508
    → (cond (opposite b (shut b s n)) (due b s (suc n) + 1) 0 ≡ due b s n) × (opposite b (shut b s n) ≡ true → due b s (suc n) + 1 < 255)
unfolding shut due opposite
due_run false s n low few = go (ltb n s) refl
  where
    go : (x : Bool) → ltb n s ≡ x → (cond (opposite false x) (s - suc n + 1) 0 ≡ s - n) × (opposite false x ≡ true → s - suc n + 1 < 255)
    go true e = let a = ltb-true n s e in (omega arith, λ _. omega arith)
    go false e = let a = ltb-false n s e in (omega arith, λ f. true_false (sym f))
due_run true s n low few = go (leb s n) (ltb n 255) refl refl
  where
    go : (x y : Bool) → leb s n ≡ x → ltb n 255 ≡ y
        → (cond (opposite true (x && y)) (due true s (suc n) + 1) 0 ≡ cond y (s - n) (509 - n)) × (opposite true (x && y) ≡ true → due true s (suc n) + 1 < 255)
    go false true f g = let a = leb-false s n f in rw (lt-ltb (suc n) 255 (omega arith)) (omega arith, λ _. omega arith)
    go false false f g = let a = leb-false s n f in let c = ltb-false n 255 g in absurd (omega arith)
    go true true f g = let a = leb-true s n f in (omega arith, λ e. true_false (sym e))
    go true false f g = let c = ltb-false n 255 g in rw (le-ltb (suc n) 255 (omega arith)) (omega arith, λ _. omega arith)

-- ---- the plan of a key of that row: is it of the matrix? It is held as p, and its run is to be v
sample_at : Bool → Bool → ℕ → Bool → ℕ → ℕ → Bool
sample_at matrix p v b s n = cond matrix (reads p v (shows b s n)) (shut b s n)

run_at : Bool → ℕ → Bool → ℕ → ℕ → ℕ
run_at matrix v b s n = cond matrix (v - shows b s n) (due b s n)

as_planned : (matrix p : Bool) (v : ℕ) (b : Bool) (s n : ℕ) → v ≤ 254 → s ≤ 254 → n ≤ 508 → (matrix ≡ false → p ≡ b)
    → stepped p (run_at matrix v b s (suc n)) (sight_of (matrix && shut b s n) (sample_at matrix p v b s n)) 255 ≡ calm p (run_at matrix v b s n)
unfolding sample_at run_at
as_planned true p v b s n v_low low few own =
    by_test (λ t. shut b s n ≡ t → stepped p (v - shows b s (suc n)) (sight_of t (reads p v (shows b s n))) 255 ≡ calm p (v - shows b s n)) (shut b s n)
    (λ e _. unseen p (v - shows b s (suc n)) (reads p v (shows b s n)) 255 ∙ ap (λ (m : ℕ). calm p (v - m)) (shows_hidden b s n e))
    (λ e _.
    let m = shows_more b s n low e in
    slow p (v - shows b s (suc n)) (reads p v (shows b s n)) (λ _. omega arith)
    ∙ ap (λ (x : ℕ). calm p (cond (opposite p (reads p v (shows b s n))) (v - x + 1) 0)) m ∙ ap (calm p) (reads_run p v (shows b s n))) refl
as_planned false p v b s n v_low low few own =
    let d = due_run b s n low few in
    let go : stepped b (due b s (suc n)) (sight_of false (shut b s n)) 255 ≡ calm b (due b s n) =
    slow b (due b s (suc n)) (shut b s n) d.1 ∙ ap (calm b) d.0 in
    subst (λ (x : Bool). stepped x (due b s (suc n)) (sight_of false (shut b s n)) 255 ≡ calm x (due b s n)) (sym (own refl)) go

-- an open key that is to have no run reads open
at_rest : (matrix b : Bool) (s n : ℕ) → (matrix ≡ false → (b ≡ false) × (s ≡ 0)) → sample_at matrix false 0 b s n ≡ false
unfolding sample_at reads shut
at_rest true b s n own = rw (le-ltb (shows b s n) 0 (omega arith)) refl
at_rest false b s n own = let e = own refl in rw (e.0, e.1) (le-ltb n 0 (omega arith))

-- before the first look, and after the last
none_yet : (matrix : Bool) (v : ℕ) (b : Bool) (s : ℕ) → v ≤ 254 → s ≤ 254 → 0 ≡ run_at matrix v b s 509
unfolding run_at shows due
none_yet true v false s v_low low = omega arith
none_yet true v true s v_low low = omega arith
none_yet false v false s v_low low = omega arith
none_yet false v true s v_low low = refl

all_there : (matrix : Bool) (v : ℕ) (b : Bool) (s : ℕ) → (matrix ≡ false → s ≡ v) → run_at matrix v b s 0 ≡ v
unfolding run_at shows due
all_there true v false s own = omega arith
all_there true v true s own = omega arith
all_there false v false s own = let e = own refl in omega arith
all_there false v true s own = let e = own refl in omega arith

-- ---- one look more of all keys
module _ (z : ℕ) (h : ℕ → Bool) (h_ok : Within z h) (r : ℕ → ℕ) (r_ok : (k : ℕ) → k < 104 → key_in z k ≡ false → r k ≡ 0) (r_low : (k : ℕ) → k < 104 → r k ≤ 254) where
  on : ℕ → ℕ → Bool
  on n k = sample_at (ltb (col_of k) 12) (h k) (r k) (h (special k)) (r (special k)) n

  runs : ℕ → ℕ → ℕ
  runs n k = run_at (ltb (col_of k) 12) (r k) (h (special k)) (r (special k)) n

  -- out of the size it is open, and no run is wanted
  on_ok : (n : ℕ) → Within z (on n)
  unfolding on
  on_ok n k l o =
      (λ i. sample_at (ltb (col_of k) 12) (h_ok k l o i) (r_ok k l o i) (h (special k)) (r (special k)) n)
      ∙ at_rest (ltb (col_of k) 12) (h (special k)) (r (special k)) n (λ e. let q = special_own k l e in (ap h q ∙ h_ok k l o, ap r q ∙ r_ok k l o))

  on_special : (n k : ℕ) → k < 104 → on n (special k) ≡ shut (h (special k)) (r (special k)) n
  unfolding on sample_at
  on_special n k l = rw (special_col k l, special_same k l)

  on_hidden : (n k : ℕ) → k < 104 → hidden (samples_of (on n)) z k ≡ (ltb (col_of k) 12 && shut (h (special k)) (r (special k)) n)
  on_hidden n k l = told_hidden (on n) z k l (on_ok n) ∙ ap (λ (x : Bool). ltb (col_of k) 12 && x) (on_special n k l)

  module _ (w : List ℕ) (rs rk re : Bool) (l : List ℕ) (n : ℕ) (few : n ≤ 508) (past : Past) (t : Keys past z 255 h (runs (suc n)) w) where
    slow_made : (k : ℕ) → k < 104 → contact_of (samples_of (on n)) past k ≡ calm (h k) (runs n k)
    unfolding on runs
    slow_made k m =
        known_made past z 255 h (runs (suc n)) w t (on n) (on_ok n) k m
        ∙ ap (λ (x : Bool). stepped (h k) (runs (suc n) k) (sight_of x (on n k)) 255) (on_hidden n k m)
        ∙ as_planned (ltb (col_of k) 12) (h k) (r k) (h (special k)) (r (special k)) n (r_low k m) (r_low (special k) (special_low k m)) few
        (λ e. ap h (sym (special_own k m e)))

    still : changes (samples_of (on n)) past ≡ []
    unfolding contact_of calm
    still = no_changes (samples_of (on n)) past (λ k m. ap (λ (x : Contact). x.changed) (slow_made k m))

    as_before : (v : List ℕ) → length v ≤ 15 → take 15 (v ++ []) ≡ v
    as_before v m = take_room 15 v [] m ∙ ap (λ (x : List ℕ). v ++ x) (take-nil (15 - length v)) ∙ append-nil v

    slow_keys : Keys (looked (samples_of (on n)) ∷ past) z 255 h (runs n) w
    unfolding contact_of run calm size bounce waiting porirq
    slow_keys =
        record {
          can = look_can (on n) past t.can;
          its_size = t.its_size;
          its_bounce = t.its_bounce;
          its_held = λ k m. ap (λ (x : Contact). x.held) (slow_made k m);
          its_run = λ k m. ap (λ (x : Contact). x.run) (slow_made k m);
          its_waiting = ap (λ (x : List ℕ). take 15 (waiting past ++ x)) still ∙ as_before (waiting past) (waiting_most past) ∙ t.its_waiting;
          its_porirq = t.its_porirq;
        }

    not_over : ltb 15 (length (waiting past ++ changes (samples_of (on n)) past)) ≡ false
    not_over = ap (λ (x : List ℕ). ltb 15 (length (waiting past ++ x))) still ∙ ap (λ (x : List ℕ). ltb 15 (length x)) (append-nil (waiting past)) ∙ le-ltb 15 (length (waiting past)) (waiting_most past)

    slow_flags : Flags past rs rk re l → Flags (looked (samples_of (on n)) ∷ past) rs rk re l
    unfolding rsint rklint relint marks some
    slow_flags f =
        record {
          its_rsint = rw still (or-false (rsint past) ∙ f.its_rsint);
          its_rklint = rw (still, and-false (rsint past)) (or-false (rklint past) ∙ f.its_rklint);
          its_relint = rw not_over (or-false (relint past) ∙ f.its_relint);
          its_marks = rw still f.its_marks;
        }

  module _ (w : List ℕ) (rs rk re : Bool) (l : List ℕ) where
    all_on : (n : ℕ) → n ≤ 509 → Known z 255 h (runs n) w rs rk re l → Known z 255 h (runs 0) w rs rk re l
    all_on zero few k = k
    all_on (suc n) few (past, (t, f)) =
        let less : n ≤ 508 = omega arith in
        all_on n (omega arith) (looked (samples_of (on n)) ∷ past, (slow_keys w rs rk re l n less past t, slow_flags w rs rk re l n less past t f))

    -- the same past, its runs said otherwise
    said : (a b : ℕ → ℕ) → ((k : ℕ) → k < 104 → a k ≡ b k) → Known z 255 h a w rs rk re l → Known z 255 h b w rs rk re l
    said a b e (past, (t, f)) =
        (past, (record { can = t.can; its_size = t.its_size; its_bounce = t.its_bounce; its_held = t.its_held; its_run = λ k m. t.its_run k m ∙ e k m; its_waiting = t.its_waiting; its_porirq = t.its_porirq }, f))

    pub any_runs : Known z 1 h none w rs rk re l → Known z 255 h r w rs rk re l
    unfolding runs
    any_runs k =
        said (runs 0) r (λ k m. all_there (ltb (col_of k) 12) (r k) (h (special k)) (r (special k)) (λ e. ap r (special_own k m e)))
        (all_on 509 (omega arith)
        (said none (runs 509) (λ k m. none_yet (ltb (col_of k) 12) (r k) (h (special k)) (r (special k)) (r_low k m) (r_low (special k) (special_low k m)))
        (bounced z 1 h none w rs rk re l 255 (omega arith) k)))
