-- ANY CODES of keys in the size, in any order, can be made to wait.
--
--    put h k p        the keys h, with k put so
--    lone k p         every key open, with k put so
--    lone_clear       from one way to the other: k is not hidden, and what is hidden is open and stays so
--    off_clear        a look with all keys open hides none
--    begin            KBDBOUNCE 1, then the size
--    turned           a look that turns a lone key: its code is added
--    Waits z w        after some past, with some keys held, the codes w wait
--    filled           n codes, whatever they are: the first row's special function key pressed and released in turn
--    told_code        a code of a key in the size, as key and way
--    one_more_lem         if 15 wait, the oldest goes and a given code comes: every key is first opened, then the one put the other way,
--                     unheard since 15 wait, then a code is fetched, and then the key is put as the code says
--    all_more         the same for a list of codes
-- Assumes nothing.
use Prim.Native.Nat.{ℕ, zero, suc, ◌+◌, ◌*◌, ◌/◌, ◌%◌, ◌-◌, ◌≤◌, ◌<◌}
use native.Mathlib.Omega.{arith}
use mathlib.Core.Path.{◌≡◌, refl, sym, ap, ◌∙◌, subst}
use mathlib.Core.Logic.{◌⊎◌, inl, inr}
use mathlib.Core.Bool.{Bool, true, false, not, ◌&&◌, cond, or-true}
use mathlib.Core.List.{List, [], ◌∷◌, ◌++◌, append-nil, append_assoc}
use borrow.Author.Tests.{eq-eqb, ne_eqb, le-leb, leb-true, lt-ltb, eqb-true}
use lib.Dec.{eqb, leb, ltb}
use lib.ListN.{length, get_or, take, drop, length-append}
use lib.Seq.{take-nil}
use Rattle.words.specs.Words.{all}
use Rattle.words.proofs.Laws.{true_false, and_left}
use Rattle.words.proofs.Lists.{by_test, take_room}
use Rattle.keys.specs.Keys.{code, acceptable, in_size, key_in, row_of, col_of, special, hidden}
use Rattle.keys.proofs.Laws.{rows_most, place_row, place_col, press_is, release_is, special_col}
use Rattle.contact.specs.Contact.{samples, held_after, run_of}
use Rattle.registers.specs.declared.Register.TheVariants.{KBDBOUNCE, KBDSIZE, EVTCODE}
use Rattle.registers.specs.Registers.{◌is◌, address, pictured}
use Rattle.sheet.specs.Sheet.{Past, looked, wrote, got, bounce, size, history, held, changes, waiting, porirq}
use Rattle.judge.specs.Lines.{byte_fits}
use Rattle.sound.specs.Said.{Code}
use Rattle.demands.specs.Shown.{run}
use Rattle.reach.proofs.Samples.{samples_of, Within, told_hidden}
use Rattle.reach.proofs.Steps.{possible, doable, Keys, none, Clear, clear_open, clear_one, look_to, look_full, look_one}

pub twice : (b : Bool) → b ≡ not (not b)
twice true = refl
twice false = refl

-- ---- one key put so
unfoldable pub put : (ℕ → Bool) → ℕ → Bool → ℕ → Bool
put h k p j = cond (eqb j k) p (h j)

pub put_at : (h : ℕ → Bool) (k : ℕ) (p : Bool) → put h k p k ≡ p
unfolding put
put_at h k p = rw (eq-eqb k k refl)

pub put_else : (h : ℕ → Bool) (k : ℕ) (p : Bool) (j : ℕ) → (j ≡ k → ⊥) → put h k p j ≡ h j
unfolding put
put_else h k p j n = rw (ne_eqb j k n)

pub put_within : (z : ℕ) (h : ℕ → Bool) (k : ℕ) (p : Bool) → key_in z k ≡ true → Within z h → Within z (put h k p)
unfolding put
put_within z h k p e ok j l o =
    by_test (λ t. eqb j k ≡ t → cond t p (h j) ≡ false) (eqb j k)
    (λ y _. true_false (sym e ∙ ap (key_in z) (sym (eqb-true j k y)) ∙ o)) (λ n _. ok j l o) refl

-- ---- one key put so, and every other open
unfoldable pub lone : ℕ → Bool → ℕ → Bool
lone k p = put (λ _. false) k p

pub lone_at : (k : ℕ) (p : Bool) → lone k p k ≡ p
unfolding lone
lone_at k p = put_at (λ _. false) k p

lone_off : (k j : ℕ) → lone k false j ≡ false
unfolding lone put
lone_off k j = by_test (λ t. cond t false false ≡ false) (eqb j k) (λ _. refl) (λ _. refl)

lone_else : (k : ℕ) (p q : Bool) (j : ℕ) → (j ≡ k → ⊥) → lone k p j ≡ lone k q j
unfolding lone
lone_else k p q j n = put_else (λ _. false) k p j n ∙ sym (put_else (λ _. false) k q j n)

module _ (z k : ℕ) (e : key_in z k ≡ true) where
  pub lone_within : (p : Bool) → Within z (lone k p)
  unfolding lone
  lone_within p = put_within z (λ _. false) k p e (λ _ _ _. refl)

  -- its row's special function key is itself, which hides only others, or is open
  lone_seen : (p : Bool) → k < 104 → hidden (samples_of (lone k p)) z k ≡ false
  unfolding lone
  lone_seen p l =
      told_hidden (lone k p) z k l (lone_within p)
      ∙ by_test (λ t. ltb (col_of k) 12 ≡ t → (t && lone k p (special k)) ≡ false) (ltb (col_of k) 12)
      (λ m _. put_else (λ _. false) k p (special k) (λ o. true_false (sym m ∙ sym (ap (λ (x : ℕ). ltb (col_of x) 12) o) ∙ ap (λ (x : ℕ). ltb x 12) (special_col k l))))
      (λ _ _. refl) refl

  pub lone_clear : (p q : Bool) → k < 104 → Clear z (lone k q) (lone k p)
  lone_clear p q l = clear_one z (lone k q) (lone k p) k (lone_seen p l) (lone_else k p q)

  -- nothing is closed, so nothing is hidden
  pub off_clear : (h : ℕ → Bool) → Clear z h (lone k false)
  off_clear h = clear_open z h (lone k false) (lone_within false) (λ j _ _. lone_off k j)

-- ---- the beginning: KBDBOUNCE 1, then the size
pub begun : ℕ → Past
begun z = wrote KBDSIZE z ∷ wrote KBDBOUNCE 1 ∷ []

begun_can : (z : ℕ) → acceptable z ≡ true → doable (begun z) ≡ true
unfolding begun doable possible byte_fits ◌is◌ address
begun_can z ok = let r = rows_most z ok in rw (le-leb z 255 (omega arith), ok)

pub begin : (z : ℕ) → acceptable z ≡ true → (k : ℕ) → Keys (begun z) z 1 (lone k false) none []
unfolding begun size bounce held run history held_after run_of samples waiting porirq ◌is◌ address
begin z ok k =
    record {
      can = begun_can z ok;
      its_size = refl;
      its_bounce = refl;
      its_held = λ j l. sym (lone_off k j);
      its_run = λ j l. refl;
      its_waiting = refl;
      its_porirq = refl;
    }

-- ---- one code more
-- a lone key, put the other way
pub turned : (past : Past) (z k : ℕ) (p : Bool) (w : List ℕ) → Keys past z 1 (lone k (not p)) none w → k < 104 → key_in z k ≡ true → length w < 15
    → Keys (looked (samples_of (lone k p)) ∷ past) z 1 (lone k p) none (w ++ (code k p ∷ []))
turned past z k p w t l e n =
    let f = lone k p in
    let h = lone k (not p) in
    let ok = lone_within z k e p in
    let clear = lone_clear z k e p (not p) l in
    let c : changes (samples_of f) past ≡ code k p ∷ [] =
    look_one past z h w t f ok clear k l (lone_at k p ∙ twice p ∙ ap not (sym (lone_at k (not p)))) (lone_else k p (not p))
    ∙ ap (λ (b : Bool). code k b ∷ []) (lone_at k p) in
    let m : 15 - length w ≡ suc (14 - length w) = omega arith in
    look_to past z h w t f ok clear (w ++ (code k p ∷ []))
    (ap (λ (x : List ℕ). take 15 (w ++ x)) c ∙ take_room 15 w (code k p ∷ []) (omega arith)
    ∙ ap (λ (x : ℕ). w ++ take x (code k p ∷ [])) m ∙ ap (λ (x : List ℕ). w ++ (code k p ∷ x)) (take-nil (14 - length w)))

module _ (past : Past) (z : ℕ) (h : ℕ → Bool) (w : List ℕ) (t : Keys past z 1 h none w) where
  pub got_code : Keys (got EVTCODE ∷ past) z 1 h none (drop 1 w)
  unfolding doable possible all pictured size bounce held run history waiting porirq ◌is◌ address
  got_code =
      record {
        can = t.can;
        its_size = t.its_size;
        its_bounce = t.its_bounce;
        its_held = t.its_held;
        its_run = t.its_run;
        its_waiting = ap (drop 1) t.its_waiting;
        its_porirq = t.its_porirq;
      }

-- after some past, with some keys held, these codes wait
abbrev pub Waits : ℕ → List ℕ → Type 0
Waits z w = (past : Past) × ((h : ℕ → Bool) × Keys past z 1 h none w)

-- ---- 15 codes, whatever they are
-- the first row's special function key is in every size
pub first_in_lem : (z : ℕ) → acceptable z ≡ true → key_in z 12 ≡ true
unfolding key_in in_size row_of col_of acceptable
first_in_lem z ok =
    let rows : 2 ≤ z / 16 = leb-true 2 (z / 16) (and_left (leb 2 (z / 16)) _ (and_left (leb 2 (z / 16) && leb (z / 16) 8) _ ok)) in
    rw (lt-ltb 0 (z / 16) (omega arith)) (or-true (ltb 12 (z % 16)))

-- n codes wait, and that key alone may be held; p is how it goes next
abbrev InTurn : ℕ → ℕ → Type 0
InTurn z n = (w : List ℕ) × ((length w ≡ n) × ((past : Past) × ((p : Bool) × Keys past z 1 (lone 12 (not p)) none w)))

in_turn : (z : ℕ) → acceptable z ≡ true → (n : ℕ) → n ≤ 15 → InTurn z n
in_turn z ok zero l = ([], (refl, (begun z, (true, begin z ok 12))))
in_turn z ok (suc n) l = go (in_turn z ok n (omega arith))
  where
    go : InTurn z n → InTurn z (suc n)
    go (w, (e, (past, (p, t)))) =
        let v : List ℕ = w ++ (code 12 p ∷ []) in
        let past₁ : Past = looked (samples_of (lone 12 p)) ∷ past in
        let t₁ = turned past z 12 p w t (omega arith) (first_in_lem z ok) (omega arith) in
        (v, (length-append w (code 12 p ∷ []) ∙ omega arith, (past₁, (not p, subst (λ (b : Bool). Keys past₁ z 1 (lone 12 b) none v) (twice p) t₁))))

pub filled : (z : ℕ) → acceptable z ≡ true → (n : ℕ) → n ≤ 15 → (w : List ℕ) × ((length w ≡ n) × Waits z w)
filled z ok n l = go (in_turn z ok n l)
  where
    go : InTurn z n → (w : List ℕ) × ((length w ≡ n) × Waits z w)
    go (w, (e, (past, (p, t)))) = (w, (e, (past, (lone 12 (not p), t))))

-- ---- a code, whatever it is, for the oldest
pub record Told (z c : ℕ) : Type 0 where
  pub key : ℕ
  pub way : Bool
  pub low : key < 104
  pub inside : key_in z key ≡ true
  pub its_code : c ≡ code key way

pub told_code : (z c : ℕ) → Code z c → Told z c
unfolding code key_in
told_code z c d = go d.is
  where
    r : d.row ≤ 7
    r = d.row_low

    l : d.col ≤ 12
    l = d.col_low

    go : (c ≡ 16 * d.row + d.col) ⊎ (c ≡ 16 * d.row + d.col + 128) → Told z c
    go (inl e) = record { key = 13 * d.row + d.col; way = true; low = omega arith; inside = rw (place_row d.row d.col r l, place_col d.row d.col r l) d.within; its_code = rw (place_row d.row d.col r l, place_col d.row d.col r l, press_is d.row d.col r l) e }
    go (inr e) = record { key = 13 * d.row + d.col; way = false; low = omega arith; inside = rw (place_row d.row d.col r l, place_col d.row d.col r l) d.within; its_code = rw (place_row d.row d.col r l, place_col d.row d.col r l, release_is d.row d.col r l) e }

module _ (z : ℕ) where
  pub one_more_lem : (x : ℕ) (w : List ℕ) (c : ℕ) → Told z c → length (x ∷ w) ≡ 15 → Waits z (x ∷ w) → Waits z (w ++ (c ∷ []))
  one_more_lem x w c d n (past, (h, t)) =
      let k = d.key in
      let p = d.way in
      let e = d.inside in
      let t₁ = look_full past z h (x ∷ w) t (lone k false) (lone_within z k e false) (off_clear z k e h) n in
      let past₁ : Past = looked (samples_of (lone k false)) ∷ past in
      let f = lone k (not p) in
      let t₂ = look_full past₁ z (lone k false) (x ∷ w) t₁ f (lone_within z k e (not p)) (lone_clear z k e (not p) false d.low) n in
      let past₂ : Past = looked (samples_of f) ∷ past₁ in
      let past₃ : Past = got EVTCODE ∷ past₂ in
      let t₃ = turned past₃ z k p w (got_code past₂ z f (x ∷ w) t₂) d.low e (omega arith) in
      let past₄ : Past = looked (samples_of (lone k p)) ∷ past₃ in
      (past₄, (lone k p, subst (λ (y : ℕ). Keys past₄ z 1 (lone k p) none (w ++ (y ∷ []))) (sym d.its_code) t₃))

  -- j is what is left of the 15 that waited first
  pub all_more : (rest j l : List ℕ) → ((i : ℕ) → i < length rest → Told z (get_or rest i 0)) → length (j ++ l) ≡ 15 → length rest ≤ length j → Waits z (j ++ l)
      → (j' : List ℕ) × ((length (j' ++ (l ++ rest)) ≡ 15) × Waits z (j' ++ (l ++ rest)))
  all_more [] j l d n m t = (j, (ap (λ (y : List ℕ). length (j ++ y)) (append-nil l) ∙ n, subst (λ (y : List ℕ). Waits z (j ++ y)) (sym (append-nil l)) t))
  all_more (c ∷ rest) [] l d n m t = absurd (omega arith)
  all_more (c ∷ rest) (x ∷ j) l d n m t =
      let e : (j ++ l) ++ (c ∷ []) ≡ j ++ (l ++ (c ∷ [])) = append_assoc j l (c ∷ []) in
      let t' = subst (Waits z) e (one_more_lem x (j ++ l) c (d 0 (omega arith)) n t) in
      let n' : length (j ++ (l ++ (c ∷ []))) ≡ 15 = ap length (sym e) ∙ length-append (j ++ l) (c ∷ []) ∙ omega arith in
      let all = all_more rest j (l ++ (c ∷ [])) (λ i g. d (suc i) (omega arith)) n' (omega arith) t' in
      subst (λ (y : List ℕ). (j' : List ℕ) × ((length (j' ++ y) ≡ 15) × Waits z (j' ++ y))) (append_assoc l (c ∷ []) rest) all
