-- Laws of lists of codes.
--
--    code_key_low                                the key that a code speaks of is a key
--    agrees_no, agrees_yes                       what is no code agrees with no table; a code agrees by what its key was
--    after_out, after_length                     a code of no key leaves a table as it was; every code leaves its length
--    after_told                                  a table's keys after a code, as the replay tells them
--    leading_most, leading_all                   at most all items lead; fewer than all exactly if one fails
--    leading_taken                               as many as `take_while` takes
--    agreeing_most                               at most all codes agree
--    agreeing_end, agreeing_stop, agreeing_go    a list walked from the front, with the keys that are down: its end, a code that stops, one that is passed
--    agreeing_legal                              of codes, fewer than all agree exactly if the list isn't legal
--    down_replayed                               of codes, the keys down after them are those of the replay
--    agreeing_legal_from, down_replayed_from     the same two, with keys down at first
--    opposite_press, opposite_release            the opposite of a press, and of a release
--    opposite_back                               the opposite's opposite
--    opposite_key, opposite_good, opposite_says  it is of the same key, a code if that is one, and says the contrary
--    opposite_code                               it is the code of the contrary change
-- Assumes nothing.
use Prim.Native.Nat.{ℕ, suc, ◌+◌, ◌-◌, ◌/◌, ◌%◌, ◌<◌, ◌≤◌}
use native.Mathlib.Decide.{dec_lt, ℕ_discrete}
use native.Mathlib.Numerals.{add-one}
use native.Mathlib.Omega.{arith}
use mathlib.Core.Path.{◌≡◌, refl, sym, ap, ◌∙◌}
use mathlib.Core.Bool.{Bool, true, false, not, ◌&&◌, beq}
use mathlib.Core.List.{List, [], ◌∷◌}
use lib.ListN.{length, get_or, set, take, drop, length-set, length-replicate, get_or-replicate, drop_of_length-le}
use Rattle.std.specs.List.{prefix_len}
use Rattle.std.proofs.lemmas.List.Folds.{length-prefix_len}
use Rattle.std.proofs.lemmas.List.Recursion.{same_from_clauses}
use lib.Seq.{drop-cons, set_out, get_or-set_same, get_or-set_other}
use lib.Dec.{ltb, eqb}
use borrow.Author.Tests.{lt-ltb, le-ltb, ltb-false, eq-eqb, ne_eqb}
use Rattle.words.specs.Words.{◌if◌, ◌else◌, all}
use Rattle.words.proofs.Laws.{all_first, all_rest}
use Rattle.keys.specs.Keys.{row_of, col_of, is_code, key_of, code}
use Rattle.keys.specs.Replay.{is_press, told, replayed, legal_from, legal}
use Rattle.keys.proofs.Laws.{key_row, key_col, key_low, row_low, col_low, press_is, release_is}
use Rattle.keys.proofs.Replay.{press_says}
use Rattle.codes.specs.Codes.{none_down, agrees, after, down_after, leading, agreeing, opposite}

-- ---- one code
pub code_key_low : (c : ℕ) → is_code c ≡ true → key_of c < 104
unfolding is_code key_of
code_key_low c e = key_low (c % 128 / 16) (c % 16) (key_row (c % 128 / 16) (c % 16) e) (key_col (c % 128 / 16) (c % 16) e)

module _ (t : List Bool) (c : ℕ) where
  pub agrees_no : is_code c ≡ false → agrees t c ≡ false
  unfolding agrees
  agrees_no e = rw e

  pub agrees_yes : is_code c ≡ true → agrees t c ≡ not (beq (is_press c) (get_or t (key_of c) false))
  unfolding agrees
  agrees_yes e = rw e

  pub after_out : length t ≤ key_of c → after t c ≡ t
  unfolding after
  after_out h = set_out t (key_of c) (is_press c) h

  pub after_length : length (after t c) ≡ length t
  unfolding after
  after_length = length-set t (key_of c) (is_press c)

  -- a key after a code, as the replay tells it
  pub after_told : (k : ℕ) → key_of c < length t → get_or (after t c) k false ≡ told k (get_or t k false) c
  unfolding after told
  after_told k h = go (ℕ_discrete k (key_of c))
    where
      go : Dec (k ≡ key_of c) → get_or (set t (key_of c) (is_press c)) k false ≡ (is_press c if eqb (key_of c) k else get_or t k false)
      go (yes e) = rw (e, eq-eqb (key_of c) (key_of c) refl) (get_or-set_same t (key_of c) (is_press c) false h)
      go (no d) = rw (ne_eqb (key_of c) k (λ e. d (sym e))) (get_or-set_other t (key_of c) k (is_press c) false d)

-- ---- the leading items
ltb_next : (a b : ℕ) → ltb (suc a) (suc b) ≡ ltb a b
ltb_next a b = go (dec_lt a b)
  where
    go : Dec (a < b) → ltb (suc a) (suc b) ≡ ltb a b
    go (yes h) = rw (lt-ltb a b h) (lt-ltb (suc a) (suc b) (omega arith))
    go (no h) = rw (le-ltb a b (omega arith)) (le-ltb (suc a) (suc b) (omega arith))

module _ {A : Type 0} (f : A → Bool) where
  module _ (x : A) (l : List A) where
    leading_no : f x ≡ false → leading f (x ∷ l) ≡ 0
    unfolding leading
    leading_no e = rw e

    leading_yes : f x ≡ true → leading f (x ∷ l) ≡ suc (leading f l)
    unfolding leading
    leading_yes e = rw e

  pub leading_most : (l : List A) → leading f l ≤ length l
  unfolding leading
  leading_most [] = omega arith
  leading_most (x ∷ l) = go (f x) refl (leading_most l)
    where
      go : (b : Bool) → f x ≡ b → leading f l ≤ length l → leading f (x ∷ l) ≤ suc (length l)
      go true e h = rw (leading_yes x l e) (omega arith)
      go false e h = rw (leading_no x l e) (omega arith)

  pub leading_all : (l : List A) → ltb (leading f l) (length l) ≡ not (all f l)
  unfolding leading all
  leading_all [] = refl
  leading_all (x ∷ l) = go (f x) refl (leading_all l)
    where
      go : (b : Bool) → f x ≡ b → ltb (leading f l) (length l) ≡ not (all f l) → ltb (leading f (x ∷ l)) (suc (length l)) ≡ not (f x && all f l)
      go true e h = rw (leading_yes x l e, e) (ltb_next (leading f l) (length l) ∙ h)
      go false e h = rw (leading_no x l e, e) (lt-ltb 0 (suc (length l)) (omega arith))

-- `take_while` takes as many
pub leading_taken : {A : Type 0} (f : A → Bool) (l : List A) → length (take (prefix_len f l) l) ≡ leading f l
unfolding leading
leading_taken f l =
    length-prefix_len f l ∙
    same_from_clauses (prefix_len f) (leading f) (λ x n. suc n if f x else 0) refl (λ x xs. ap (λ (n : ℕ). n if f x else 0) (omega arith)) (λ _ _. refl) l

-- ---- the codes that agree
module _ (t : List Bool) (c : ℕ) (cs : List ℕ) where
  agreeing_no : agrees t c ≡ false → agreeing t (c ∷ cs) ≡ 0
  unfolding agreeing
  agreeing_no e = rw e

  agreeing_yes : agrees t c ≡ true → agreeing t (c ∷ cs) ≡ suc (agreeing (after t c) cs)
  unfolding agreeing
  agreeing_yes e = rw e

pub agreeing_most : (t : List Bool) (cs : List ℕ) → agreeing t cs ≤ length cs
unfolding agreeing
agreeing_most t [] = omega arith
agreeing_most t (c ∷ cs) = go (agrees t c) refl (agreeing_most (after t c) cs)
  where
    go : (b : Bool) → agrees t c ≡ b → agreeing (after t c) cs ≤ length cs → agreeing t (c ∷ cs) ≤ suc (length cs)
    go true e h = rw (agreeing_yes t c cs e) (omega arith)
    go false e h = rw (agreeing_no t c cs e) (omega arith)

-- n agree in the whole list; i were passed, with the keys of the table t down now, and what is left begins at place i
module _ (t : List Bool) (l : List ℕ) (i n : ℕ) (so : n ≡ i + agreeing t (drop i l)) where
  pub agreeing_end : length l ≤ i → n ≡ i
  unfolding agreeing
  agreeing_end h = let e : n ≡ i + 0 = rw (drop_of_length-le l h) at so in omega arith

  pub agreeing_stop : i < length l → agrees t (get_or l i 0) ≡ false → n ≡ i
  agreeing_stop h e =
      let none = agreeing_no t (get_or l i 0) (drop (suc i) l) e in
      let s : n ≡ i + agreeing t (get_or l i 0 ∷ drop (suc i) l) = rw (drop-cons l i 0 h) at so in
      omega arith

  pub agreeing_go : i < length l → agrees t (get_or l i 0) ≡ true → n ≡ i + 1 + agreeing (after t (get_or l i 0)) (drop (i + 1) l)
  agreeing_go h e =
      let one = agreeing_yes t (get_or l i 0) (drop (suc i) l) e in
      let s : n ≡ i + agreeing t (get_or l i 0 ∷ drop (suc i) l) = rw (drop-cons l i 0 h) at so in
      rw (add-one i) (omega arith)

-- ---- legality and the replay
-- the table has the keys that are down, and every key that a code may speak of has a place in it
pub agreeing_legal_from : (t : List Bool) (down : ℕ → Bool) (s : List ℕ) → length t ≡ 104 → ((k : ℕ) → k < 104 → get_or t k false ≡ down k)
    → all is_code s ≡ true → ltb (agreeing t s) (length s) ≡ not (legal_from down s)
unfolding agreeing legal_from
agreeing_legal_from t down [] n same good = refl
agreeing_legal_from t down (c ∷ cs) n same good =
    let key = code_key_low c (all_first is_code c cs good) in
    let placed : key_of c < length t = omega arith in
    let says = agrees_yes t c (all_first is_code c cs good) ∙ ap (λ (b : Bool). not (beq (is_press c) b)) (same (key_of c) key) in
    go (not (beq (is_press c) (down (key_of c)))) says
    (agreeing_legal_from (after t c) (λ k. told k (down k) c) cs (after_length t c ∙ n)
    (λ k h. after_told t c k placed ∙ ap (λ (b : Bool). told k b c) (same k h)) (all_rest is_code c cs good))
  where
    go : (b : Bool) → agrees t c ≡ b → ltb (agreeing (after t c) cs) (length cs) ≡ not (legal_from (λ k. told k (down k) c) cs)
        → ltb (agreeing t (c ∷ cs)) (suc (length cs)) ≡ not (b && legal_from (λ k. told k (down k) c) cs)
    go true e rest = rw (agreeing_yes t c cs e) (ltb_next (agreeing (after t c) cs) (length cs) ∙ rest)
    go false e rest = rw (agreeing_no t c cs e) (lt-ltb 0 (suc (length cs)) (omega arith))

none_length : length none_down ≡ 104
unfolding none_down
none_length = length-replicate 104 false

none_down_lem : (k : ℕ) → k < 104 → get_or none_down k false ≡ false
unfolding none_down
none_down_lem k h = get_or-replicate 104 k false false h

pub agreeing_legal : (s : List ℕ) → all is_code s ≡ true → ltb (agreeing none_down s) (length s) ≡ not (legal s)
unfolding legal
agreeing_legal s good = agreeing_legal_from none_down (λ k. false) s none_length none_down_lem good

pub down_replayed_from : (t : List Bool) (s : List ℕ) → length t ≡ 104 → all is_code s ≡ true → (k : ℕ) → get_or (down_after t s) k false ≡ replayed k (get_or t k false) s
unfolding down_after replayed
down_replayed_from t [] n good k = refl
down_replayed_from t (c ∷ cs) n good k =
    let key = code_key_low c (all_first is_code c cs good) in
    let placed : key_of c < length t = omega arith in
    down_replayed_from (after t c) cs (after_length t c ∙ n) (all_rest is_code c cs good) k ∙ ap (λ (b : Bool). replayed k b cs) (after_told t c k placed)

pub down_replayed : (s : List ℕ) → all is_code s ≡ true → (k : ℕ) → k < 104 → get_or (down_after none_down s) k false ≡ replayed k false s
down_replayed s good k h = down_replayed_from none_down s none_length good k ∙ ap (λ (b : Bool). replayed k b s) (none_down_lem k h)

-- ---- the opposite
pub opposite_press : (c : ℕ) → is_press c ≡ true → opposite c ≡ c + 128
unfolding opposite
opposite_press c e = rw e

pub opposite_release : (c : ℕ) → is_press c ≡ false → opposite c ≡ c - 128
unfolding opposite
opposite_release c e = rw e

-- of a byte
module _ (c : ℕ) (h : c < 256) where
  pub opposite_says : is_press (opposite c) ≡ not (is_press c)
  unfolding is_press
  opposite_says = go (is_press c) refl
    where
      go : (b : Bool) → is_press c ≡ b → ltb (opposite c) 128 ≡ not b
      go true e = rw (opposite_press c e) (le-ltb (c + 128) 128 (omega arith))
      go false e = let l = ltb-false c 128 e in rw (opposite_release c e) (lt-ltb (c - 128) 128 (omega arith))

  pub opposite_back : opposite (opposite c) ≡ c
  unfolding is_press
  opposite_back = go (is_press c) refl
    where
      go : (b : Bool) → is_press c ≡ b → opposite (opposite c) ≡ c
      go true e = let o = opposite_press c e in opposite_release (opposite c) (opposite_says ∙ ap not e) ∙ omega arith
      go false e =
          let o = opposite_release c e in
          let l = ltb-false c 128 e in
          opposite_press (opposite c) (opposite_says ∙ ap not e) ∙ omega arith

  opposite_low : (opposite c % 128 / 16 ≡ c % 128 / 16) × (opposite c % 16 ≡ c % 16)
  unfolding is_press
  opposite_low = go (is_press c) refl
    where
      go : (b : Bool) → is_press c ≡ b → (opposite c % 128 / 16 ≡ c % 128 / 16) × (opposite c % 16 ≡ c % 16)
      go true e = let o = opposite_press c e in (omega arith, omega arith)
      go false e = let o = opposite_release c e in let l = ltb-false c 128 e in (omega arith, omega arith)

  pub opposite_key : key_of (opposite c) ≡ key_of c
  unfolding key_of
  opposite_key = rw (opposite_low.0, opposite_low.1)

  pub opposite_good : is_code (opposite c) ≡ is_code c
  unfolding is_code
  opposite_good = rw (opposite_low.0, opposite_low.1)

-- the code of a release is that of the press, and 128
code_release : (k : ℕ) → k < 104 → code k false ≡ code k true + 128
unfolding code
code_release k h =
    let p = press_is (row_of k) (col_of k) (row_low k h) (col_low k h) in
    let r = release_is (row_of k) (col_of k) (row_low k h) (col_low k h) in
    omega arith

pub opposite_code : (k : ℕ) (closed : Bool) → k < 104 → opposite (code k closed) ≡ code k (not closed)
opposite_code k true h = opposite_press (code k true) (press_says k true h) ∙ sym (code_release k h)
opposite_code k false h = let e = code_release k h in opposite_release (code k false) (press_says k false h) ∙ omega arith
