-- Facts of the sheet, for every past.
--
--    code_is           the code of a key's change is a code
--    changes_all       what is true of the code of every key's change is true of a look's changes
--    waiting_most      "at most 15 codes wait"
--    waiting_all       what is true of the codes of every key is true of the codes that wait
--    waiting_codes     every code that waits is one; code-real: so it is not 0x7F; waiting-bytes: and is a byte
--    progress          a byte of EVTCODE is 0x7F only when nothing waits
--    never_all         "the four picture registers aren't all marked read"
--    mask_low          "KBDMSK is at most 0x0F"
--    after_reset_lem       after reset every register reads as the table says
--    nth_none, nth_first, nth_next    the picture's registers, one held key after the other
-- Assumes nothing.
use Prim.Native.Nat.{ℕ, zero, suc, ◌+◌, ◌%◌, ◌≤◌, ◌<◌}
use native.Mathlib.Numerals.{add-one}
use native.Mathlib.Nat.{le_refl}
use native.Mathlib.Decide.{dec_lt}
use native.Mathlib.Omega.{arith}
use mathlib.Core.Path.{◌≡◌, refl, sym}
use mathlib.Core.Bool.{Bool, true, false, cond}
use mathlib.Core.List.{List, [], ◌∷◌, ◌++◌}
use borrow.Author.Tests.{lt-leb, le-leb, lt-ltb, ne_eqb, eqb-true}
use lib.Dec.{ltb, eqb, leb-zero, leb-suc-suc}
use lib.ListN.{length, drop, length-drop}
use Rattle.words.specs.Words.{all, among, some, bit, without}
use Rattle.words.proofs.Laws.{true_false, all_first, all_below_lem}
use Rattle.keys.specs.Keys.{is_key, key_at, code, is_code, key_of, sample}
use Rattle.keys.proofs.Laws.{code_key, code_byte}
use Rattle.contact.specs.Contact.{held_after}
use Rattle.pins.specs.Rules as pins
use Rattle.registers.specs.declared.Register.{Register}
use Rattle.registers.specs.declared.Register.TheVariants.{KBDBOUNCE, KBDSIZE, KBDRIS, KBDMIS, KBDIC, KBDMSK, KBDCODE, EVTCODE, RSTINTCLR, PIN, Unknown}
use Rattle.registers.specs.Registers.{◌is◌, pictured, after_reset}
use Rattle.sheet.specs.Sheet.{Past, looked, wrote, got, beside, bounce, size, mask, changed, change, changes_below, changes, waiting, oldest, relint, all_read, marks, rsint, rklint, flags, revtint, ris, mis, history, held, held_below, nth, picture, kept_at, byte_of}
use Rattle.sheet.proofs.Opened.{opened}
use Rattle.words.proofs.Lists.{by_test, all_none, all_one, all_append, all_take, all_drop, take_most}

pub code_is : (k : ℕ) (closed : Bool) → k < 104 → is_code (code k closed) ≡ true
unfolding is_code key_of key_at
code_is k closed h =
    let c = code k closed in
    by_test (λ t. t ≡ true) (is_code c) (λ e. refl) (λ e. let none : 104 ≡ k = rw e at (code_key k closed h) in absurd (omega arith))

-- ---- the queue
module _ (s : List ℕ) (past : Past) (f : ℕ → Bool) (h : (k : ℕ) → k < 104 → changed k s past ≡ true → f (code k (sample s (size past) k)) ≡ true) where
  change_all : (k : ℕ) → k < 104 → all f (change k s past) ≡ true
  unfolding change
  change_all k l =
      let c = code k (sample s (size past) k) in
      by_test (λ t. all f (cond t (c ∷ []) []) ≡ true) (changed k s past) (λ e. all_one f c (h k l e)) (λ e. all_none f)

  changes_all_below : (n : ℕ) → n ≤ 104 → all f (changes_below n s past) ≡ true
  unfolding changes_below
  changes_all_below zero l = all_none f
  changes_all_below (suc k) l = all_append f (changes_below k s past) (change k s past) (changes_all_below k (omega arith)) (change_all k l)

  pub changes_all : all f (changes s past) ≡ true
  unfolding changes
  changes_all = changes_all_below 104 (le_refl 104)

-- "at most 15 codes wait"
pub waiting_most : (past : Past) → length (waiting past) ≤ 15
unfolding waiting
waiting_most [] = omega arith
waiting_most (looked s ∷ past) = take_most 15 (waiting past ++ changes s past)
waiting_most (wrote r b ∷ past) = by_test (λ t. length (cond t [] (waiting past)) ≤ 15) (r is KBDSIZE) (λ e. omega arith) (λ e. waiting_most past)
waiting_most (got r ∷ past) =
    let most = waiting_most past in
    by_test (λ t. length (cond t (drop 1 (waiting past)) (waiting past)) ≤ 15) (r is EVTCODE) (λ e. rw (length-drop 1 (waiting past)) (omega arith)) (λ e. most)
waiting_most (beside e ∷ past) = waiting_most past

module _ (f : ℕ → Bool) (h : (k : ℕ) (closed : Bool) → k < 104 → f (code k closed) ≡ true) where
  pub waiting_all : (past : Past) → all f (waiting past) ≡ true
  unfolding waiting
  waiting_all [] = all_none f
  waiting_all (looked s ∷ past) =
      all_take f 15 (waiting past ++ changes s past)
      (all_append f (waiting past) (changes s past) (waiting_all past) (changes_all s past f (λ k l e. h k (sample s (size past) k) l)))
  waiting_all (wrote r b ∷ past) = by_test (λ t. all f (cond t [] (waiting past)) ≡ true) (r is KBDSIZE) (λ e. all_none f) (λ e. waiting_all past)
  waiting_all (got r ∷ past) =
      let old = waiting_all past in
      by_test (λ t. all f (cond t (drop 1 (waiting past)) (waiting past)) ≡ true) (r is EVTCODE) (λ e. all_drop f (waiting past) old) (λ e. old)
  waiting_all (beside e ∷ past) = waiting_all past

-- "each a press or release code"
pub waiting_codes : (past : Past) → all is_code (waiting past) ≡ true
waiting_codes = waiting_all is_code code_is

pub waiting_bytes : (past : Past) → all (λ c. ltb c 256) (waiting past) ≡ true
waiting_bytes = waiting_all (λ c. ltb c 256) (λ k closed l. lt-ltb (code k closed) 256 (code_byte k closed))

-- "0x7F means no key"
pub code_real : (c : ℕ) → is_code c ≡ true → c ≡ 0x7F → ⊥
unfolding is_code is_key
code_real c e f = let g : is_code 0x7F ≡ true = rw f at e in true_false (sym g)

-- "its empty mark": a byte of EVTCODE is 0x7F only when nothing waits
pub progress : (past : Past) → byte_of EVTCODE past ≡ 0x7F → waiting past ≡ []
unfolding byte_of oldest
progress past = go (waiting past) (waiting_codes past)
  where
    go : (w : List ℕ) → all is_code w ≡ true → oldest w ≡ 0x7F → w ≡ []
    go [] h e = refl
    go (c ∷ w) h e = absurd (code_real c (all_first is_code c w h) e)

-- ---- the picture
-- "the four picture registers aren't all marked read"
pub never_all : (past : Past) → all_read (marks past) ≡ false
unfolding marks all_read among
never_all [] = refl
never_all (looked s ∷ past) = by_test (λ t. all_read (cond t [] (marks past)) ≡ false) (some (changes s past)) (λ e. refl) (λ e. never_all past)
never_all (wrote r b ∷ past) = by_test (λ t. all_read (cond t [] (marks past)) ≡ false) (r is KBDSIZE) (λ e. refl) (λ e. never_all past)
never_all (got r ∷ past) =
    let read = pictured r ++ marks past in
    by_test (λ t. all_read (cond t [] read) ≡ false) (all_read read) (λ e. refl) (λ e. e)
never_all (beside e ∷ past) = never_all past

pub nth_none : (n : ℕ) → nth n [] ≡ 0x7F
unfolding nth
nth_none n = rw leb-zero

pub nth_first : (c : ℕ) (l : List ℕ) → nth 0 (c ∷ l) ≡ c + cond (some l) 128 0
unfolding nth some
nth_first c [] = refl
nth_first c (d ∷ l) = rw (lt-leb (suc (suc (length l))) 0 (omega arith), lt-ltb 1 (suc (suc (length l))) (omega arith))

pub nth_next : (n c : ℕ) (l : List ℕ) → nth (suc n) (c ∷ l) ≡ nth n l
unfolding nth
nth_next n c l =
    let more : ltb (suc n + 1) (suc (length l)) ≡ ltb (n + 1) (length l) = rw (add-one (suc n), add-one n) (leb-suc-suc (suc (suc n)) (length l)) in
    rw (leb-suc-suc (length l) n, more)

-- ---- the settings
-- "KBDMSK is at most 0x0F"
pub mask_low : (past : Past) → mask past ≤ 0x0F
unfolding mask
mask_low [] = omega arith
mask_low (looked s ∷ past) = mask_low past
mask_low (wrote r b ∷ past) = by_test (λ t. cond t (b % 16) (mask past) ≤ 15) (r is KBDMSK) (λ e. omega arith) (λ e. mask_low past)
mask_low (got r ∷ past) = mask_low past
mask_low (beside e ∷ past) = mask_low past

-- a register of the pins: below 0xDC by computing, from there on each reads as it is kept
pin_low : (a : ℕ) → a < 0xDC → byte_of (PIN a) [] ≡ after_reset (PIN a)
unfolding opened
pin_low a h = eqb-true (byte_of (PIN a) []) (after_reset (PIN a)) (all_below_lem (λ n. eqb (byte_of (PIN n) []) (after_reset (PIN n))) 0xDC refl a h)

pin_high : (a : ℕ) → 0xDC ≤ a → byte_of (PIN a) [] ≡ after_reset (PIN a)
unfolding byte_of after_reset kept_at pins.reads pins.is_data
pin_high a h =
    rw (
      ne_eqb a 0x91 (λ e. omega arith),
      ne_eqb a 0xC0 (λ e. omega arith),
      ne_eqb a 0xC2 (λ e. omega arith),
      ne_eqb a 0xC4 (λ e. omega arith),
      le-leb 0xD6 a (omega arith),
      lt-leb a 0xD8 (omega arith),
      le-leb 0xD9 a (omega arith),
      lt-leb a 0xDB (omega arith),
    )

pin_reset : (a : ℕ) → byte_of (PIN a) [] ≡ after_reset (PIN a)
pin_reset a = go (dec_lt a 0xDC)
  where
    go : Dec (a < 0xDC) → byte_of (PIN a) [] ≡ after_reset (PIN a)
    go (yes h) = pin_low a h
    go (no h) = pin_high a (omega (arith, h))

-- the column "After reset"
pub after_reset_lem : (r : Register) → byte_of r [] ≡ after_reset r
unfolding byte_of after_reset bounce size mask oldest waiting ris mis flags revtint relint rklint rsint picture held_below held history held_after without bit some
after_reset_lem KBDBOUNCE = refl
after_reset_lem KBDSIZE = refl
after_reset_lem KBDRIS = refl
after_reset_lem KBDMIS = refl
after_reset_lem KBDIC = refl
after_reset_lem KBDMSK = refl
after_reset_lem (KBDCODE n) = nth_none n
after_reset_lem EVTCODE = refl
after_reset_lem RSTINTCLR = refl
after_reset_lem (PIN a) = pin_reset a
after_reset_lem Unknown = refl
