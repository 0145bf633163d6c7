-- Laws of what is judged by a call's arguments alone.
--
--    high_yes, high_no                  bits 13 to 15, told by one comparison; narrow: the same of all samples
--    fits_size, fits_other              what is asked of a byte for KBDSIZE, and of one for another register
--    sizes_end, sizes_no, sizes_yes     no byte is left; one is not acceptable; one is, and the rest decides
--    samples_decline, access_declines   no line gives the number of a call that is done
--    eight_samples                      a look whose samples are not declined has eight
--    write_err, write_rest              a write is declined as an access, by what was told of it, or else by its bytes alone
--    read_allowed                       a read that is not declined may be done at each of its addresses
--    key_there                          a row and a column that are not declined are those of a key
-- Assumes nothing.
use Prim.Native.Nat.{ℕ, ◌+◌, ◌/◌, ◌%◌, ◌≤◌, ◌<◌}
use native.Mathlib.Numerals.{add-one}
use native.Mathlib.Omega.{arith}
use mathlib.Core.Path.{◌≡◌, refl, sym, ap, ◌∙◌}
use mathlib.Core.Bool.{Bool, true, false, not, ◌||◌, true≢false}
use mathlib.Core.List.{List, [], ◌∷◌}
use lib.ListN.{length, get_or, drop, drop_of_length-le}
use lib.Seq.{drop-cons}
use lib.Dec.{eqb, ltb}
use borrow.Author.Tests.{ne_eqb, eqb-true, eqb-false, not-false}
use Rattle.std.specs.Bool.{MatchBool}
use Rattle.std.specs.List.{HoldsAt, AllWithin}
use Rattle.std.proofs.lemmas.List.Recursion.{and_is}
use Rattle.words.specs.Words.{all, bit}
use Rattle.numbers.specs.Numbers.{◌gives◌, number_of, done, not_eight, no_bytes, too_many, not_allowed, bad_size, no_key}
use Rattle.numbers.proofs.Laws.{declining, line_false, err_first, ok_rest}
use Rattle.numbers.specs.declared.Refusal.{Refusal}
use Rattle.numbers.specs.Refusals.{number}
use Rattle.keys.specs.Keys.{is_key, key_at, acceptable}
use Rattle.keys.proofs.Laws.{key_row, key_col, key_low}
use Rattle.registers.specs.declared.Access.{Access}
use Rattle.registers.specs.declared.Access.TheVariants.{Read, Write}
use Rattle.registers.specs.declared.Register.{Register}
use Rattle.registers.specs.declared.Register.TheVariants.{KBDBOUNCE, KBDSIZE, KBDRIS, KBDMIS, KBDIC, KBDMSK, KBDCODE, EVTCODE, RSTINTCLR, PIN, Unknown}
use Rattle.registers.specs.Registers.{register_at, ◌is◌, address}
use Rattle.registers.specs.Runs.{next, run_allowed}
use Rattle.judge.specs.Lines.{high, sample_lines, access_lines, byte_fits, sizes_fit, read_lines, write_lines, key_lines}

-- a number below twice a bit's weight, with that bit 0, is below the weight
low15 : (x : ℕ) → x < 0x10000 → (x / 32768 % 2 ≡ 1 → ⊥) → x < 32768
low15 x h n = omega arith

low14 : (x : ℕ) → x < 32768 → (x / 16384 % 2 ≡ 1 → ⊥) → x < 16384
low14 x h n = omega arith

low13 : (x : ℕ) → x < 16384 → (x / 8192 % 2 ≡ 1 → ⊥) → x < 8192
low13 x h n = omega arith

module _ (x : ℕ) where
  pub high_no : x < 0x2000 → not (high x) ≡ true
  unfolding high bit
  high_no h =
      rw (ne_eqb (x / 8192 % 2) 1 (λ e. omega arith), ne_eqb (x / 16384 % 2) 1 (λ e. omega arith), ne_eqb (x / 32768 % 2) 1 (λ e. omega arith))

  pub high_yes : 0x2000 ≤ x → x < 0x10000 → not (high x) ≡ false
  unfolding high bit
  high_yes h l = go (eqb (x / 8192 % 2) 1) (eqb (x / 16384 % 2) 1) (eqb (x / 32768 % 2) 1) refl refl refl
    where
      go : (a b c : Bool) → eqb (x / 8192 % 2) 1 ≡ a → eqb (x / 16384 % 2) 1 ≡ b → eqb (x / 32768 % 2) 1 ≡ c → not (a || b || c) ≡ false
      go true b c ea eb ec = refl
      go false true c ea eb ec = refl
      go false false true ea eb ec = refl
      go false false false ea eb ec = absurd (omega (arith, low13 x (low14 x (low15 x l (eqb-false _ 1 ec)) (eqb-false _ 1 eb)) (eqb-false _ 1 ea)))

-- what `all` answered of a look's samples
pub narrow : (s : List ℕ) (r : Bool) → ((i : ℕ) → get_or s i 0 < 0x10000)
    → MatchBool r (AllWithin (λ x. x < 0x2000) s 0 (length s)) ((i : ℕ) × (i < length s) × HoldsAt (λ x. 0x2000 ≤ x) s i)
    → r ≡ all (λ x. not (high x)) s
unfolding all
narrow s true f h =
    and_is (all (λ x. not (high x))) (λ x. not (high x)) refl (λ _ _. refl) s 0 true (λ _ i l. high_no _ (h i 0 (omega arith) l)) (λ e. absurd (true≢false e))
narrow s false f h =
    and_is (all (λ x. not (high x))) (λ x. not (high x)) refl (λ _ _. refl) s 0 false (λ e. absurd (true≢false (sym e))) (λ _. (h.0, h.1, high_yes _ (h.2 0) (f h.0)))

module _ (b : ℕ) where
  pub fits_size : (r : Register) → r ≡ KBDSIZE → byte_fits r b ≡ acceptable b
  unfolding byte_fits ◌is◌ address
  fits_size r e = rw e

  pub fits_other : (r : Register) → (r ≡ KBDSIZE → ⊥) → byte_fits r b ≡ true
  unfolding byte_fits ◌is◌ address
  fits_other KBDBOUNCE h = refl
  fits_other KBDSIZE h = absurd (h refl)
  fits_other KBDRIS h = refl
  fits_other KBDMIS h = refl
  fits_other KBDIC h = refl
  fits_other KBDMSK h = refl
  fits_other (KBDCODE n) h = refl
  fits_other EVTCODE h = refl
  fits_other RSTINTCLR h = refl
  fits_other (PIN a) h = refl
  fits_other Unknown h = refl

module _ (a : ℕ) (bs : List ℕ) (i : ℕ) where
  pub sizes_end : length bs ≤ i → sizes_fit a (drop i bs) ≡ true
  unfolding sizes_fit
  sizes_end h = rw (drop_of_length-le bs h)

  module _ (r : Register) (b : Bool) (h : i < length bs) (er : r ≡ register_at a) (eb : b ≡ byte_fits r (get_or bs i 0)) where
    fit_at : byte_fits (register_at a) (get_or bs i 0) ≡ b
    fit_at = sym (eb ∙ ap (λ (k : Register). byte_fits k (get_or bs i 0)) er)

    pub sizes_no : b ≡ false → sizes_fit a (drop i bs) ≡ false
    unfolding sizes_fit
    sizes_no e = rw (drop-cons bs i 0 h, fit_at, e)

    pub sizes_yes : b ≡ true → (a' : ℕ) → a' ≡ next a → sizes_fit a (drop i bs) ≡ sizes_fit a' (drop (i + 1) bs)
    unfolding sizes_fit
    sizes_yes e a' en = rw (drop-cons bs i 0 h, fit_at, e, add-one i, en)

-- no line of a look's samples or of an access gives the number of a call that is done
pub samples_decline : (s : List ℕ) → declining (sample_lines s) ≡ true
unfolding declining sample_lines
samples_decline s = refl

access_declines : (way : Access) (a n : ℕ) → declining (access_lines way a n) ≡ true
unfolding declining access_lines
access_declines way a n = refl

-- a look that is not declined by its samples has eight
pub eight_samples : (s : List ℕ) → number_of (sample_lines s) ≡ done → length s ≡ 8
unfolding sample_lines
eight_samples s e =
    let eight = line_false [] (not (eqb (length s) 8)) not_eight _ (samples_decline s) e in
    eqb-true (length s) 8 (not-false _ eight)

-- a write is declined as an access, by what was told of it
pub write_err : (a : ℕ) (bs : List ℕ) (r : Refusal) → number r ≡ number_of (access_lines Write a (length bs)) → number r ≡ number_of (write_lines a bs)
unfolding write_lines
write_err a bs r e = err_first (access_lines Write a (length bs)) (not (sizes_fit a bs) gives bad_size ∷ []) r e

-- or else by its bytes alone
pub write_rest : (a : ℕ) (bs : List ℕ) → done ≡ number_of (access_lines Write a (length bs)) → number_of (not (sizes_fit a bs) gives bad_size ∷ []) ≡ number_of (write_lines a bs)
unfolding write_lines
write_rest a bs e =
    ok_rest (access_lines Write a (length bs)) (not (sizes_fit a bs) gives bad_size ∷ []) (access_declines Write a (length bs)) e

-- a read that is not declined may be done at each of its addresses
pub read_allowed : (a n : ℕ) → number_of (read_lines a n) ≡ done → run_allowed Read a n ≡ true
unfolding read_lines access_lines
read_allowed a n e =
    not-false (run_allowed Read a n)
    (line_false (eqb n 0 gives no_bytes ∷ ltb 32 n gives too_many ∷ []) (not (run_allowed Read a n)) not_allowed [] (access_declines Read a n) e)

-- a row and a column that are not declined are those of a key
pub key_there : (row col : ℕ) → number_of (key_lines row col) ≡ done → key_at row col < 104
unfolding key_lines declining
key_there row col e =
    let there = not-false (is_key row col) (line_false [] (not (is_key row col)) no_key [] refl e) in
    key_low row col (key_row row col there) (key_col row col there)
