-- SOUNDNESS IS WHAT DOCUMENT 01 SAYS, no more and no less.
--
--    code_said, said_code      a byte that is judged a code of a key in the size is one, and back
--    four_said, said_four      the four marks
--    run_said, said_key        a key's run, and the key
--    sound_said, said_sound    THE STATE IS JUDGED SOUND EXACTLY WHEN THE SENTENCES HOLD
-- Assumes nothing.
use Prim.Native.Nat.{ℕ, zero, suc, ◌+◌, ◌*◌, ◌-◌, ◌/◌, ◌%◌, ◌≤◌, ◌<◌}
use native.Mathlib.Omega.{arith}
use mathlib.Core.Path.{◌≡◌, refl, sym, ap, ◌∙◌, subst}
use mathlib.Core.Logic.{◌⊎◌, inl, inr}
use mathlib.Core.Bool.{Bool, true, false, not, ◌&&◌, ◌||◌}
use mathlib.Core.List.{List}
use lib.ListN.{length, get_or, take, drop, length-take, length-drop}
use lib.Seq.{get_or-take, get_or-drop}
use lib.Dec.{eqb, leb}
use borrow.Author.Tests.{le-leb, leb-true, leb-false, eqb-true, eqb-false, eq-eqb, ne_eqb, le-ltb}
use Rattle.words.proofs.Laws.{true_false, and_left, and_right, and_both}
use Rattle.words.proofs.Lists.{by_test, all_at, all_of}
use Rattle.keys.specs.Keys.{is_key, key_at, row_of, key_of, acceptable, in_size, key_in}
use Rattle.keys.proofs.Laws.{key_row, key_col, place_row, place_col, back_row, back_col, rows_most}
use Rattle.state.specs.declared.Module.{Module}
use Rattle.state.specs.Module.{queue_of}
use Rattle.state.specs.Queue.{waiting}
use Rattle.state.specs.Typed.{Typed}
use Rattle.picture.specs.Picture.{all_read}
use Rattle.sound.specs.Sound.{key_sound, codes_sound, rest_unused, sound}
use Rattle.sound.specs.Said.{Code, Said}
use Rattle.sound.proofs.Laws.{sound_facts, facts_sound, sound_out}

-- ---- codes
low_part : (c : ℕ) → c < 256 → (c ≡ 16 * (c % 128 / 16) + c % 16) ⊎ (c ≡ 16 * (c % 128 / 16) + c % 16 + 128)
low_part c h = go (leb c 127) refl
  where
    go : (b : Bool) → leb c 127 ≡ b → (c ≡ 16 * (c % 128 / 16) + c % 16) ⊎ (c ≡ 16 * (c % 128 / 16) + c % 16 + 128)
    go true e = let l : c ≤ 127 = leb-true c 127 e in inl (omega arith)
    go false e = let l : 127 < c = leb-false c 127 e in inr (omega arith)

in_place : (size row col : ℕ) → row ≤ 7 → col ≤ 12 → key_in size (key_at row col) ≡ in_size size row col
unfolding key_in
in_place size row col r c = rw (back_row row col r c, back_col row col r c)

at_place : (size row col : ℕ) → row ≤ 7 → col ≤ 12 → key_in size (13 * row + col) ≡ in_size size row col
unfolding key_in
at_place size row col r c = rw (place_row row col r c, place_col row col r c)

no_key_in : (size : ℕ) → acceptable size ≡ true → key_in size 104 ≡ false
unfolding key_in in_size row_of
no_key_in size ok = rw (le-ltb 8 (size / 16) (rows_most size ok))

none_of : (c : ℕ) → is_key (c % 128 / 16) (c % 16) ≡ false → key_of c ≡ 104
unfolding key_of key_at
none_of c t = rw t

code_said : (size c : ℕ) → acceptable size ≡ true → c < 256 → key_in size (key_of c) ≡ true → Code size c
unfolding key_of
code_said size c ok h e = go (is_key (c % 128 / 16) (c % 16)) refl
  where
    go : (b : Bool) → is_key (c % 128 / 16) (c % 16) ≡ b → Code size c
    go true t =
        let r = key_row (c % 128 / 16) (c % 16) t in
        let l = key_col (c % 128 / 16) (c % 16) t in
        record { row = c % 128 / 16; col = c % 16; row_low = r; col_low = l; within = sym (in_place size (c % 128 / 16) (c % 16) r l) ∙ e; is = low_part c h }
    go false t = true_false (sym e ∙ ap (key_in size) (none_of c t) ∙ no_key_in size ok)

said_code : (size c : ℕ) → Code size c → key_in size (key_of c) ≡ true
unfolding key_of
said_code size c k = rw (parts.0, parts.1) (in_place size k.row k.col k.row_low k.col_low ∙ k.within)
  where
    go : (c ≡ 16 * k.row + k.col) ⊎ (c ≡ 16 * k.row + k.col + 128) → (c % 128 / 16 ≡ k.row) × (c % 16 ≡ k.col)
    go (inl e) = let r = k.row_low in let l = k.col_low in (omega arith, omega arith)
    go (inr e) = let r = k.row_low in let l = k.col_low in (omega arith, omega arith)

    parts : (c % 128 / 16 ≡ k.row) × (c % 16 ≡ k.col)
    parts = go k.is

-- ---- the four marks
four_said : (seen : List Bool) → all_read seen ≡ false → ((n : ℕ) → n < 4 → get_or seen n false ≡ true) → ⊥
unfolding all_read
four_said seen e h =
    true_false (sym (and_both (get_or seen 0 false && get_or seen 1 false) (get_or seen 2 false && get_or seen 3 false)
    (and_both (get_or seen 0 false) (get_or seen 1 false) (h 0 (omega arith)) (h 1 (omega arith)))
    (and_both (get_or seen 2 false) (get_or seen 3 false) (h 2 (omega arith)) (h 3 (omega arith)))) ∙ e)

marks_at_lem : (seen : List Bool) → all_read seen ≡ true → (n : ℕ) → n < 4 → get_or seen n false ≡ true
unfolding all_read
marks_at_lem seen e zero h = and_left (get_or seen 0 false) (get_or seen 1 false) (and_left (get_or seen 0 false && get_or seen 1 false) (get_or seen 2 false && get_or seen 3 false) e)
marks_at_lem seen e (suc zero) h = and_right (get_or seen 0 false) (get_or seen 1 false) (and_left (get_or seen 0 false && get_or seen 1 false) (get_or seen 2 false && get_or seen 3 false) e)
marks_at_lem seen e (suc (suc zero)) h = and_left (get_or seen 2 false) (get_or seen 3 false) (and_right (get_or seen 0 false && get_or seen 1 false) (get_or seen 2 false && get_or seen 3 false) e)
marks_at_lem seen e (suc (suc (suc zero))) h = and_right (get_or seen 2 false) (get_or seen 3 false) (and_right (get_or seen 0 false && get_or seen 1 false) (get_or seen 2 false && get_or seen 3 false) e)
marks_at_lem seen e (suc (suc (suc (suc n)))) h = absurd (omega arith)

said_four : (seen : List Bool) → (((n : ℕ) → n < 4 → get_or seen n false ≡ true) → ⊥) → all_read seen ≡ false
said_four seen h = go (all_read seen) refl
  where
    go : (b : Bool) → all_read seen ≡ b → all_read seen ≡ false
    go false e = e
    go true e = absurd (h (marks_at_lem seen e))

-- ---- a key
pub run_said : (size k : ℕ) (held : Bool) (run : ℕ) → key_sound size k held run ≡ true → run ≤ 254
unfolding key_sound
run_said size k held run e = leb-true run 254 (and_right (key_in size k || (not held && eqb run 0)) (leb run 254) e)

pub said_key : (size k : ℕ) (held : Bool) (run : ℕ) → (key_in size k ≡ false → (held ≡ false) × (run ≡ 0)) → run ≤ 254 → key_sound size k held run ≡ true
unfolding key_sound
said_key size k held run out low =
    and_both (key_in size k || (not held && eqb run 0)) (leb run 254)
    (by_test (λ b. (b || (not held && eqb run 0)) ≡ true) (key_in size k) (λ e. refl)
    (λ e. and_both (not held) (eqb run 0) (ap not (out e).0) (eq-eqb run 0 (out e).1)))
    (le-leb run 254 low)

-- ---- "Number 8 is given exactly otherwise"
module _ (m : Module) (t : Typed m) where
  long : (n : ℕ) → n ≤ 15 → length (take n m.queue) ≡ n
  long n h = let e = t.places in length-take n m.queue ∙ omega arith

  behind : (n : ℕ) → length (drop n m.queue) ≡ 15 - n
  behind n = length-drop n m.queue ∙ ap (λ (x : ℕ). x - n) t.places

  code_at : codes_sound m.size (queue_of m) ≡ true → acceptable m.size ≡ true → m.count ≤ 15 → (i : ℕ) → i < m.count → Code m.size (get_or m.queue i 0)
  unfolding codes_sound waiting
  code_at e ok few i h =
      let n = m.count in
      let l = long n few in
      code_said m.size (get_or m.queue i 0) ok (t.bytes i)
      (ap (λ (c : ℕ). key_in m.size (key_of c)) (sym (get_or-take n m.queue i 0 h)) ∙ all_at (λ c. key_in m.size (key_of c)) 0 (take n m.queue) e i (omega arith))

  rest_at : rest_unused (queue_of m) ≡ true → (i : ℕ) → m.count ≤ i → i < 15 → get_or m.queue i 0 ≡ 0x7F
  unfolding rest_unused
  rest_at e i a b =
      let n = m.count in
      let l = behind n in
      let j : n + (i - n) ≡ i = omega arith in
      ap (λ (x : ℕ). get_or m.queue x 0) (sym j) ∙ sym (get_or-drop n m.queue (i - n) 0)
      ∙ eqb-true (get_or (drop n m.queue) (i - n) 0) 0x7F (all_at (λ c. eqb c 0x7F) 0 (drop n m.queue) e (i - n) (omega arith))

  pub sound_said : sound m ≡ true → Said m
  sound_said e =
      let f = sound_facts m e in
      record {
        size = f.size;
        out = λ row col r c o. sound_out m e (13 * row + col) (omega arith) (at_place m.size row col r c ∙ o);
        low = λ row col r c. run_said m.size (13 * row + col) (get_or m.held (13 * row + col) false) (get_or m.run (13 * row + col) 0) (f.keys (13 * row + col) (omega arith));
        few = f.few;
        codes = code_at f.codes f.size f.few;
        rest = rest_at f.rest;
        mask = f.mask;
        marks = four_said m.seen f.marks;
        counted = f.counted;
        sleeps = λ a. eqb-true m.quiet 255 (sym f.asleep ∙ a);
        wakes = λ a. eqb-false m.quiet 255 (sym f.asleep ∙ a);
      }

  module _ (s : Said m) where
    key_at_lem : (row col : ℕ) → row ≤ 7 → col ≤ 12 → key_sound m.size (13 * row + col) (get_or m.held (13 * row + col) false) (get_or m.run (13 * row + col) 0) ≡ true
    key_at_lem row col r c =
        said_key m.size (13 * row + col) (get_or m.held (13 * row + col) false) (get_or m.run (13 * row + col) 0)
        (λ e. s.out row col r c (sym (at_place m.size row col r c) ∙ e)) (s.low row col r c)

    all_keys : (k : ℕ) → k < 104 → key_sound m.size k (get_or m.held k false) (get_or m.run k 0) ≡ true
    all_keys k h =
        let j : 13 * (k / 13) + k % 13 ≡ k = omega arith in
        subst (λ (x : ℕ). key_sound m.size x (get_or m.held x false) (get_or m.run x 0) ≡ true) j (key_at_lem (k / 13) (k % 13) (omega arith) (omega arith))

    all_codes : codes_sound m.size (queue_of m) ≡ true
    unfolding codes_sound waiting
    all_codes =
        let n = m.count in
        let few = s.few in
        let l = long n few in
        all_of (λ c. key_in m.size (key_of c)) 0 (take n m.queue) (λ i h.
        ap (λ (c : ℕ). key_in m.size (key_of c)) (get_or-take n m.queue i 0 (omega arith)) ∙ said_code m.size (get_or m.queue i 0) (s.codes i (omega arith)))

    all_rest_of : rest_unused (queue_of m) ≡ true
    unfolding rest_unused
    all_rest_of =
        let n = m.count in
        let l = behind n in
        all_of (λ c. eqb c 0x7F) 0 (drop n m.queue) (λ i h.
        eq-eqb (get_or (drop n m.queue) i 0) 0x7F (get_or-drop n m.queue i 0 ∙ s.rest (n + i) (omega arith) (omega arith)))

    asleep_exactly : (b : Bool) → m.asleep ≡ b → m.asleep ≡ eqb m.quiet 255
    asleep_exactly true e = e ∙ sym (eq-eqb m.quiet 255 (s.sleeps e))
    asleep_exactly false e = e ∙ sym (ne_eqb m.quiet 255 (s.wakes e))

    pub said_sound : sound m ≡ true
    said_sound =
        facts_sound m
        (record {
          size = s.size;
          keys = all_keys;
          few = s.few;
          codes = all_codes;
          rest = all_rest_of;
          mask = s.mask;
          marks = said_four m.seen s.marks;
          counted = s.counted;
          asleep = asleep_exactly m.asleep refl;
        })
