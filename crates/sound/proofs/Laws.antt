-- Laws of soundness.
--
--    sound_facts, facts_sound   computed or as facts, it is the same
--    sound_size, sound_count    the size and the count alone can decide
--    sound_in_turn              the state is sound if the code's tests, one after the other, say so
--    told_by                    a test of each item of a list
--    fresh_sound                the state after reset is sound
--    sound_out                  a key out of the size is open and has no run
--    keys_yes, keys_no          a row of keys is sound, or one is not
-- Assumes nothing.
use Prim.Native.Nat.{ℕ, ◌+◌, ◌*◌, ◌<◌, ◌≤◌}
use native.Mathlib.Omega.{arith}
use mathlib.Core.Path.{◌≡◌, refl, sym, ap, ◌∙◌}
use mathlib.Core.Bool.{Bool, true, false, not, ◌&&◌, ◌||◌, beq, and_assoc, and-true}
use mathlib.Core.List.{List}
use lib.ListN.{length, get_or}
use lib.Dec.{leb, eqb}
use borrow.Author.Tests.{le-leb, lt-leb, leb-true, eqb-true, not-true}
use Rattle.words.specs.Words.{every, all, all_below}
use Rattle.std.specs.Prelude.{◌↔◌}
use Rattle.words.proofs.Lists.{all_at, all_of}
use Rattle.words.proofs.Laws.{true_false, and_left, and_right, every_none, every_no, every_later, every_first, every_rest, every_cons, all_below_lem, below_all}
use Rattle.keys.specs.Keys.{acceptable, row_of, col_of, in_size, key_in}
use Rattle.keys.proofs.Laws.{place_row, place_col}
use Rattle.keys.proofs.Rows.{rows_yes, rows_no}
use Rattle.state.specs.declared.Module.{Module}
use Rattle.state.specs.Module.{fresh, forgotten, queue_of}
use Rattle.state.specs.Queue.{waiting}
use Rattle.picture.specs.Picture.{all_read}
use Rattle.sound.specs.Sound.{key_sound, place_sound, keys_sound, codes_sound, rest_unused, sound, Sound}

beq_same : (a b : Bool) → beq a b ≡ true → a ≡ b
beq_same true true e = refl
beq_same true false e = true_false (sym e)
beq_same false true e = true_false (sym e)
beq_same false false e = refl

same_beq : (a b : Bool) → a ≡ b → beq a b ≡ true
same_beq true true e = refl
same_beq true false e = sym e
same_beq false true e = e
same_beq false false e = refl

-- a test of each item of a list
pub told_by : (f : ℕ → Bool) (l : List ℕ) (b : Bool) → (b ≡ true ↔ ((k : ℕ) → k < length l → f (get_or l k 0) ≡ true)) → b ≡ all f l
told_by f l true h = sym (all_of f 0 l (h.0 refl))
told_by f l false h = go (all f l) refl
  where
    go : (t : Bool) → all f l ≡ t → false ≡ all f l
    go true e = true_false (sym (h.1 (all_at f 0 l e)))
    go false e = sym e

pub sound_size : (m : Module) → acceptable m.size ≡ false → sound m ≡ false
unfolding sound
sound_size m e = every_no _ _ e

pub sound_count : (m : Module) → 15 < m.count → sound m ≡ false
unfolding sound
sound_count m h = every_later _ _ (every_later _ _ (every_no _ _ (lt-leb _ _ h)))

-- in the order in which the code asks
pub sound_in_turn : (m : Module) → acceptable m.size ≡ true → m.count ≤ 15
    → sound m
    ≡ (keys_sound m.size m.held m.run && codes_sound m.size (queue_of m) && rest_unused (queue_of m) && leb m.mask 0x0F && not (all_read m.seen)
    && (leb m.quiet 255 && beq m.asleep (eqb m.quiet 255)))
unfolding sound every
sound_in_turn m size few = rw (size, le-leb m.count 15 few) (simp (and_assoc, and-true))

pub sound_facts : (m : Module) → sound m ≡ true → Sound m
unfolding sound keys_sound
sound_facts m e =
    let e₁ = every_rest _ _ e in
    let e₂ = every_rest _ _ e₁ in
    let e₃ = every_rest _ _ e₂ in
    let e₄ = every_rest _ _ e₃ in
    let e₅ = every_rest _ _ e₄ in
    let e₆ = every_rest _ _ e₅ in
    let e₇ = every_rest _ _ e₆ in
    let e₈ = every_rest _ _ e₇ in
    record {
      size = every_first _ _ e;
      keys = all_below_lem _ 104 (every_first _ _ e₁);
      few = leb-true _ _ (every_first _ _ e₂);
      codes = every_first _ _ e₃;
      rest = every_first _ _ e₄;
      mask = leb-true _ _ (every_first _ _ e₅);
      marks = not-true _ (every_first _ _ e₆);
      counted = leb-true _ _ (every_first _ _ e₇);
      asleep = beq_same _ _ (every_first _ _ e₈);
    }

pub facts_sound : (m : Module) → Sound m → sound m ≡ true
unfolding sound keys_sound
facts_sound m h =
    every_cons _ _ h.size
    (every_cons _ _ (below_all _ 104 h.keys)
    (every_cons _ _ (le-leb _ _ h.few)
    (every_cons _ _ h.codes
    (every_cons _ _ h.rest
    (every_cons _ _ (le-leb _ _ h.mask)
    (every_cons _ _ (ap not h.marks)
    (every_cons _ _ (le-leb _ _ h.counted)
    (every_cons _ _ (same_beq _ _ h.asleep) every_none))))))))

pub fresh_sound : sound fresh ≡ true
unfolding sound key_sound keys_sound codes_sound rest_unused every all all_below acceptable key_in in_size row_of col_of waiting all_read fresh forgotten
fresh_sound = refl

pub sound_out : (m : Module) → sound m ≡ true → (k : ℕ) → k < 104 → key_in m.size k ≡ false → (get_or m.held k false ≡ false) × (get_or m.run k 0 ≡ 0)
unfolding key_sound
sound_out m e k h out =
    let rest : (not (get_or m.held k false) && eqb (get_or m.run k 0) 0) ≡ true = rw out at (and_left (key_in m.size k || (not (get_or m.held k false) && eqb (get_or m.run k 0) 0)) _ ((sound_facts m e).keys k h)) in
    (not-true _ (and_left (not (get_or m.held k false)) _ rest), eqb-true _ _ (and_right (not (get_or m.held k false)) _ rest))

-- the keys of the rows below are sound, and b tells whether those of this row are
module _ (size : ℕ) (held : List Bool) (run : List ℕ) (row : ℕ) (h : row < 8) where
  key_place : (col : ℕ) → col < 13 → key_sound size (13 * row + col) (get_or held (13 * row + col) false) (get_or run (13 * row + col) 0) ≡ place_sound size row held run col
  unfolding key_sound place_sound key_in
  key_place col l = rw (place_row row col (omega arith) (omega arith), place_col row col (omega arith) (omega arith))

  module _ {b : Bool} (below : all_below (λ k. key_sound size k (get_or held k false) (get_or run k 0)) (13 * row) ≡ true) (e : b ≡ all_below (place_sound size row held run) 13) where
    pub keys_yes : b ≡ true → all_below (λ k. key_sound size k (get_or held k false) (get_or run k 0)) (13 * (row + 1)) ≡ true
    keys_yes f = rows_yes (λ k. key_sound size k (get_or held k false) (get_or run k 0)) (place_sound size row held run) row h key_place below (sym e ∙ f)

    pub keys_no : b ≡ false → false ≡ keys_sound size held run
    unfolding keys_sound
    keys_no f = sym (rows_no (λ k. key_sound size k (get_or held k false) (get_or run k 0)) (place_sound size row held run) row h key_place below (sym e ∙ f))
