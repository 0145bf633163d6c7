-- Laws of the replay.
--
--    press_says        a change's code says what the key changed to
--    told_same         the code of a key's own change tells it that
--    told_other        the code of another key's change leaves it as it was
--    replayed_append   codes, then more codes
--    legal_append      the same of legality
--    legal_one         the code of a change is legal if the key was the opposite
-- Assumes nothing.
use Prim.Native.Nat.{ℕ, ◌+◌, ◌*◌, ◌<◌}
use native.Mathlib.Omega.{arith}
use mathlib.Core.Path.{◌≡◌, refl, sym, ap, ◌∙◌}
use mathlib.Core.Bool.{Bool, true, false, not, ◌&&◌, beq, and_assoc}
use mathlib.Core.List.{List, [], ◌∷◌, ◌++◌}
use borrow.Author.Tests.{lt-ltb, le-ltb, eq-eqb, ne_eqb}
use Rattle.keys.specs.Keys.{row_of, col_of, code, key_of}
use Rattle.keys.specs.Replay.{is_press, told, replayed, legal_from}
use Rattle.keys.proofs.Laws.{row_low, col_low, press_is, release_is, code_key}

pub press_says : (k : ℕ) (closed : Bool) → k < 104 → is_press (code k closed) ≡ closed
unfolding is_press code
press_says k true h =
    let r = row_low k h in
    let l = col_low k h in
    rw (press_is (row_of k) (col_of k) r l) (lt-ltb (16 * row_of k + col_of k) 128 (omega arith))
press_says k false h =
    let r = row_low k h in
    let l = col_low k h in
    rw (release_is (row_of k) (col_of k) r l) (le-ltb (16 * row_of k + col_of k + 128) 128 (omega arith))

pub told_same : (k : ℕ) (was closed : Bool) → k < 104 → told k was (code k closed) ≡ closed
unfolding told
told_same k was closed h = rw (code_key k closed h, eq-eqb k k refl) (press_says k closed h)

pub told_other : (k n : ℕ) (was closed : Bool) → n < 104 → (n ≡ k → ⊥) → told k was (code n closed) ≡ was
unfolding told
told_other k n was closed h d = rw (code_key n closed h, ne_eqb n k d)

pub replayed_append : (k : ℕ) (was : Bool) (a b : List ℕ) → replayed k was (a ++ b) ≡ replayed k (replayed k was a) b
unfolding replayed
replayed_append k was [] b = refl
replayed_append k was (c ∷ a) b = replayed_append k (told k was c) a b

pub legal_append : (down : ℕ → Bool) (a b : List ℕ) → legal_from down (a ++ b) ≡ (legal_from down a && legal_from (λ k. replayed k (down k) a) b)
unfolding legal_from replayed
legal_append down [] b = refl
legal_append down (c ∷ a) b =
    ap (λ (t : Bool). not (beq (is_press c) (down (key_of c))) && t) (legal_append (λ k. told k (down k) c) a b)
    ∙ sym (and_assoc (not (beq (is_press c) (down (key_of c)))) (legal_from (λ k. told k (down k) c) a) (legal_from (λ k. replayed k (told k (down k) c) a) b))

pub legal_one : (down : ℕ → Bool) (k : ℕ) (closed : Bool) → k < 104 → closed ≡ not (down k) → legal_from down (code k closed ∷ []) ≡ true
unfolding legal_from
legal_one down k closed h e = rw (press_says k closed h, code_key k closed h, e) (go (down k))
  where
    go : (b : Bool) → (not (beq (not b) b) && true) ≡ true
    go true = refl
    go false = refl
