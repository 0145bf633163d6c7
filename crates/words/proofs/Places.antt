-- Tests of many places: a test that judges one place and then the rest is a test of every place below the end.
--
--    chain         a test that goes on from place to place judges every place below the end
--    all_places    so does a test of a list's items
--    fails_at      a test that fails fails at some place
-- Assumes nothing.
use Prim.Native.Nat.{ℕ, zero, suc, ◌≤◌, ◌<◌}
use native.Mathlib.Omega.{arith}
use native.Mathlib.Nat.{le_refl}
use mathlib.Core.Path.{◌≡◌, refl, sym, ap, ◌∙◌}
use mathlib.Core.Bool.{Bool, true, false, ◌&&◌, and-true}
use mathlib.Core.List.{List}
use lib.ListN.{length, get_or, drop, drop_of_length-le}
use lib.Seq.{drop-cons}
use Rattle.words.specs.Words.{all, all_below}
use Rattle.words.proofs.Laws.{true_false}

and_three : (a b c : Bool) → (a && (b && c)) ≡ ((a && b) && c)
and_three true b c = refl
and_three false b c = refl

-- rest k is what is judged from place k on: f of that place, and what is judged from the next one on
module _ (f rest : ℕ → Bool) (n : ℕ) (one : (k : ℕ) → k < n → rest k ≡ (f k && rest (suc k))) (end : rest n ≡ true) where
  so_far : (k : ℕ) → k ≤ n → rest 0 ≡ (all_below f k && rest k)
  unfolding all_below
  so_far zero h = refl
  so_far (suc k) h = so_far k (omega arith) ∙ ap (λ (b : Bool). all_below f k && b) (one k h) ∙ and_three (all_below f k) (f k) (rest (suc k))

  pub chain : rest 0 ≡ all_below f n
  chain = so_far n (le_refl n) ∙ ap (λ (b : Bool). all_below f n && b) end ∙ and-true (all_below f n)

pub all_places : {A : Type 0} (f : A → Bool) (d : A) (l : List A) → all f l ≡ all_below (λ k. f (get_or l k d)) (length l)
unfolding all
all_places {A = A} f d l =
    chain (λ k. f (get_or l k d)) (λ k. all f (drop k l)) (length l)
    (λ k h. ap (all f) (drop-cons l k d h)) (ap (all f) (drop_of_length-le l (le_refl (length l))))

pub fails_at : (f : ℕ → Bool) (n : ℕ) → all_below f n ≡ false → (k : ℕ) × ((k < n) × (f k ≡ false))
unfolding all_below
fails_at f zero e = true_false e
fails_at f (suc n) e = go (f n) refl (fails_at f n)
  where
    go : (b : Bool) → f n ≡ b → (all_below f n ≡ false → (k : ℕ) × ((k < n) × (f k ≡ false))) → (k : ℕ) × ((k < suc n) × (f k ≡ false))
    go false g rest = (n, (omega arith, g))
    go true g rest = let r = rest (sym (and-true (all_below f n)) ∙ rw g at e) in (r.0, (omega (arith, r.1.0), r.1.1))
