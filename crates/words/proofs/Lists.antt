-- Laws of tests and plain lists.
--
--    by_test                          what holds if a test is true, and if it is false, holds
--    some_append                      a list after another has an item if either has
--    all_none, all_one                a test of no item, and of one
--    all_append, all_take, all_drop   a test of a list's parts; all_replicate: of one item many times
--    all_at, all_of                   a test of a list, place by place; all-anywhere: also past its end
--    take_most                        at most n are taken
--    take_room                        the first n of two lists: the one, and as much of the other as there is room for
-- Assumes nothing.
use Prim.Native.Nat.{ℕ, zero, suc, ◌+◌, ◌-◌, ◌<◌, ◌≤◌}
use native.Mathlib.Omega.{arith}
use mathlib.Core.Path.{◌≡◌, refl, ap, ◌∙◌}
use mathlib.Core.Bool.{Bool, true, false, ◌||◌}
use mathlib.Core.List.{List, [], ◌∷◌, ◌++◌}
use lib.ListN.{length, get_or, take, drop, replicate, length-take}
use lib.Seq.{take-append-add}
use Rattle.words.specs.Words.{all, some}
use Rattle.words.proofs.Laws.{all_first, all_rest, all_cons}

pub by_test : (P : Bool → Type 0) (b : Bool) → (b ≡ true → P true) → (b ≡ false → P false) → P b
by_test P true t f = t refl
by_test P false t f = f refl

pub some_append : {A : Type 0} (a b : List A) → some (a ++ b) ≡ (some a || some b)
unfolding some
some_append [] b = refl
some_append (x ∷ a) b = refl

module _ {A : Type 0} (f : A → Bool) where
  pub all_none : all f [] ≡ true
  unfolding all
  all_none = refl

  pub all_one : (x : A) → f x ≡ true → all f (x ∷ []) ≡ true
  all_one x e = all_cons f x [] e all_none

  pub all_append : (a b : List A) → all f a ≡ true → all f b ≡ true → all f (a ++ b) ≡ true
  all_append [] b h g = g
  all_append (x ∷ a) b h g = all_cons f x (a ++ b) (all_first f x a h) (all_append a b (all_rest f x a h) g)

  pub all_take : (n : ℕ) (l : List A) → all f l ≡ true → all f (take n l) ≡ true
  all_take zero l h = all_none
  all_take (suc n) [] h = all_none
  all_take (suc n) (x ∷ l) h = all_cons f x (take n l) (all_first f x l h) (all_take n l (all_rest f x l h))

  pub all_drop : (l : List A) → all f l ≡ true → all f (drop 1 l) ≡ true
  all_drop [] h = h
  all_drop (x ∷ l) h = all_rest f x l h

  pub all_replicate : (n : ℕ) (x : A) → f x ≡ true → all f (replicate n x) ≡ true
  all_replicate zero x e = all_none
  all_replicate (suc n) x e = all_cons f x (replicate n x) e (all_replicate n x e)

  pub all_at : (d : A) (l : List A) → all f l ≡ true → (k : ℕ) → k < length l → f (get_or l k d) ≡ true
  all_at d [] e k h = absurd (omega arith)
  all_at d (x ∷ l) e zero h = all_first f x l e
  all_at d (x ∷ l) e (suc k) h = all_at d l (all_rest f x l e) k (omega arith)

  pub all_anywhere : (d : A) → f d ≡ true → (l : List A) → all f l ≡ true → (k : ℕ) → f (get_or l k d) ≡ true
  all_anywhere d e [] h k = e
  all_anywhere d e (x ∷ l) h zero = all_first f x l h
  all_anywhere d e (x ∷ l) h (suc k) = all_anywhere d e l (all_rest f x l h) k

  pub all_of : (d : A) (l : List A) → ((k : ℕ) → k < length l → f (get_or l k d) ≡ true) → all f l ≡ true
  all_of d [] h = all_none
  all_of d (x ∷ l) h = all_cons f x l (h 0 (omega arith)) (all_of d l (λ k g. h (suc k) (omega arith)))

pub take_most : {A : Type 0} (n : ℕ) (l : List A) → length (take n l) ≤ n
take_most n l = rw (length-take n l) (omega arith)

pub take_room : {A : Type 0} (n : ℕ) (a b : List A) → length a ≤ n → take n (a ++ b) ≡ a ++ take (n - length a) b
take_room {A = A} n a b h =
    let e : n ≡ length a + (n - length a) = omega arith in
    ap (λ (m : ℕ). take {A = A} m (a ++ b)) e ∙ take-append-add a b (n - length a)
