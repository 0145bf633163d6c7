-- Laws of the words.
--
--    true_false                            true is not false
--    and_left, and_right, and_both         a conjunction, taken apart and put together
--    every_first, every_rest, every_cons   the same of `every`
--    every_no, every_yes                   the first item decides, or the rest does
--    every_none, every_one, every_later    of no item; of one; and it fails if the rest does
--    all_first, all_rest, all_cons         the same of `all`
--    all_no, all_yes
--    all_below_lem, below_all                  `all_below` as a statement about every number
--    below_next, below_fails               one number more, and a number of which it is false
--    below_fewer, below_still              true below fewer, and false below more
--    below_split, below_same               the numbers below a and those from a on; of functions that are alike below n
--    all_end, all_at_no, all_at_yes        a list walked from the front: its end, an item that decides, one that is passed
--    front_end, front_no, front_yes        the same of the list's first n items
-- Assumes nothing.
use Prim.Native.Nat.{ℕ, zero, suc, ◌+◌, ◌<◌, ◌≤◌, min}
use native.Mathlib.Nat.{not-suc-le-zero}
use native.Mathlib.Decide.{dec_lt}
use native.Mathlib.Numerals.{add-one, unary_clauses}
use native.Mathlib.Omega.{arith}
use mathlib.Core.Path.{◌≡◌, refl, sym, ap, ◌∙◌}
use mathlib.Core.Bool.{Bool, true, false, ◌&&◌, true≢false, and-true, and-false, and_assoc}
use mathlib.Core.List.{List, [], ◌∷◌}
use lib.ListN.{length, get_or, take, drop, length-take, drop_of_length-le}
use lib.Seq.{drop-cons, get_or-take}
use Rattle.words.specs.Words.{every, all, all_below}

pub true_false : {A : Type 0} → true ≡ false → A
true_false e = absurd (true≢false e)

pub and_left : (a b : Bool) → (a && b) ≡ true → a ≡ true
and_left true b e = refl
and_left false b e = e

pub and_right : (a b : Bool) → (a && b) ≡ true → b ≡ true
and_right true b e = e
and_right false b e = true_false (sym e)

pub and_both : (a b : Bool) → a ≡ true → b ≡ true → (a && b) ≡ true
and_both a b e f = rw (e, f)

module _ (b : Bool) (l : List Bool) where
  pub every_first : every (b ∷ l) ≡ true → b ≡ true
  unfolding every
  every_first e = and_left b (every l) e

  pub every_rest : every (b ∷ l) ≡ true → every l ≡ true
  unfolding every
  every_rest e = and_right b (every l) e

  pub every_cons : b ≡ true → every l ≡ true → every (b ∷ l) ≡ true
  unfolding every
  every_cons e f = and_both b (every l) e f

  pub every_no : b ≡ false → every (b ∷ l) ≡ false
  unfolding every
  every_no e = rw e

  pub every_yes : b ≡ true → every (b ∷ l) ≡ every l
  unfolding every
  every_yes e = rw e

pub every_none : every [] ≡ true
unfolding every
every_none = refl

pub every_one : (b : Bool) → every (b ∷ []) ≡ b
unfolding every
every_one b = and-true b

pub every_later : (b : Bool) (l : List Bool) → every l ≡ false → every (b ∷ l) ≡ false
unfolding every
every_later b l e = rw e (and-false b)

module _ {A : Type 0} (f : A → Bool) (x : A) (l : List A) where
  pub all_first : all f (x ∷ l) ≡ true → f x ≡ true
  unfolding all
  all_first e = and_left (f x) (all f l) e

  pub all_rest : all f (x ∷ l) ≡ true → all f l ≡ true
  unfolding all
  all_rest e = and_right (f x) (all f l) e

  pub all_cons : f x ≡ true → all f l ≡ true → all f (x ∷ l) ≡ true
  unfolding all
  all_cons e h = and_both (f x) (all f l) e h

  pub all_no : f x ≡ false → all f (x ∷ l) ≡ false
  unfolding all
  all_no e = rw e

  pub all_yes : f x ≡ true → all f (x ∷ l) ≡ all f l
  unfolding all
  all_yes e = rw e

module _ (f : ℕ → Bool) where
  pub below_next : (n : ℕ) → all_below f n ≡ true → f n ≡ true → all_below f (n + 1) ≡ true
  unfolding all_below
  below_next n e h = rw (add-one n) (and_both (all_below f n) (f n) e h)

  pub all_below_lem : (n : ℕ) → all_below f n ≡ true → (k : ℕ) → k < n → f k ≡ true
  unfolding all_below
  all_below_lem zero e k h = absurd (not-suc-le-zero h)
  all_below_lem (suc n) e k h = go (dec_lt k n) (all_below_lem n (and_left (all_below f n) (f n) e) k)
    where
      go : Dec (k < n) → (k < n → f k ≡ true) → f k ≡ true
      go (yes p) rest = rest p
      go (no p) rest = let last : k ≡ n = omega arith in ap f last ∙ and_right (all_below f n) (f n) e

  pub below_all : (n : ℕ) → ((k : ℕ) → k < n → f k ≡ true) → all_below f n ≡ true
  unfolding all_below
  below_all zero h = refl
  below_all (suc n) h = and_both (all_below f n) (f n) (below_all n (λ k l. h k (omega arith))) (h n (omega arith))

  pub below_fails : (n k : ℕ) → k < n → f k ≡ false → all_below f n ≡ false
  below_fails n k l e = go (all_below f n) refl
    where
      go : (b : Bool) → all_below f n ≡ b → all_below f n ≡ false
      go true p = true_false (sym (all_below_lem n p k l) ∙ e)
      go false p = p

  pub below_fewer : (n k : ℕ) → k ≤ n → all_below f n ≡ true → all_below f k ≡ true
  below_fewer n k l e = below_all k (λ j h. all_below_lem n e j (omega arith))

  pub below_still : (n k : ℕ) → n ≤ k → all_below f n ≡ false → all_below f k ≡ false
  below_still n k l e = go (all_below f k) refl
    where
      go : (b : Bool) → all_below f k ≡ b → all_below f k ≡ false
      go true p = true_false (sym (below_fewer k n l p) ∙ e)
      go false p = p

  pub below_split : (a n : ℕ) → all_below f (a + n) ≡ (all_below f a && all_below (λ j. f (a + j)) n)
  unfolding all_below
  below_split a zero = simp unary_clauses (sym (and-true (all_below f a)))
  below_split a (suc n) =
      simp unary_clauses
      (ap (λ (b : Bool). b && f (a + n)) (below_split a n) ∙ and_assoc (all_below f a) (all_below (λ j. f (a + j)) n) (f (a + n)))

  pub below_same : (g : ℕ → Bool) (n : ℕ) → ((k : ℕ) → k < n → f k ≡ g k) → all_below f n ≡ all_below g n
  unfolding all_below
  below_same g zero h = refl
  below_same g (suc n) h = rw (below_same g n (λ k l. h k (omega arith)), h n (omega arith))

-- a list that is walked from the front: what is left of it at place i
module _ {A : Type 0} (f : A → Bool) (l : List A) (i : ℕ) where
  pub all_end : length l ≤ i → all f (drop i l) ≡ true
  unfolding all
  all_end h = rw (drop_of_length-le l h)

  pub all_at_no : (d : A) → i < length l → f (get_or l i d) ≡ false → all f (drop i l) ≡ false
  all_at_no d h e = rw (drop-cons l i d h) (all_no f (get_or l i d) (drop (suc i) l) e)

  pub all_at_yes : (d : A) → i < length l → f (get_or l i d) ≡ true → all f (drop i l) ≡ all f (drop (i + 1) l)
  all_at_yes d h e = rw (drop-cons l i d h, add-one i) (all_yes f (get_or l i d) (drop (suc i) l) e)

module _ {A : Type 0} (f : A → Bool) (l : List A) (n i : ℕ) where
  front_long : i < n → i < length l → i < length (take n l)
  front_long h k = rw (length-take n l) (omega arith)

  pub front_no : (d : A) → i < n → i < length l → f (get_or l i d) ≡ false → all f (drop i (take n l)) ≡ false
  front_no d h k e = all_at_no f (take n l) i d (front_long h k) (ap f (get_or-take n l i d h) ∙ e)

  pub front_yes : (d : A) → i < n → i < length l → f (get_or l i d) ≡ true → all f (drop i (take n l)) ≡ all f (drop (i + 1) (take n l))
  front_yes d h k e = all_at_yes f (take n l) i d (front_long h k) (ap f (get_or-take n l i d h) ∙ e)

  pub front_end : min n (length l) ≤ i → all f (drop i (take n l)) ≡ true
  front_end h = all_end f (take n l) i (rw (length-take n l) h)
