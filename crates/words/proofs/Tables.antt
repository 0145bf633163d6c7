-- Laws of tables, and of a list that is replaced by a table from the front.
--
--    table_length, table_at        a table's length and items
--    table_same                    tables of functions that are alike below n are the same
--    table_front                   a table of one value, from the front
--    by_table                      a list that has a table's items is the table
--    replaced f k l                the list l, its first k items replaced by those of the table of f
--    replaced_none, replaced_all   none replaced, and all
--    replaced_at                   the next item is still the list's own
--    replaced_next                 one item more
-- Assumes nothing.
use Prim.Native.Nat.{ℕ, zero, suc, ◌+◌, ◌<◌}
use native.Mathlib.Decide.{dec_lt}
use native.Mathlib.Numerals.{add-one}
use native.Mathlib.Omega.{arith}
use mathlib.Core.Path.{◌≡◌, refl, sym, ap, ◌∙◌}
use mathlib.Core.List.{List, [], ◌∷◌, ◌++◌, append-nil}
use lib.ListN.{length, get_or, set, drop, length-append, get_or-append, drop_of_length-le}
use lib.Seq.{drop-cons, append_snoc, set_at, get_or_at, ext_get_or}
use Rattle.words.specs.Words.{table}

module _ {A : Type 0} (f : ℕ → A) where
  pub table_length : (n : ℕ) → length (table f n) ≡ n
  unfolding table
  table_length zero = refl
  table_length (suc n) = length-append (table f n) (f n ∷ []) ∙ rw (table_length n) (add-one n)

  pub table_at : (n k : ℕ) (d : A) → k < n → get_or (table f n) k d ≡ f k
  unfolding table
  table_at zero k d h = absurd (omega arith)
  table_at (suc n) k d h = go (dec_lt k n) (table_at n k d)
    where
      go : Dec (k < n) → (k < n → get_or (table f n) k d ≡ f k) → get_or (table f n ++ (f n ∷ [])) k d ≡ f k
      go (yes l) rest = get_or-append (table f n) (f n ∷ []) d k (rw (table_length n) l) ∙ rest l
      go (no l) rest = let last : k ≡ n = omega arith in rw last (get_or_at (table f n) (f n) [] d n (table_length n))

  pub table_same : (g : ℕ → A) (n : ℕ) → ((k : ℕ) → k < n → f k ≡ g k) → table f n ≡ table g n
  unfolding table
  table_same g zero h = refl
  table_same g (suc n) h = rw (table_same g n (λ k l. h k (omega arith)), h n (omega arith))

pub by_table : {A : Type 0} (d : A) (f : ℕ → A) (n : ℕ) (l : List A) → length l ≡ n → ((k : ℕ) → k < n → f k ≡ get_or l k d) → table f n ≡ l
by_table d f n l e same =
    let t = table_length f n in
    ext_get_or d (table f n) l (t ∙ sym e) (λ i h. table_at f n i d (omega arith) ∙ same i (omega arith))

pub table_front : {A : Type 0} (c : A) (n : ℕ) → table (λ _. c) (suc n) ≡ c ∷ table (λ _. c) n
unfolding table
table_front c zero = refl
table_front {A = A} c (suc n) = ap (λ (l : List A). l ++ (c ∷ [])) (table_front c n)

unfoldable pub replaced : {A : Type 0} → (ℕ → A) → ℕ → List A → List A
replaced f k l = table f k ++ drop k l

module _ {A : Type 0} (f : ℕ → A) (l : List A) where
  pub replaced_none : replaced f 0 l ≡ l
  unfolding replaced table
  replaced_none = refl

  pub replaced_all : (n : ℕ) → length l ≡ n → replaced f n l ≡ table f n
  unfolding replaced
  replaced_all n h = rw (drop_of_length-le l {i = n} (omega arith)) (append-nil (table f n))

  module _ (k : ℕ) (h : k < length l) where
    pub replaced_at : (d : A) → get_or (replaced f k l) k d ≡ get_or l k d
    unfolding replaced
    replaced_at d = rw (drop-cons l k d h) (get_or_at (table f k) (get_or l k d) (drop (suc k) l) d k (table_length f k))

    pub replaced_next : set (replaced f k l) k (f k) ≡ replaced f (k + 1) l
    unfolding replaced table
    replaced_next = rw (add-one k, drop-cons l k (f k) h) (set_at (table f k) (get_or l k (f k)) (drop (suc k) l) (f k) k (table_length f k) ∙ sym (append_snoc (table f k) (f k) (drop (suc k) l)))
