-- Lists of 16-bit numbers: their calls are of the code's types, and what the writer packs of them is read back.
--
--    listed_typed     the calls of a list of 16-bit numbers are typed
--    list_fits        typed calls that are all passed fit
--    packed_back_lem      what the writer packs is read as the list that it was
-- Assumes nothing.
use Prim.Native.Nat.{ℕ, zero, suc, ◌+◌, ◌*◌, ◌/◌, ◌%◌}
use native.Mathlib.Decide.{ℕ_discrete}
use native.Mathlib.Omega.{arith}
use mathlib.Core.Path.{◌≡◌, refl, sym, ◌∙◌}
use mathlib.Core.Bool.{Bool, true, false, cond}
use mathlib.Core.List.{List, [], ◌∷◌, ◌++◌, map}
use mathlib.Core.Option.{some}
use borrow.Author.Tests.{lt-ltb}
use lib.Dec.{eqb, ltb}
use lib.ListN.{length, drop}
use Rattle.words.specs.Words.{all, table}
use Rattle.words.proofs.Laws.{and_both, all_first, all_rest, all_cons}
use Rattle.words.proofs.Lists.{all_none, all_one, all_append, all_take}
use Rattle.numbers.specs.Numbers.{Line, ◌gives◌, number_of, done, no_room}
use Rattle.numbers.proofs.Laws.{first_decides, rest_decides}
use Rattle.bits.specs.Bits.{below}
use Rattle.carry.specs.declared.call.Call.{Call}
use Rattle.carry.specs.Carried.{Carried, look, write, read, reset, fits, packing, unpack}
use Rattle.carry.specs.Calls.{firsts, low, of_kind, carried, call_at, listed}
use Rattle.carry.specs.Writer.{own_lines, list_lines, writer_lines, pack_number}
use Rattle.carry.proofs.Laws.{read_written}
use Rattle.carry.proofs.Records.{own_declines}
use Rattle.carry.proofs.Fits.{typed, unfit_declined}

-- ---- the code's types

low_below : (x : ℕ) → below 8 (low x) ≡ true
unfolding below low
low_below x = lt-ltb (x % 256) 256 (omega arith)

all_low : (xs : List ℕ) → all (below 8) (map low xs) ≡ true
all_low [] = all_none (below 8)
all_low (x ∷ xs) = all_cons (below 8) (low x) (map low xs) (low_below x) (all_low xs)

zero_below : below 16 0 ≡ true
unfolding below
zero_below = refl

firsts_below : (n : ℕ) (xs : List ℕ) → all (below 16) xs ≡ true → all (below 16) (firsts n xs) ≡ true
unfolding firsts
firsts_below zero xs h = all_none (below 16)
firsts_below (suc n) [] h = all_cons (below 16) 0 (firsts n []) zero_below (firsts_below n [] h)
firsts_below (suc n) (x ∷ xs) h = all_cons (below 16) x (firsts n xs) (all_first (below 16) x xs h) (firsts_below n xs (all_rest (below 16) x xs h))

kind_typed : (k a n : ℕ) (xs : List ℕ) → all (below 16) xs ≡ true → typed (of_kind k a n xs) ≡ true
unfolding of_kind typed
kind_typed k a n xs h = go (eqb (k % 4) 0) (eqb (k % 4) 1) (eqb (k % 4) 2)
  where
    bytes : List ℕ
    bytes = map low (firsts n xs)

    go : (l w r : Bool) → typed (cond l (look (firsts n xs)) (cond w (write (low a) bytes) (cond r (read (low a) n) reset))) ≡ true
    go true w r = firsts_below n xs h
    go false true r = and_both (below 8 (low a)) (all (below 8) bytes) (low_below a) (all_low (firsts n xs))
    go false false true = low_below a
    go false false false = refl

carried_typed : (c : Call) → all (below 16) c.values ≡ true → typed (carried c) ≡ true
unfolding carried
carried_typed c h = kind_typed c.kind c.first c.count c.values h

all_behind : {A : Type 0} (f : A → Bool) (n : ℕ) (l : List A) → all f l ≡ true → all f (drop n l) ≡ true
all_behind f zero l h = h
all_behind f (suc n) [] h = h
all_behind f (suc n) (x ∷ l) h = all_behind f n l (all_rest f x l h)

call_typed : (ws : List ℕ) (i : ℕ) → all (below 16) ws ≡ true → typed (carried (call_at ws i)) ≡ true
unfolding call_at
call_typed ws i h = carried_typed (call_at ws i) (all_take (below 16) 32 (drop (i * 35 + 3) ws) (all_behind (below 16) (i * 35 + 3) ws h))

table_all : {A : Type 0} (f : A → Bool) (g : ℕ → A) → ((i : ℕ) → f (g i) ≡ true) → (n : ℕ) → all f (table g n) ≡ true
unfolding table
table_all f g h zero = all_none f
table_all f g h (suc n) = all_append f (table g n) (g n ∷ []) (table_all f g h n) (all_one f (g n) (h n))

pub listed_typed : (ws : List ℕ) → all (below 16) ws ≡ true → all typed (listed ws) ≡ true
unfolding listed
listed_typed ws h = table_all typed (λ i. carried (call_at ws i)) (λ i. call_typed ws i h) (length ws / 35)

-- ---- calls that are passed fit

-- of two lists of lines the first is passed, if both are
first_passed : (k l : List Line) → number_of (k ++ l) ≡ done → number_of k ≡ done
first_passed k l e = go (ℕ_discrete (number_of k) done)
  where
    go : Dec (number_of k ≡ done) → number_of k ≡ done
    go (yes h) = h
    go (no h) = absurd (h (sym (first_decides k l h) ∙ e))

passed_fits : (c : Carried) → typed c ≡ true → number_of (own_lines c) ≡ done → fits c ≡ true
passed_fits c t e = go (fits c) refl
  where
    go : (b : Bool) → fits c ≡ b → fits c ≡ true
    go true h = h
    go false h = absurd (unfit_declined c t h e)

pub list_fits : (cs : List Carried) → all typed cs ≡ true → number_of (list_lines cs) ≡ done → all fits cs ≡ true
unfolding list_lines
list_fits [] t e = all_none fits
list_fits (c ∷ cs) t e =
    let p = first_passed (own_lines c) (list_lines cs) e in
    all_cons fits c cs (passed_fits c (all_first typed c cs t) p)
    (list_fits cs (all_rest typed c cs t) (sym (rest_decides (own_lines c) (list_lines cs) (own_declines c) p) ∙ e))

-- "Reader and writer are both wanted, each undoing the other"
pub packed_back_lem : (ws : List ℕ) (room : ℕ) → all (below 16) ws ≡ true → pack_number ws room ≡ done → unpack (packing (listed ws)) ≡ some (listed ws)
unfolding pack_number writer_lines
packed_back_lem ws room h e =
    let last = ltb room (length (packing (listed ws))) gives no_room ∷ [] in
    read_written (listed ws) (list_fits (listed ws) (listed_typed ws h) (first_passed (list_lines (listed ws)) last e))
