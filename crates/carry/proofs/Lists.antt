-- Laws of a call as numbers, and of lists of calls.
--
--    firsts_length, firsts_take         how many they are; they are the front of a list that is long enough
--    firsts_all                         numbers with others behind them, as many as they are
--    lent_rest                          what is lent of a list, from a place to its end
--    front_copied                       a list of 32 numbers, each replaced by the next one of another
--    call_there                         call i of a list, from its numbers
--    is_look, is_write, is_read, is_reset   the call that numbers tell, by its kind
--    carried_fits                       the numbers of a call that fits tell that call
--    spelled_low                        numbers modulo 256 have the same eight bits
--    begun ws i                         the first i calls of a list of numbers
--    begun_none, begun_next, begun_all  none of them, one more, all
--    begun_rest                         a list begins with its first calls
--    call_within                        a call of the list has its 35 numbers in it
-- Assumes nothing.
use Prim.Native.Nat.{ℕ, zero, suc, ◌+◌, ◌-◌, ◌*◌, ◌/◌, ◌%◌, ◌≤◌, ◌<◌}
use native.Mathlib.Numerals.{add-one}
use native.Mathlib.Omega.{arith}
use mathlib.Core.Path.{◌≡◌, refl, sym, ap, ◌∙◌}
use mathlib.Core.Bool.{true, ◌&&◌}
use mathlib.Core.List.{List, [], ◌∷◌, ◌++◌, append_assoc, append-nil, map}
use borrow.Author.Tests.{ltb-true}
use lib.ListN.{length, get_or, take, drop, length-drop, replicate}
use lib.Seq.{length-take-le, get_or-take, take_all}
use Rattle.words.specs.Words.{all, table}
use Rattle.words.proofs.Tables.{replaced, replaced_all, by_table}
use Rattle.words.proofs.Laws.{and_left, and_right, all_first, all_rest}
use Rattle.bits.specs.Bits.{below, spelled}
use Rattle.bits.proofs.Laws.{bits_low_only}
use Rattle.carry.specs.declared.call.Call.{Call}
use Rattle.carry.specs.Carried.{Carried, look, write, read, reset, count_fits, fits}
use Rattle.carry.specs.Calls.{firsts, low, of_kind, carried, filled, call_of, call_at, listed}

pub firsts_length : (n : ℕ) (xs : List ℕ) → length (firsts n xs) ≡ n
unfolding firsts
firsts_length zero xs = refl
firsts_length (suc n) [] = ap suc (firsts_length n [])
firsts_length (suc n) (x ∷ xs) = ap suc (firsts_length n xs)

pub firsts_take : (n : ℕ) (xs : List ℕ) → n ≤ length xs → firsts n xs ≡ take n xs
unfolding firsts
firsts_take zero xs h = refl
firsts_take (suc n) [] h = absurd (omega arith)
firsts_take (suc n) (x ∷ xs) h = ap (λ (l : List ℕ). x ∷ l) (firsts_take n xs (omega arith))

pub firsts_all : (xs rest : List ℕ) → firsts (length xs) (xs ++ rest) ≡ xs
unfolding firsts
firsts_all [] rest = refl
firsts_all (x ∷ xs) rest = ap (λ (l : List ℕ). x ∷ l) (firsts_all xs rest)

pub lent_rest : (n k : ℕ) (xs : List ℕ) → n ≡ length xs → take (n - k) (drop k xs) ≡ drop k xs
lent_rest n k xs e = take_all (n - k) (drop k xs) (rw (length-drop k xs) (omega arith))

pub front_copied : (xs ys : List ℕ) → 32 ≤ length xs → length ys ≡ 32 → replaced (λ k. get_or xs k 0) 32 ys ≡ take 32 xs
front_copied xs ys h e =
    replaced_all (λ k. get_or xs k 0) ys 32 e
    ∙ by_table 0 (λ k. get_or xs k 0) 32 (take 32 xs) (length-take-le 32 xs h) (λ k l. sym (get_or-take 32 xs k 0 l))

-- call i of a list, from its numbers; the last 32 are read from a part that goes to the list's end
pub call_there : (ws : List ℕ) (i : ℕ) (values : List ℕ) → values ≡ take 32 (take (length ws - (i * 35 + 3)) (drop (i * 35 + 3) ws))
    → record { kind = get_or ws (i * 35) 0; first = get_or ws (i * 35 + 1) 0; count = get_or ws (i * 35 + 2) 0; values = values } ≡ call_at ws i
unfolding call_at
call_there ws i values e = rw (e, lent_rest (length ws) (i * 35 + 3) ws refl)

-- the call that numbers tell
module _ (c : Call) where
  pub is_look : c.kind % 4 ≡ 0 → carried c ≡ look (firsts c.count c.values)
  unfolding carried of_kind
  is_look e = rw e

  pub is_write : c.kind % 4 ≡ 1 → carried c ≡ write (low c.first) (map low (firsts c.count c.values))
  unfolding carried of_kind
  is_write e = rw e

  pub is_read : c.kind % 4 ≡ 2 → carried c ≡ read (low c.first) c.count
  unfolding carried of_kind
  is_read e = rw e

  pub is_reset : c.kind % 4 ≡ 3 → carried c ≡ reset
  unfolding carried of_kind
  is_reset e = rw e

-- the numbers of a call that fits
low_same : (x : ℕ) → below 8 x ≡ true → low x ≡ x
unfolding low below
low_same x h = let l = ltb-true x 256 h in omega arith

lows_same : (xs : List ℕ) → all (below 8) xs ≡ true → map low xs ≡ xs
lows_same [] h = refl
lows_same (x ∷ xs) h = rw (low_same x (all_first (below 8) x xs h), lows_same xs (all_rest (below 8) x xs h))

pub carried_fits : (c : Carried) → fits c ≡ true → carried (call_of c) ≡ c
unfolding fits carried call_of of_kind filled
carried_fits (look s) h = ap look (firsts_all s (replicate (32 - length s) 0))
carried_fits (write a bs) h =
    let f = and_left (below 8 a && count_fits (length bs)) (all (below 8) bs) h in
    let g = and_right (below 8 a && count_fits (length bs)) (all (below 8) bs) h in
    rw (low_same a (and_left (below 8 a) (count_fits (length bs)) f), firsts_all bs (replicate (32 - length bs) 0), lows_same bs g)
carried_fits (read a n) h = rw (low_same a (and_left (below 8 a) (count_fits n) h))
carried_fits reset h = refl

pub spelled_low : (xs : List ℕ) → spelled 8 (map low xs) ≡ spelled 8 xs
unfolding spelled low
spelled_low [] = refl
spelled_low (x ∷ xs) = rw (bits_low_only 8 x, spelled_low xs)

-- a table of more
table_more : {A : Type 0} (f : ℕ → A) (i k : ℕ) → table f (i + k) ≡ table f i ++ table (λ j. f (i + j)) k
unfolding table
table_more f i zero = let e : i + 0 ≡ i = omega arith in rw e (sym (append-nil (table f i)))
table_more f i (suc k) =
    let e : i + suc k ≡ suc (i + k) = omega arith in
    rw (e, table_more f i k) (append_assoc (table f i) (table (λ j. f (i + j)) k) (f (i + k) ∷ []))

-- the first calls of a list of numbers
unfoldable pub begun : List ℕ → ℕ → List Carried
begun ws i = table (λ k. carried (call_at ws k)) i

module _ (ws : List ℕ) where
  pub begun_none : begun ws 0 ≡ []
  unfolding begun table
  begun_none = refl

  pub begun_next : (i : ℕ) → begun ws (i + 1) ≡ begun ws i ++ (carried (call_at ws i) ∷ [])
  unfolding begun table
  begun_next i = rw (add-one i)

  pub begun_all : (i : ℕ) → i ≡ length ws / 35 → begun ws i ≡ listed ws
  unfolding begun listed
  begun_all i e = rw e

  pub begun_rest : (i : ℕ) → i ≤ length ws / 35 → (rest : List Carried) × (listed ws ≡ begun ws i ++ rest)
  unfolding begun listed
  begun_rest i h =
      let f : ℕ → Carried = λ k. carried (call_at ws k) in
      let n = length ws / 35 in
      let e : n ≡ i + (n - i) = omega arith in
      (table (λ j. f (i + j)) (n - i), ap (table f) e ∙ table_more f i (n - i))

  pub call_within : (i : ℕ) → i < length ws / 35 → i * 35 + 35 ≤ length ws
  call_within i h = omega arith
