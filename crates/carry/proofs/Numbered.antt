-- Every list of calls that fit is told by a list of numbers.
--
--    listed_numbered    the numbers of calls that fit, 35 a call, tell those calls
-- Assumes nothing.
use Prim.Native.Nat.{ℕ, zero, suc, ◌+◌, ◌-◌, ◌*◌, ◌/◌, ◌≤◌, ◌<◌}
use native.Mathlib.Omega.{arith}
use mathlib.Core.Path.{◌≡◌, refl, sym, ap, ◌∙◌}
use mathlib.Core.Bool.{true, ◌&&◌}
use mathlib.Core.List.{List, [], ◌∷◌, ◌++◌}
use borrow.Author.Tests.{leb-true, eqb-true}
use lib.Dec.{eqb, leb}
use lib.ListN.{length, take, drop, get_or, length-append, replicate, length-replicate}
use lib.Seq.{take_at, get_or-append-add, drop-append-add}
use Rattle.words.specs.Words.{all}
use Rattle.words.proofs.Laws.{and_left, and_right, all_first, all_rest}
use Rattle.words.proofs.Tables.{by_table}
use Rattle.bits.specs.Bits.{below}
use Rattle.carry.specs.declared.call.Call.{Call}
use Rattle.carry.specs.Carried.{Carried, look, write, read, reset, count_fits, fits}
use Rattle.carry.specs.Calls.{carried, filled, call_of, call_at, listed, numbered}
use Rattle.carry.proofs.Lists.{carried_fits}

-- what a call that fits has
write_most : (a : ℕ) (bs : List ℕ) → fits (write a bs) ≡ true → length bs ≤ 32
unfolding fits count_fits
write_most a bs h =
    let n = and_right (below 8 a) (count_fits (length bs)) (and_left (below 8 a && count_fits (length bs)) (all (below 8) bs) h) in
    leb-true (length bs) 32 (and_right (leb 1 (length bs)) (leb (length bs) 32) n)

-- 32 places, whatever the call
filled_length : (xs : List ℕ) → length xs ≤ 32 → length (filled xs) ≡ 32
unfolding filled
filled_length xs h = length-append xs (replicate (32 - length xs) 0) ∙ rw (length-replicate {A = ℕ} (32 - length xs) 0) (omega arith)

look_most : (s : List ℕ) → fits (look s) ≡ true → length s ≤ 32
unfolding fits
look_most s h = let e = eqb-true (length s) 8 (and_left (eqb (length s) 8) (all (below 13) s) h) in omega arith

values_length : (c : Carried) → fits c ≡ true → length (call_of c).values ≡ 32
unfolding call_of
values_length (look s) h = filled_length s (look_most s h)
values_length (write a bs) h = filled_length bs (write_most a bs h)
values_length (read a n) h = filled_length [] (omega arith)
values_length reset h = filled_length [] (omega arith)

-- ---- the calls of a list of numbers, place by place

abbrev call : ℕ → ℕ → ℕ → List ℕ → Call
call k f n l = record { kind = k; first = f; count = n; values = l }

call_first : (k f n : ℕ) (values ws : List ℕ) → length values ≡ 32 → call_at (k ∷ f ∷ n ∷ values ++ ws) 0 ≡ call k f n values
unfolding call_at
call_first k f n values ws h = ap (call k f n) (take_at values ws 32 h)

module _ (a ws : List ℕ) (h : length a ≡ 35) where
  item_later : (p q : ℕ) → p ≡ 35 + q → get_or (a ++ ws) p 0 ≡ get_or ws q 0
  item_later p q e = ap (λ (n : ℕ). get_or (a ++ ws) n 0) (e ∙ ap (λ (n : ℕ). n + q) (sym h)) ∙ get_or-append-add a ws q 0

  rest_later : (p q : ℕ) → p ≡ 35 + q → drop p (a ++ ws) ≡ drop q ws
  rest_later p q e = ap (λ (n : ℕ). drop n (a ++ ws)) (e ∙ ap (λ (n : ℕ). n + q) (sym h)) ∙ drop-append-add a ws q

  call_later : (i : ℕ) → call_at (a ++ ws) (suc i) ≡ call_at ws i
  unfolding call_at
  call_later i =
      λ j. call (item_later (suc i * 35) (i * 35) (omega arith) j) (item_later (suc i * 35 + 1) (i * 35 + 1) (omega arith) j)
      (item_later (suc i * 35 + 2) (i * 35 + 2) (omega arith) j) (take 32 (rest_later (suc i * 35 + 3) (i * 35 + 3) (omega arith) j))

-- the numbers of one call
abbrev told : Carried → List ℕ
told c = (call_of c).kind ∷ (call_of c).first ∷ (call_of c).count ∷ (call_of c).values

told_length : (c : Carried) → fits c ≡ true → length (told c) ≡ 35
told_length c h = ap (λ (n : ℕ). suc (suc (suc n))) (values_length c h)

numbered_length : (cs : List Carried) → all fits cs ≡ true → length (numbered cs) ≡ length cs * 35
unfolding numbered
numbered_length [] h = refl
numbered_length (c ∷ cs) h =
    let e = told_length c (all_first fits c cs h) in
    let i = numbered_length cs (all_rest fits c cs h) in
    length-append (told c) (numbered cs) ∙ rw (e, i) (omega arith)

numbered_at : (cs : List Carried) → all fits cs ≡ true → (i : ℕ) → i < length cs → carried (call_at (numbered cs) i) ≡ get_or cs i reset
unfolding numbered
numbered_at [] h i l = absurd (omega arith)
numbered_at (c ∷ cs) h zero l =
    let e = call_first (call_of c).kind (call_of c).first (call_of c).count (call_of c).values (numbered cs) (values_length c (all_first fits c cs h)) in
    ap carried e ∙ carried_fits c (all_first fits c cs h)
numbered_at (c ∷ cs) h (suc i) l =
    ap carried (call_later (told c) (numbered cs) (told_length c (all_first fits c cs h)) i) ∙ numbered_at cs (all_rest fits c cs h) i (omega arith)

pub listed_numbered : (cs : List Carried) → all fits cs ≡ true → listed (numbered cs) ≡ cs
unfolding listed
listed_numbered cs h =
    let n = numbered_length cs h in
    let e : length (numbered cs) / 35 ≡ length cs = rw n (omega arith) in
    rw e (by_table reset (λ i. carried (call_at (numbered cs) i)) (length cs) cs refl (numbered_at cs h))
