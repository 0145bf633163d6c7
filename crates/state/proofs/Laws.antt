-- Laws of the queue.
--
--    shift_fifteen             the code's way to shift the places
--    taken_none, taken_some    a code is taken out of an empty queue, and of one where codes wait
--    put_room, put_full        a code is put where there is room, and dropped where there is none
--    put_all_snoc               the last of several codes is put last
-- Assumes nothing.
use Prim.Native.Nat.{ℕ, zero, suc, ◌+◌, ◌-◌, ◌≤◌, ◌<◌}
use native.Mathlib.Omega.{arith}
use mathlib.Core.Path.{◌≡◌, refl, sym, ap}
use mathlib.Core.Bool.{Bool, true}
use mathlib.Core.List.{List, [], ◌∷◌, ◌++◌}
use lib.ListN.{length, get_or, set}
use borrow.Author.Tests.{lt-ltb, le-ltb}
use Rattle.state.specs.Module.{Queue, queue}
use Rattle.state.specs.Queue.{waits, put, put_all, oldest, shifted, taken}

-- a list by its elements
by_elements : ℕ → (ℕ → ℕ) → List ℕ
by_elements zero f = []
by_elements (suc n) f = f 0 ∷ by_elements n (λ k. f (suc k))

by_elements_lem : (l : List ℕ) (n : ℕ) → length l ≡ n → l ≡ by_elements n (λ k. get_or l k 0)
unfolding by_elements
by_elements_lem [] zero e = refl
by_elements_lem [] (suc n) e = absurd (omega arith)
by_elements_lem (x ∷ l) zero e = absurd (omega arith)
by_elements_lem (x ∷ l) (suc n) e = ap (λ (r : List ℕ). x ∷ r) (by_elements_lem l n (omega arith))

pub shift_fifteen : (q : List ℕ) → length q ≡ 15
    → (get_or q 1 0 ∷ get_or q 2 0 ∷ get_or q 3 0 ∷ get_or q 4 0 ∷ get_or q 5 0 ∷ get_or q 6 0 ∷ get_or q 7 0
    ∷ get_or q 8 0 ∷ get_or q 9 0 ∷ get_or q 10 0 ∷ get_or q 11 0 ∷ get_or q 12 0 ∷ get_or q 13 0 ∷ get_or q 14 0 ∷ 0x7F ∷ []) ≡ shifted q
unfolding shifted by_elements
shift_fifteen [] e = absurd (omega arith)
shift_fifteen (x ∷ q) e = ap (λ (l : List ℕ). l ++ (0x7F ∷ [])) (sym (by_elements_lem q 14 (omega arith)))

module _ (l : List ℕ) (n : ℕ) (r : Bool) where
  pub taken_none : n < 1 → (0x7F ≡ oldest (queue l n r)) × (queue l n r ≡ taken (queue l n r))
  unfolding oldest taken waits
  taken_none h = rw (le-ltb 0 n (omega arith)) (refl, refl)

  pub taken_some : 1 ≤ n → (get_or l 0 0 ≡ oldest (queue l n r)) × (queue (shifted l) (n - 1) r ≡ taken (queue l n r))
  unfolding oldest taken waits
  taken_some h = rw (lt-ltb 0 n (omega arith)) (refl, refl)

  pub put_room : (c : ℕ) → n < 15 → put (queue l n r) c ≡ queue (set l n c) (n + 1) r
  unfolding put
  put_room c h = rw (lt-ltb n 15 h)

  pub put_full : (c : ℕ) → 15 ≤ n → put (queue l n r) c ≡ queue l n true
  unfolding put
  put_full c h = rw (le-ltb n 15 h)

pub put_all_snoc : (q : Queue) (cs : List ℕ) (c : ℕ) → put_all q (cs ++ (c ∷ [])) ≡ put (put_all q cs) c
unfolding put_all
put_all_snoc q [] c = refl
put_all_snoc q (d ∷ cs) c = put_all_snoc (put q d) cs c
