-- Laws of arrivals.
--
--    room_yes, room_no                        there is room, or there is none
--    codes_append, kept_append, lost_append   arrivals, then more arrivals
--    codes_arriving                           every change arrives, in order
--    kept_arriving                            while there is room a change is kept, then none is
--    lost_arriving                            one is lost exactly when there are more than there is room for
--    all_kept                                 if none is lost, all are kept
-- Assumes nothing.
use Prim.Native.Nat.{ℕ, suc, ◌+◌, ◌-◌, ◌≤◌, ◌<◌}
use native.Mathlib.Decide.{dec_lt}
use native.Mathlib.Omega.{arith}
use mathlib.Core.Path.{◌≡◌, refl, sym, ap}
use mathlib.Core.Bool.{Bool, true, false, cond}
use mathlib.Core.List.{List, [], ◌∷◌, ◌++◌, append_assoc}
use borrow.Author.Tests.{lt-ltb, le-ltb}
use lib.Dec.{ltb}
use lib.ListN.{length, take}
use lib.Seq.{take-nil}
use Rattle.words.specs.Words.{some}
use Rattle.sheet.specs.Ledger.{Arrival, room, arriving, codes, kept, lost}

pub room_yes : (n : ℕ) → n < 15 → room n ≡ true
unfolding room
room_yes n h = lt-ltb n 15 h

pub room_no : (n : ℕ) → 15 ≤ n → room n ≡ false
unfolding room
room_no n h = le-ltb n 15 h

pub codes_append : (a b : List Arrival) → codes (a ++ b) ≡ codes a ++ codes b
unfolding codes
codes_append [] b = refl
codes_append (x ∷ a) b = ap (λ (l : List ℕ). x.change ∷ l) (codes_append a b)

pub kept_append : (a b : List Arrival) → kept (a ++ b) ≡ kept a ++ kept b
unfolding kept
kept_append [] b = refl
kept_append (x ∷ a) b = rw (kept_append a b) (sym (append_assoc (cond (room x.waited) (x.change ∷ []) []) (kept a) (kept b)))

pub lost_append : (a b : List Arrival) → lost (a ++ b) ≡ lost a ++ lost b
unfolding lost
lost_append [] b = refl
lost_append (x ∷ a) b = rw (lost_append a b) (sym (append_assoc (cond (room x.waited) [] (x.change ∷ [])) (lost a) (lost b)))

pub codes_arriving : (n : ℕ) (cs : List ℕ) → codes (arriving n cs) ≡ cs
unfolding codes arriving
codes_arriving n [] = refl
codes_arriving n (c ∷ cs) = ap (λ (l : List ℕ). c ∷ l) (codes_arriving (cond (room n) (n + 1) n) cs)

pub kept_arriving : (n : ℕ) (cs : List ℕ) → n ≤ 15 → kept (arriving n cs) ≡ take (15 - n) cs
unfolding kept arriving
kept_arriving n [] h = sym (take-nil (15 - n))
kept_arriving n (c ∷ cs) h = go (dec_lt n 15) (λ g. kept_arriving (n + 1) cs g) (kept_arriving n cs h)
  where
    go : Dec (n < 15) → (n + 1 ≤ 15 → kept (arriving (n + 1) cs) ≡ take (15 - (n + 1)) cs) → kept (arriving n cs) ≡ take (15 - n) cs
        → cond (room n) (c ∷ []) [] ++ kept (arriving (cond (room n) (n + 1) n) cs) ≡ take (15 - n) (c ∷ cs)
    go (yes g) i j = let e : 15 - n ≡ suc (15 - (n + 1)) = omega arith in rw (room_yes n g, e, i (omega arith))
    go (no g) i j = let e : 15 - n ≡ 0 = omega (arith, g) in rw (room_no n (omega (arith, g)), j, e)

pub lost_arriving : (n : ℕ) (cs : List ℕ) → n ≤ 15 → some (lost (arriving n cs)) ≡ ltb 15 (n + length cs)
unfolding lost arriving some
lost_arriving n [] h = sym (le-ltb 15 (n + 0) (omega arith))
lost_arriving n (c ∷ cs) h = go (dec_lt n 15) (λ g. lost_arriving (n + 1) cs g)
  where
    go : Dec (n < 15) → (n + 1 ≤ 15 → some (lost (arriving (n + 1) cs)) ≡ ltb 15 (n + 1 + length cs))
        → some (cond (room n) [] (c ∷ []) ++ lost (arriving (cond (room n) (n + 1) n) cs)) ≡ ltb 15 (n + suc (length cs))
    go (yes g) i = let e : n + 1 + length cs ≡ n + suc (length cs) = omega arith in rw (room_yes n g, ← e) (i (omega arith))
    go (no g) i = rw (room_no n (omega (arith, g)), lt-ltb 15 (n + suc (length cs)) (omega (arith, g)))

pub all_kept : (l : List Arrival) → lost l ≡ [] → kept l ≡ codes l
unfolding kept lost codes
all_kept [] h = refl
all_kept (x ∷ l) h = go (room x.waited) h (all_kept l)
  where
    go : (b : Bool) → cond b [] (x.change ∷ []) ++ lost l ≡ [] → (lost l ≡ [] → kept l ≡ codes l) → cond b (x.change ∷ []) [] ++ kept l ≡ x.change ∷ codes l
    go true h i = ap (λ (t : List ℕ). x.change ∷ t) (i h)
    go false h i = cc
