-- Laws of the marks: what stands at a place, over any rule.
--
--    right_stands, stands_right    what is right at a place stands there, and what stands there is right
--    stand_begins                  where something begins, what the marks have there stands there
--    begins_stands                 and where something stands, something begins
--    stand_only                    what stands at a place is what the marks have there
--    marks_later, marks_within     no mark is at an earlier place than the first, or beyond the list
--    end_stands                    nothing more stands at the list's length
-- Assumes nothing.
use Prim.Native.Nat.{ℕ, ◌+◌, ◌<◌, ◌≤◌}
use native.Mathlib.Omega.{arith}
use mathlib.Core.Path.{◌≡◌, refl, sym, ap, subst}
use mathlib.Core.Logic.{inl, inr}
use mathlib.Core.Bool.{Bool, true, false, cond, ◌||◌}
use mathlib.Core.List.{List, [], ◌∷◌, ◌++◌, append_assoc}
use lib.ListN.{length, length-append}
use lib.Dec.{eqb}
use borrow.Author.Tests.{eqb-true, eq-eqb, ne_eqb}
use Rattle.words.proofs.Laws.{true_false}
use Rattle.undo.specs.Groups.{groups_of, joined, In}
use Rattle.undo.specs.Stands.{Mark, mark, tail_from, marks_from, marks_of, begins, stand_at, Stands}
use Rattle.undo.specs.Exactly.{Begins, Right}
use Rattle.undo.specs.Answers.{Stand, Group, Open, Nothing, Declined}
use Rattle.undo.proofs.Groups.{covers, a_group, group_some}

-- `Begins` of groups of which the first is at a place
BeginsFrom : ℕ → ℕ → ℕ → List (List ℕ) → Type 0
BeginsFrom at p e gs =
    (before : List (List ℕ)) × ((g : List ℕ) × ((after : List (List ℕ)) × ((gs ≡ before ++ (g ∷ after)) × ((p ≡ at + length (joined before)) × (e ≡ p + length g)))))

group_at : (p f e at : ℕ) (gs : List (List ℕ)) (t : List ℕ) → Stands p (Group f e) (marks_from at gs t) → (f ≡ p) × BeginsFrom at p e gs
unfolding Stands marks_from tail_from joined BeginsFrom
group_at p f e at [] [] (inl h) = cc
group_at p f e at [] [] (inr i) = absurd i
group_at p f e at [] (c ∷ t) (inl h) = cc
group_at p f e at [] (c ∷ t) (inr (inl h)) = cc
group_at p f e at [] (c ∷ t) (inr (inr i)) = absurd i
group_at p f e at (g ∷ gs) t (inl h) =
    let same : p ≡ at = h.0 in
    let first : f ≡ at = cc in
    let end : e ≡ at + length g = cc in
    (omega arith, ([], (g, (gs, (refl, (omega arith, omega arith))))))
group_at p f e at (g ∷ gs) t (inr i) =
    let r = group_at p f e (at + length g) gs t i in
    let b = r.1.0 in
    let l : p ≡ at + length g + length (joined b) = r.1.1.1.1.1.0 in
    let n : length (g ++ joined b) ≡ length g + length (joined b) = length-append g (joined b) in
    (r.0, ((g ∷ b), (r.1.1.0, (r.1.1.1.0, (ap (λ (x : List (List ℕ)). g ∷ x) r.1.1.1.1.0, (omega arith, r.1.1.1.1.1.1))))))

nothing_at : (p at : ℕ) (gs : List (List ℕ)) (t : List ℕ) → Stands p Nothing (marks_from at gs t) → p ≡ at + length (joined gs ++ t)
unfolding Stands marks_from tail_from joined
nothing_at p at [] [] (inl h) = let e : p ≡ at = h.0 in omega arith
nothing_at p at [] [] (inr i) = absurd i
nothing_at p at [] (c ∷ t) (inl h) = cc
nothing_at p at [] (c ∷ t) (inr (inl h)) = h.0
nothing_at p at [] (c ∷ t) (inr (inr i)) = absurd i
nothing_at p at (g ∷ gs) t (inl h) = cc
nothing_at p at (g ∷ gs) t (inr i) =
    let r : p ≡ at + length g + length (joined gs ++ t) = nothing_at p (at + length g) gs t i in
    rw (append_assoc g (joined gs) t, length-append g (joined gs ++ t)) (omega arith)

open_at : (p q at : ℕ) (gs : List (List ℕ)) (t : List ℕ) → Stands p (Open q) (marks_from at gs t) → (q ≡ p) × ((p ≡ at + length (joined gs)) × (0 < length t))
unfolding Stands marks_from tail_from joined
open_at p q at [] [] (inl h) = cc
open_at p q at [] [] (inr i) = absurd i
open_at p q at [] (c ∷ t) (inl h) =
    let same : p ≡ at = h.0 in
    let first : q ≡ at = cc in
    (omega arith, (omega arith, omega arith))
open_at p q at [] (c ∷ t) (inr (inl h)) = cc
open_at p q at [] (c ∷ t) (inr (inr i)) = absurd i
open_at p q at (g ∷ gs) t (inl h) = cc
open_at p q at (g ∷ gs) t (inr i) =
    let r = open_at p q (at + length g) gs t i in
    let l : p ≡ at + length g + length (joined gs) = r.1.0 in
    (r.0, (rw (length-append g (joined gs)) (omega arith), r.1.1))

declined_at : (p n at : ℕ) (gs : List (List ℕ)) (t : List ℕ) → Stands p (Declined n) (marks_from at gs t) → ⊥
unfolding Stands marks_from tail_from
declined_at p n at [] [] (inl h) = cc
declined_at p n at [] [] (inr i) = i
declined_at p n at [] (c ∷ t) (inl h) = cc
declined_at p n at [] (c ∷ t) (inr (inl h)) = cc
declined_at p n at [] (c ∷ t) (inr (inr i)) = i
declined_at p n at (g ∷ gs) t (inl h) = cc
declined_at p n at (g ∷ gs) t (inr i) = declined_at p n (at + length g) gs t i

group_put : (at : ℕ) (before : List (List ℕ)) (g : List ℕ) (after : List (List ℕ)) (t : List ℕ) (p : ℕ) → p ≡ at + length (joined before) → Stands p (Group p (p + length g)) (marks_from at (before ++ (g ∷ after)) t)
unfolding Stands marks_from joined
group_put at [] g after t p h =
    let same : p ≡ at = omega arith in
    inl (same, ap (λ (n : ℕ). Group n (n + length g)) same)
group_put at (b ∷ before) g after t p h =
    let l : length (b ++ joined before) ≡ length b + length (joined before) = length-append b (joined before) in
    inr (group_put (at + length b) before g after t p (omega arith))

open_put : (at : ℕ) (gs : List (List ℕ)) (t : List ℕ) (p : ℕ) → 0 < length t → p ≡ at + length (joined gs) → Stands p (Open p) (marks_from at gs t)
unfolding Stands marks_from tail_from joined
open_put at [] [] p h e = absurd (omega arith)
open_put at [] (c ∷ t) p h e = let same : p ≡ at = omega arith in inl (same, ap (λ (n : ℕ). Open n) same)
open_put at (g ∷ gs) t p h e =
    let l : length (g ++ joined gs) ≡ length g + length (joined gs) = length-append g (joined gs) in
    inr (open_put (at + length g) gs t p h (omega arith))

end_put : (at : ℕ) (gs : List (List ℕ)) (t : List ℕ) (p : ℕ) → p ≡ at + length (joined gs ++ t) → Stands p Nothing (marks_from at gs t)
unfolding Stands marks_from tail_from joined
end_put at [] [] p e = inl (omega arith, refl)
end_put at [] (c ∷ t) p e = inr (inl (e, refl))
end_put at (g ∷ gs) t p e =
    let a : length ((g ++ joined gs) ++ t) ≡ length (g ++ (joined gs ++ t)) = ap (λ (l : List ℕ). length l) (append_assoc g (joined gs) t) in
    let b : length (g ++ (joined gs ++ t)) ≡ length g + length (joined gs ++ t) = length-append g (joined gs ++ t) in
    inr (end_put (at + length g) gs t p (omega arith))

or_right : (a b : Bool) → a ≡ false → (a || b) ≡ true → b ≡ true
or_right a b e h = subst (λ (t : Bool). (t || b) ≡ true) e h

or_later : (a b : Bool) → b ≡ true → (a || b) ≡ true
or_later true b e = refl
or_later false b e = e

module _ (p : ℕ) (x : Stand) where
  pub marks_later : (at : ℕ) (gs : List (List ℕ)) (t : List ℕ) → Stands p x (marks_from at gs t) → at ≤ p
  unfolding Stands marks_from tail_from
  marks_later at [] [] (inl h) = let e : p ≡ at = h.0 in omega arith
  marks_later at [] [] (inr i) = absurd i
  marks_later at [] (c ∷ t) (inl h) = let e : p ≡ at = h.0 in omega arith
  marks_later at [] (c ∷ t) (inr (inl h)) = let e : p ≡ at + length (c ∷ t) = h.0 in omega arith
  marks_later at [] (c ∷ t) (inr (inr i)) = absurd i
  marks_later at (g ∷ gs) t (inl h) = let e : p ≡ at = h.0 in omega arith
  marks_later at (g ∷ gs) t (inr i) = let e : at + length g ≤ p = marks_later (at + length g) gs t i in omega arith

  no_later : (at : ℕ) (gs : List (List ℕ)) (t : List ℕ) → Stands p x (marks_from at gs t) → p ≤ at + length (joined gs ++ t)
  unfolding Stands marks_from tail_from joined
  no_later at [] [] (inl h) = let e : p ≡ at = h.0 in omega arith
  no_later at [] [] (inr i) = absurd i
  no_later at [] (c ∷ t) (inl h) = let e : p ≡ at = h.0 in omega arith
  no_later at [] (c ∷ t) (inr (inl h)) = let e : p ≡ at + length (c ∷ t) = h.0 in omega arith
  no_later at [] (c ∷ t) (inr (inr i)) = absurd i
  no_later at (g ∷ gs) t (inl h) = let e : p ≡ at = h.0 in omega arith
  no_later at (g ∷ gs) t (inr i) =
      let r : p ≤ at + length g + length (joined gs ++ t) = no_later (at + length g) gs t i in
      rw (append_assoc g (joined gs) t, length-append g (joined gs ++ t)) (omega arith)

  found : (at : ℕ) (gs : List (List ℕ)) (t : List ℕ) → ((h : List ℕ) → In h gs → 0 < length h) → Stands p x (marks_from at gs t) → stand_at p (marks_from at gs t) ≡ x
  unfolding Stands marks_from tail_from stand_at In
  found at [] [] f (inl h) = rw (eq-eqb p at h.0) (sym h.1)
  found at [] [] f (inr i) = absurd i
  found at [] (c ∷ t) f (inl h) = rw (eq-eqb p at h.0) (sym h.1)
  found at [] (c ∷ t) f (inr (inl h)) =
      let e : p ≡ at + length (c ∷ t) = h.0 in
      let d : p ≡ at → ⊥ = λ same. omega arith in
      rw (ne_eqb p at d, eq-eqb p (at + length (c ∷ t)) e) (sym h.1)
  found at [] (c ∷ t) f (inr (inr i)) = absurd i
  found at (g ∷ gs) t f (inl h) = rw (eq-eqb p at h.0) (sym h.1)
  found at (g ∷ gs) t f (inr i) =
      let l : at + length g ≤ p = marks_later (at + length g) gs t i in
      let n : 0 < length g = f g (inl refl) in
      let d : p ≡ at → ⊥ = λ same. omega arith in
      rw (ne_eqb p at d) (found (at + length g) gs t (λ h j. f h (inr j)) i)

  pub begins_stands : (l : List Mark) → Stands p x l → begins p l ≡ true
  unfolding Stands begins
  begins_stands [] i = absurd i
  begins_stands (mark q y ∷ l) (inl h) = rw (eq-eqb p q h.0) refl
  begins_stands (mark q y ∷ l) (inr i) = or_later (eqb p q) (begins p l) (begins_stands l i)

pub stand_begins : (p : ℕ) (l : List Mark) → begins p l ≡ true → Stands p (stand_at p l) l
unfolding Stands begins stand_at
stand_begins p [] e = true_false (sym e)
stand_begins p (mark q x ∷ l) e = go (eqb p q) refl (λ n. stand_begins p l (or_right (eqb p q) (begins p l) n e))
  where
    go : (b : Bool) → eqb p q ≡ b → (eqb p q ≡ false → Stands p (stand_at p l) l) → Stands p (stand_at p (mark q x ∷ l)) (mark q x ∷ l)
    go true h rest = rw h (inl (eqb-true p q h, refl))
    go false h rest = inr (subst (λ (y : Stand). Stands p y l) (sym (ap (λ (b : Bool). cond b x (stand_at p l)) h)) (rest h))

-- no mark of these is at an earlier place
pub stand_earlier : (p at : ℕ) (gs : List (List ℕ)) (t : List ℕ) → p < at → begins p (marks_from at gs t) ≡ false
stand_earlier p at gs t h = go (begins p (marks_from at gs t)) refl
  where
    go : (b : Bool) → begins p (marks_from at gs t) ≡ b → b ≡ false
    go true e = let l : at ≤ p = marks_later p (stand_at p (marks_from at gs t)) at gs t (stand_begins p (marks_from at gs t) e) in absurd (omega arith)
    go false e = refl

module _ (ended : List ℕ → Bool) (trim : ℕ) (s : List ℕ) where
  full : (h : List ℕ) → In h (groups_of ended trim s).groups → 0 < length h
  full h i = group_some ended trim h (a_group ended trim s h i)

  -- the list's length, by its groups and its tail
  long : length (joined (groups_of ended trim s).groups ++ (groups_of ended trim s).tail) ≡ length s
  long = ap (λ (l : List ℕ). length l) (covers ended trim s)

  module _ (p : ℕ) where
    pub stand_only : (x : Stand) → Stands p x (marks_of ended trim s) → stand_at p (marks_of ended trim s) ≡ x
    unfolding marks_of
    stand_only x i = found p x 0 (groups_of ended trim s).groups (groups_of ended trim s).tail full i

    pub stands_right : (x : Stand) → Stands p x (marks_of ended trim s) → Right ended trim s p x
    unfolding marks_of Right Begins BeginsFrom
    stands_right (Group f e) i =
        let r = group_at p f e 0 (groups_of ended trim s).groups (groups_of ended trim s).tail i in
        let l : p ≡ 0 + length (joined r.1.0) = r.1.1.1.1.1.0 in
        (r.0, (r.1.0, (r.1.1.0, (r.1.1.1.0, (r.1.1.1.1.0, (omega arith, r.1.1.1.1.1.1))))))
    stands_right (Open q) i =
        let r = open_at p q 0 (groups_of ended trim s).groups (groups_of ended trim s).tail i in
        let l : p ≡ 0 + length (joined (groups_of ended trim s).groups) = r.1.0 in
        (r.0, (omega arith, r.1.1))
    stands_right Nothing i =
        let r : p ≡ 0 + length (joined (groups_of ended trim s).groups ++ (groups_of ended trim s).tail) = nothing_at p 0 (groups_of ended trim s).groups (groups_of ended trim s).tail i in
        let l = long in
        omega (arith, l)
    stands_right (Declined n) i = declined_at p n 0 (groups_of ended trim s).groups (groups_of ended trim s).tail i

    pub right_stands : (x : Stand) → Right ended trim s p x → Stands p x (marks_of ended trim s)
    unfolding marks_of Right Begins
    right_stands (Group f e) r =
        let b = r.1 in
        let l : p ≡ length (joined b.0) = b.1.1.1.1.0 in
        let put = group_put 0 b.0 b.1.0 b.1.1.0 (groups_of ended trim s).tail p (omega arith) in
        let placed : Stands p (Group p (p + length b.1.0)) (marks_from 0 (groups_of ended trim s).groups (groups_of ended trim s).tail) =
        subst (λ (gs : List (List ℕ)). Stands p (Group p (p + length b.1.0)) (marks_from 0 gs (groups_of ended trim s).tail)) (sym b.1.1.1.0) put
        in
        subst (λ (y : Stand). Stands p y (marks_from 0 (groups_of ended trim s).groups (groups_of ended trim s).tail)) (λ i. Group (sym r.0 i) (sym b.1.1.1.1.1 i)) placed
    right_stands (Open q) r =
        let l : p ≡ length (joined (groups_of ended trim s).groups) = r.1.0 in
        subst (λ (n : ℕ). Stands p (Open n) (marks_from 0 (groups_of ended trim s).groups (groups_of ended trim s).tail)) (sym r.0)
        (open_put 0 (groups_of ended trim s).groups (groups_of ended trim s).tail p r.1.1 (omega arith))
    right_stands Nothing r =
        let l = long in
        end_put 0 (groups_of ended trim s).groups (groups_of ended trim s).tail p (omega (arith, l, r))
    right_stands (Declined n) r = absurd r

    -- what stands there stands within the list
    pub marks_within : (x : Stand) → Stands p x (marks_of ended trim s) → p ≤ length s
    unfolding marks_of
    marks_within x i =
        let l = long in
        let h : p ≤ 0 + length (joined (groups_of ended trim s).groups ++ (groups_of ended trim s).tail) = no_later p x 0 (groups_of ended trim s).groups (groups_of ended trim s).tail i in
        omega (arith, l, h)

  pub end_stands : Stands (length s) Nothing (marks_of ended trim s)
  unfolding Right
  end_stands = right_stands (length s) Nothing refl
