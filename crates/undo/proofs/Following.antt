-- Laws that the code's walks need: what stands at a place where something begins, the marks and the ends from there on.
--
--    put_from; put_none, put_next, put_all    ends put one by one, from a place on; so they are put over the buffer
--    marks_at, ends_at, tail_at, count_at        the marks, the groups' ends, the tail's first place and how many groups there are, the list being cut from a place on
--    next_none, next_alone                   what stands at the end, and at a code outside
--    open_at; open_begin, open_on             a group that the trim key opens, up to a place; a code further each time
--    open_ends, open_end                     it ends with this code; the list ends before it does
--    Grouped; next_group, next_stops         a group stands at a place; it does if that is what stands there, and else no group follows
--    group_later, group_within               it ends later than it begins, within the list; groups-past: past the list there is none
--    marks_skip, marks_stop                  the marks of a later place, past a group and where none follows
--    marks_here, marks_past, marks_end       the marks of the very place, of an earlier one, of the list's end
--    ends-.., tail-.., count-..              the ends, the tail and the count, past a group and where none follows
--    HandedOut; handed_none, handed_on       so many groups are handed out: none at first, one more past a group
--    handed_all, handed_ends                 where no group follows, all are, with their ends in the buffer
-- Assumes nothing.
use Prim.Native.Nat.{ℕ, zero, suc, ◌+◌, ◌-◌, ◌<◌, ◌≤◌, min}
use native.Mathlib.Omega.{arith}
use mathlib.Core.Path.{◌≡◌, refl, sym, ap, ◌∙◌, subst}
use mathlib.Core.Logic.{inl}
use mathlib.Core.Bool.{Bool, true, false}
use mathlib.Core.List.{List, [], ◌∷◌, ◌++◌}
use lib.ListN.{length, take, drop, get_or, set, length-append, length-drop, length-take, drop_of_length-le}
use lib.Seq.{take-suc, drop-cons, get_or-drop, drop-drop}
use lib.Dec.{eqb}
use borrow.Author.Tests.{eq-eqb, ne_eqb}
use Rattle.numbers.specs.Numbers.{done, inside_group}
use Rattle.codes.specs.Codes.{opposite}
use Rattle.undo.specs.Groups.{Cut, more, cut, groups_of, joined, In, last_is, ends_with_release}
use Rattle.undo.specs.Stands.{Mark, mark, tail_from, marks_from, marks_of, stand_at}
use Rattle.undo.specs.Walk.{ends_from, handed, over}
use Rattle.undo.specs.Places.{standing, next_at}
use Rattle.undo.specs.Answers.{Group, Open, Nothing, Declined, stood}
use Rattle.undo.specs.declared.Stand as found
use Rattle.undo.specs.declared.Stand.TheVariants as found-
use Rattle.undo.proofs.Groups.{covers, a_group, group_some, cut_finished, cut_outside, cut_inside, groups_first}
use Rattle.undo.proofs.Marks.{stand_only, end_stands, stand_earlier}
use Rattle.undo.proofs.Exact.{stand_none}

last_is_lem : (c x : ℕ) (g : List ℕ) → last_is c (g ++ (x ∷ [])) ≡ eqb x c
unfolding last_is
last_is_lem c x [] = refl
last_is_lem c x (y ∷ []) = refl
last_is_lem c x (y ∷ z ∷ g) = last_is_lem c x (z ∷ g)

-- ---- the buffer

-- ends put one by one, from a place on
unfoldable pub put_from : ℕ → List ℕ → List ℕ → List ℕ
put_from n [] out = out
put_from n (e ∷ es) out = put_from (n + 1) es (set out n e)

put_later : (n : ℕ) (es : List ℕ) (o : ℕ) (out : List ℕ) → put_from (suc n) es (o ∷ out) ≡ o ∷ put_from n es out
unfolding put_from
put_later n [] o out = refl
put_later n (e ∷ es) o out =
    let k : suc n + 1 ≡ suc (n + 1) = omega arith in
    ap (λ (m : ℕ). put_from m es (o ∷ set out n e)) k ∙ put_later (n + 1) es o (set out n e)

put_nowhere : (n : ℕ) (es : List ℕ) → put_from n es [] ≡ []
unfolding put_from
put_nowhere n [] = refl
put_nowhere n (e ∷ es) = put_nowhere (n + 1) es

pub put_all : (es out : List ℕ) → put_from 0 es out ≡ over es out
unfolding put_from over
put_all [] out = refl
put_all (e ∷ es) [] = put_nowhere 1 es
put_all (e ∷ es) (o ∷ out) = put_later 0 es e out ∙ ap (λ (l : List ℕ). e ∷ l) (put_all es out)

pub put_none : (n : ℕ) (out : List ℕ) → put_from n [] out ≡ out
unfolding put_from
put_none n out = refl

pub put_next : (n e : ℕ) (es out : List ℕ) → put_from n (e ∷ es) out ≡ put_from (n + 1) es (set out n e)
unfolding put_from
put_next n e es out = refl

module _ (ended : List ℕ → Bool) (trim : ℕ) (s : List ℕ) where
  unfoldable pub marks_at : ℕ → List Mark
  marks_at at = marks_from at (groups_of ended trim (drop at s)).groups (groups_of ended trim (drop at s)).tail

  unfoldable pub ends_at : ℕ → List ℕ
  ends_at at = ends_from at (groups_of ended trim (drop at s)).groups

  unfoldable pub tail_at : ℕ → ℕ
  tail_at at = at + length (joined (groups_of ended trim (drop at s)).groups)

  module _ (at : ℕ) where
    pub next_none : length s ≤ at → Nothing ≡ next_at ended trim s at
    unfolding next_at groups_of cut standing
    next_none h = rw (drop_of_length-le s h)

    pub next_alone : at < length s → (get_or s at 0 ≡ trim → ⊥) → Group at (at + 1) ≡ next_at ended trim s at
    unfolding next_at standing more
    next_alone h ne =
        let c : groups_of ended trim (drop at s) ≡ more (get_or s at 0 ∷ []) (groups_of ended trim (drop (suc at) s)) =
        ap (λ (l : List ℕ). groups_of ended trim l) (drop-cons s at 0 h)
        ∙ cut_outside ended trim (get_or s at 0) (drop (suc at) s) false (ne_eqb _ _ ne)
        ∙ cut_finished ended trim (get_or s at 0 ∷ []) (drop (suc at) s)
        in
        rw c

  -- ---- a group that the trim key opens

  -- the first so many codes of a list are an open group: with one code more it is open still, or has ended
  grow : (l : List ℕ) (n : ℕ) → 0 < n → n < length l → cut ended trim false (take n l) (drop n l) ≡ cut ended trim (ended (take (suc n) l)) (take (suc n) l) (drop (suc n) l)
  grow [] n h k = absurd (omega arith)
  grow (y ∷ r) zero h k = absurd (omega arith)
  grow (y ∷ r) (suc m) h k =
      ap (λ (d : List ℕ). cut ended trim false (y ∷ take m r) d) (drop-cons (y ∷ r) (suc m) 0 k)
      ∙ cut_inside ended trim y (take m r) (get_or (y ∷ r) (suc m) 0) (drop (suc (suc m)) (y ∷ r)) (ended ((y ∷ take m r) ++ (get_or (y ∷ r) (suc m) 0 ∷ []))) refl
      ∙ ap (λ (g : List ℕ). cut ended trim (ended g) g (drop (suc (suc m)) (y ∷ r))) (sym (take-suc (y ∷ r) (suc m) 0 k))

  module _ (at : ℕ) where
    -- the codes from the place `at` up to the place i are an open group
    unfoldable pub open_at : ℕ → Cut
    open_at i = cut ended trim false (take (i - at) (drop at s)) (drop i s)

    pub open_begin : at < length s → get_or s at 0 ≡ trim → groups_of ended trim (drop at s) ≡ open_at (at + 1)
    unfolding open_at
    open_begin h e =
        let n : at + 1 - at ≡ 1 = omega arith in
        let m : at + 1 ≡ suc at = omega arith in
        let d = drop-cons s at 0 h in
        ap (λ (l : List ℕ). groups_of ended trim l) d
        ∙ cut_outside ended trim (get_or s at 0) (drop (suc at) s) true (eq-eqb _ _ e)
        ∙ ap (λ (l : List ℕ). cut ended trim false (take 1 l) (drop (suc at) s)) (sym d)
        ∙ (λ i. cut ended trim false (take (sym n i) (drop at s)) (drop (sym m i) s))

    open_more : (i : ℕ) → at < i → i < length s → open_at i ≡ cut ended trim (ended (take (i + 1 - at) (drop at s))) (take (i + 1 - at) (drop at s)) (drop (i + 1) s)
    unfolding open_at
    open_more i h k =
        let d : length (drop at s) ≡ length s - at = length-drop at s in
        let there : at + (i - at) ≡ i = omega arith in
        let next : at + suc (i - at) ≡ i + 1 = omega arith in
        let size : suc (i - at) ≡ i + 1 - at = omega arith in
        ap (λ (l : List ℕ). cut ended trim false (take (i - at) (drop at s)) l) (ap (λ (n : ℕ). drop n s) (sym there) ∙ sym (drop-drop (i - at) at s))
        ∙ grow (drop at s) (i - at) (omega arith) (omega arith)
        ∙ ap (λ (l : List ℕ). cut ended trim (ended (take (suc (i - at)) (drop at s))) (take (suc (i - at)) (drop at s)) l) (drop-drop (suc (i - at)) at s ∙ ap (λ (n : ℕ). drop n s) next)
        ∙ ap (λ (n : ℕ). cut ended trim (ended (take n (drop at s))) (take n (drop at s)) (drop (i + 1) s)) size

    -- the codes up to the place i, the one there included
    with_one : (i : ℕ) → at < i → i < length s → take (i + 1 - at) (drop at s) ≡ take (i - at) (drop at s) ++ (get_or s i 0 ∷ [])
    with_one i h k =
        let d : length (drop at s) ≡ length s - at = length-drop at s in
        let there : at + (i - at) ≡ i = omega arith in
        let size : i + 1 - at ≡ suc (i - at) = omega arith in
        ap (λ (n : ℕ). take n (drop at s)) size
        ∙ take-suc (drop at s) (i - at) 0 (omega arith)
        ∙ ap (λ (x : ℕ). take (i - at) (drop at s) ++ (x ∷ [])) (get_or-drop at s (i - at) 0 ∙ ap (λ (n : ℕ). get_or s n 0) there)

    -- a group that has ended stands there
    ended_stands : (g cs : List ℕ) → groups_of ended trim (drop at s) ≡ cut ended trim true g cs → Group at (at + length g) ≡ next_at ended trim s at
    unfolding next_at standing more
    ended_stands g cs e = let f = e ∙ cut_finished ended trim g cs in rw f

    open_stands : (g : List ℕ) → 0 < length g → groups_of ended trim (drop at s) ≡ cut ended trim false g [] → Open at ≡ next_at ended trim s at
    unfolding next_at standing cut
    open_stands [] h e = absurd (omega arith)
    open_stands (c ∷ g) h e = rw e

    pub open_end : (i : ℕ) → at < i → i ≤ length s → length s ≤ i → groups_of ended trim (drop at s) ≡ open_at i → Open at ≡ next_at ended trim s at
    unfolding open_at
    open_end i h k m e =
        let d : length (drop at s) ≡ length s - at = length-drop at s in
        let n : length (take (i - at) (drop at s)) ≡ min (i - at) (length (drop at s)) = length-take (i - at) (drop at s) in
        open_stands (take (i - at) (drop at s)) (omega arith) (e ∙ ap (λ (l : List ℕ). cut ended trim false (take (i - at) (drop at s)) l) (drop_of_length-le s m))

  -- ---- past a group, or where there is none

  -- a group stands at the place `at` and ends before the place e; the rest is cut as a list of its own
  unfoldable pub Grouped : ℕ → ℕ → Type 0
  Grouped at e = (g : List ℕ) × ((groups_of ended trim (drop at s) ≡ more g (groups_of ended trim (drop e s))) × ((e ≡ at + length g) × ((at < e) × (e ≤ length s))))

  grouped_from : (at : ℕ) (g : List ℕ) (gs : List (List ℕ)) → (groups_of ended trim (drop at s)).groups ≡ g ∷ gs → Grouped at (at + length g)
  unfolding Grouped In
  grouped_from at g gs e =
      let r = groups_first ended trim (drop at s) g gs e in
      let some : 0 < length g = group_some ended trim g (a_group ended trim (drop at s) g (subst (λ (l : List (List ℕ)). In g l) (sym e) (inl refl))) in
      let d : length (drop at s) ≡ length s - at = length-drop at s in
      let l : length g ≤ length (drop at s) = r.1 in
      (g, (r.0 ∙ ap (λ (x : List ℕ). more g (groups_of ended trim x)) (drop-drop (length g) at s), (refl, (omega arith, omega arith))))

  stands_group : (at : ℕ) (gs : List (List ℕ)) (t : List ℕ) (f e : ℕ) → (groups_of ended trim (drop at s)).groups ≡ gs → Group f e ≡ standing at gs t → (f ≡ at) × Grouped at e
  unfolding standing
  stands_group at [] [] f e h k = cc
  stands_group at [] (c ∷ t) f e h k = cc
  stands_group at (g ∷ gs) t f e h k = let same : at + length g ≡ e = cc in (cc, subst (λ (n : ℕ). Grouped at n) same (grouped_from at g gs h))

  pub next_group : (at f e : ℕ) → Group f e ≡ next_at ended trim s at → (f ≡ at) × Grouped at e
  unfolding next_at
  next_group at f e h = stands_group at (groups_of ended trim (drop at s)).groups (groups_of ended trim (drop at s)).tail f e refl h

  stops : (at : ℕ) (gs : List (List ℕ)) (t : List ℕ) (x : found.Stand) → stood x ≡ standing at gs t → ((f e : ℕ) → x ≡ found-.Group f e → ⊥) → gs ≡ []
  unfolding standing
  stops at [] t x h k = refl
  stops at (g ∷ gs) t (found-.Group f e) h k = absurd (k f e refl)
  stops at (g ∷ gs) t (found-.Open p) h k = cc
  stops at (g ∷ gs) t found-.Nothing h k = cc

  -- where a test of the tag showed that it is no group, there is none from here on
  pub next_stops : (at : ℕ) (x : found.Stand) → stood x ≡ next_at ended trim s at → ((f e : ℕ) → x ≡ found-.Group f e → ⊥) → (groups_of ended trim (drop at s)).groups ≡ []
  unfolding next_at
  next_stops at x h k = stops at _ _ x h k

  pub groups_past : (at : ℕ) → length s ≤ at → (groups_of ended trim (drop at s)).groups ≡ []
  unfolding groups_of cut
  groups_past at h = rw (drop_of_length-le s h)

  -- ---- the marks

  marks_on : (at e : ℕ) → Grouped at e → marks_at at ≡ mark at (Group at e) ∷ marks_at e
  unfolding marks_at marks_from more Grouped
  marks_on at e r =
      let f = r.1.0 in
      let n = r.1.1.0 in
      ap (λ (c : Cut). marks_from at c.groups c.tail) f
      ∙ ap (λ (k : ℕ). mark at (Group at k) ∷ marks_from k (groups_of ended trim (drop e s)).groups (groups_of ended trim (drop e s)).tail) (sym n)

  pub marks_skip : (at e p : ℕ) → Grouped at e → at < p → stand_at p (marks_at at) ≡ stand_at p (marks_at e)
  unfolding stand_at
  marks_skip at e p r h =
      let d : p ≡ at → ⊥ = λ same. omega arith in
      rw (marks_on at e r, ne_eqb p at d)

  pub marks_all : marks_of ended trim s ≡ marks_at 0
  unfolding marks_of marks_at
  marks_all = refl

  tail_marks : (at p : ℕ) (t : List ℕ) → at < p → (p ≡ at + length t → ⊥) → stand_at p (tail_from at t) ≡ Declined inside_group
  unfolding stand_at tail_from
  tail_marks at p [] h d = let e : p ≡ at → ⊥ = λ same. omega arith in rw (ne_eqb p at e)
  tail_marks at p (c ∷ t) h d = let e : p ≡ at → ⊥ = λ same. omega arith in rw (ne_eqb p at e, ne_eqb p (at + length (c ∷ t)) d)

  pub marks_stop : (at p : ℕ) → (groups_of ended trim (drop at s)).groups ≡ [] → at < p → p < length s → Declined inside_group ≡ stand_at p (marks_at at)
  unfolding marks_at marks_from joined
  marks_stop at p e h k =
      let d : length (drop at s) ≡ length s - at = length-drop at s in
      let t : (groups_of ended trim (drop at s)).tail ≡ drop at s = ap (λ (gs : List (List ℕ)). joined gs ++ (groups_of ended trim (drop at s)).tail) (sym e) ∙ covers ended trim (drop at s) in
      let l : length (groups_of ended trim (drop at s)).tail ≡ length (drop at s) = ap (λ (x : List ℕ). length x) t in
      let far : p ≡ at + length (groups_of ended trim (drop at s)).tail → ⊥ = λ same. omega (arith, same, l, d) in
      sym (ap (λ (gs : List (List ℕ)). stand_at p (marks_from at gs (groups_of ended trim (drop at s)).tail)) e ∙ tail_marks at p (groups_of ended trim (drop at s)).tail h far)

  here : (at : ℕ) (gs : List (List ℕ)) (t : List ℕ) → stand_at at (marks_from at gs t) ≡ standing at gs t
  unfolding stand_at marks_from tail_from standing
  here at [] [] = rw (eq-eqb at at refl)
  here at [] (c ∷ t) = rw (eq-eqb at at refl)
  here at (g ∷ gs) t = rw (eq-eqb at at refl)

  pub marks_here : (at p : ℕ) → at ≡ p → stand_at p (marks_at at) ≡ next_at ended trim s at
  unfolding marks_at next_at
  marks_here at p e = ap (λ (n : ℕ). stand_at n (marks_from at (groups_of ended trim (drop at s)).groups (groups_of ended trim (drop at s)).tail)) (sym e) ∙ here at _ _

  pub marks_past : (at p : ℕ) → p < at → Declined inside_group ≡ stand_at p (marks_at at)
  unfolding marks_at
  marks_past at p h = sym (stand_none p _ (stand_earlier p at _ _ h))

  pub marks_end : (p : ℕ) → p ≡ length s → Nothing ≡ stand_at p (marks_of ended trim s)
  marks_end p e = sym (ap (λ (n : ℕ). stand_at n (marks_of ended trim s)) e ∙ stand_only ended trim s (length s) Nothing (end_stands ended trim s))

  -- ---- the ends, the tail, and how many groups there are

  unfoldable pub count_at : ℕ → ℕ
  count_at at = length (groups_of ended trim (drop at s)).groups

  module _ (at : ℕ) where
    pub ends_none : (groups_of ended trim (drop at s)).groups ≡ [] → ends_at at ≡ []
    unfolding ends_at ends_from
    ends_none e = ap (λ (gs : List (List ℕ)). ends_from at gs) e

    pub tail_none : (groups_of ended trim (drop at s)).groups ≡ [] → tail_at at ≡ at
    unfolding tail_at joined
    tail_none e = let n : at + 0 ≡ at = omega arith in ap (λ (gs : List (List ℕ)). at + length (joined gs)) e ∙ n

    pub count_none : (groups_of ended trim (drop at s)).groups ≡ [] → count_at at ≡ 0
    unfolding count_at
    count_none e = ap (λ (gs : List (List ℕ)). length gs) e

    module _ (e : ℕ) (r : Grouped at e) where
      pub ends_on : ends_at at ≡ e ∷ ends_at e
      unfolding ends_at ends_from more Grouped
      ends_on = ap (λ (c : Cut). ends_from at c.groups) r.1.0 ∙ ap (λ (k : ℕ). k ∷ ends_from k (groups_of ended trim (drop e s)).groups) (sym r.1.1.0)

      pub tail_on : tail_at at ≡ tail_at e
      unfolding tail_at joined more Grouped
      tail_on =
          let l : length (r.0 ++ joined (groups_of ended trim (drop e s)).groups) ≡ length r.0 + length (joined (groups_of ended trim (drop e s)).groups) = length-append r.0 _ in
          let n : e ≡ at + length r.0 = r.1.1.0 in
          let same : at + length (r.0 ++ joined (groups_of ended trim (drop e s)).groups) ≡ e + length (joined (groups_of ended trim (drop e s)).groups) = omega (arith, l, n) in
          ap (λ (c : Cut). at + length (joined c.groups)) r.1.0 ∙ same

      pub count_on : count_at at ≡ suc (count_at e)
      unfolding count_at more Grouped
      count_on = ap (λ (c : Cut). length c.groups) r.1.0

      pub group_later : at < e
      unfolding Grouped
      group_later = r.1.1.1.0

      pub group_within : e ≤ length s
      unfolding Grouped
      group_within = r.1.1.1.1

  -- n groups are handed out, up to the place `at`, and their ends are in the buffer
  unfoldable pub HandedOut : ℕ → ℕ → List ℕ → List ℕ → Type 0
  HandedOut n at ends₀ ends = (n ≤ at) × ((count_at 0 ≡ n + count_at at) × ((tail_at 0 ≡ tail_at at) × (put_from 0 (ends_at 0) ends₀ ≡ put_from n (ends_at at) ends)))

  pub handed_none : (ends : List ℕ) → HandedOut 0 0 ends ends
  unfolding HandedOut
  handed_none ends = (omega arith, (omega arith, (refl, refl)))

  module _ (n at : ℕ) (ends₀ ends : List ℕ) (so : HandedOut n at ends₀ ends) where
    pub handed_few : n ≤ at
    unfolding HandedOut
    handed_few = so.0

    pub handed_on : (e : ℕ) → Grouped at e → (out : List ℕ) → out ≡ set ends n e → HandedOut (n + 1) e ends₀ out
    unfolding HandedOut
    handed_on e r out written =
        let few : n ≤ at = so.0 in
        let l : at < e = group_later at e r in
        let k : count_at at ≡ suc (count_at e) = count_on at e r in
        let c : count_at 0 ≡ n + count_at at = so.1.0 in
        let put : put_from n (ends_at at) ends ≡ put_from (n + 1) (ends_at e) out =
        ap (λ (es : List ℕ). put_from n es ends) (ends_on at e r)
        ∙ put_next n e (ends_at e) ends
        ∙ ap (λ (l : List ℕ). put_from (n + 1) (ends_at e) l) (sym written)
        in
        (omega arith, (omega arith, (so.1.1.0 ∙ tail_on at e r, so.1.1.1 ∙ put)))

    pub handed_all : (groups_of ended trim (drop at s)).groups ≡ [] → record { number = done; groups = n; tail = at } ≡ handed (groups_of ended trim s)
    unfolding handed count_at tail_at HandedOut
    handed_all e =
        let a : n ≡ length (groups_of ended trim s).groups = omega (arith, so.1.0, count_none at e) in
        let b : at ≡ length (joined (groups_of ended trim s).groups) = omega (arith, so.1.1.0, tail_none at e) in
        λ i. record { number = done; groups = a i; tail = b i }

    pub handed_ends : (groups_of ended trim (drop at s)).groups ≡ [] → ends ≡ over (ends_from 0 (groups_of ended trim s).groups) ends₀
    unfolding ends_at HandedOut
    handed_ends e = sym (so.1.1.1 ∙ ap (λ (es : List ℕ). put_from n es ends) (ends_none at e) ∙ put_none n ends) ∙ put_all (ends_from 0 (groups_of ended trim s).groups) ends₀

-- ---- the rule: a group ends with the trim key's release

module _ (trim : ℕ) (s : List ℕ) (at i : ℕ) (b : Bool) (later : at < i) (within : i < length s) (ends : eqb (get_or s i 0) (opposite trim) ≡ b) where
  ends_by : ends_with_release trim (take (i + 1 - at) (drop at s)) ≡ b
  unfolding ends_with_release
  ends_by = ap (λ (g : List ℕ). last_is (opposite trim) g) (with_one (ends_with_release trim) trim s at i later within) ∙ last_is_lem (opposite trim) (get_or s i 0) (take (i - at) (drop at s)) ∙ ends

  pub open_next : open_at (ends_with_release trim) trim s at i ≡ cut (ends_with_release trim) trim b (take (i + 1 - at) (drop at s)) (drop (i + 1) s)
  open_next = open_more (ends_with_release trim) trim s at i later within ∙ ap (λ (t : Bool). cut (ends_with_release trim) trim t (take (i + 1 - at) (drop at s)) (drop (i + 1) s)) ends_by

module _ (trim : ℕ) (s : List ℕ) (at i : ℕ) (later : at < i) (within : i < length s) (opened : groups_of (ends_with_release trim) trim (drop at s) ≡ open_at (ends_with_release trim) trim s at i) where
  -- the group goes on with this code
  pub open_on : eqb (get_or s i 0) (opposite trim) ≡ false → groups_of (ends_with_release trim) trim (drop at s) ≡ open_at (ends_with_release trim) trim s at (i + 1)
  unfolding open_at
  open_on e = opened ∙ open_next trim s at i false later within e

  -- the group ends with this code
  pub open_ends : eqb (get_or s i 0) (opposite trim) ≡ true → Group at (i + 1) ≡ next_at (ends_with_release trim) trim s at
  open_ends e =
      let d : length (drop at s) ≡ length s - at = length-drop at s in
      let n : length (take (i + 1 - at) (drop at s)) ≡ min (i + 1 - at) (length (drop at s)) = length-take (i + 1 - at) (drop at s) in
      let same : i + 1 ≡ at + length (take (i + 1 - at) (drop at s)) = omega arith in
      ap (λ (k : ℕ). Group at k) same
      ∙ ended_stands (ends_with_release trim) trim s at (take (i + 1 - at) (drop at s)) (drop (i + 1) s) (opened ∙ open_next trim s at i true later within e)
