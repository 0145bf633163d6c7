-- Laws of the groups, over any rule.
--
--    covers                the groups in order, with the open tail, are the whole list
--    a_group, a_tail       what each group is, and what the tail is
--    groups_right          so the groups of a list are a cut of it
--    groups_only           and no other cut of it is there
--    group_some            a group has a code
--    cut_finished          behind a finished group the rest is cut as a list of its own; groups-first: and so behind the first group
-- Assumes nothing.
use Prim.Native.Nat.{ℕ, suc, ◌+◌, ◌<◌, ◌≤◌}
use native.Mathlib.Decide.{dec_lt}
use native.Mathlib.Omega.{arith}
use mathlib.Core.Path.{◌≡◌, refl, sym, ap, ◌∙◌, subst}
use mathlib.Core.Logic.{inl, inr}
use mathlib.Core.Bool.{Bool, true, false, not}
use mathlib.Core.List.{List, [], ◌∷◌, ◌++◌, append_assoc, append-nil}
use lib.ListN.{length, take, drop, get_or, length-append}
use lib.Seq.{take-append-le, take_all, take-append_seam, drop-append_seam}
use lib.Dec.{eqb}
use borrow.Author.Tests.{eqb-true, eqb-false, eq-eqb, ne_eqb}
use Rattle.undo.specs.Groups.{Cut, more, closes, cut, groups_of, joined, In, Quiet, IsGroup, IsTail, Cuts}

first : List (List ℕ) → List ℕ
first [] = []
first (g ∷ gs) = g

heads : (g h : List ℕ) (gs hs : List (List ℕ)) → g ∷ gs ≡ h ∷ hs → g ≡ h
unfolding first
heads g h gs hs e = ap first e

nothing : (h : List ℕ) (hs : List (List ℕ)) → [] ≡ h ∷ hs → ⊥
nothing h hs e = let n : 0 ≡ suc (length hs) = ap (λ (l : List (List ℕ)). length l) e in omega arith

module _ (ended : List ℕ → Bool) (trim : ℕ) where
  covers_from : (b : Bool) (g cs : List ℕ) → joined (cut ended trim b g cs).groups ++ (cut ended trim b g cs).tail ≡ g ++ cs
  unfolding cut more joined
  covers_from true g [] = append_assoc g [] []
  covers_from false g [] = sym (append-nil g)
  covers_from true g (c ∷ cs) = append_assoc g _ _ ∙ ap (λ (l : List ℕ). g ++ l) (covers_from (closes ended trim [] c) (c ∷ []) cs)
  covers_from false g (c ∷ cs) = covers_from (closes ended trim g c) (g ++ (c ∷ [])) cs ∙ append_assoc g (c ∷ []) cs

  -- the groups in order, with the open tail, are the whole list: for every rule
  pub covers : (s : List ℕ) → joined (groups_of ended trim s).groups ++ (groups_of ended trim s).tail ≡ s
  unfolding groups_of
  covers s = covers_from false [] s

  -- the group so far: finished, or not yet
  So : Bool → List ℕ → Type 0
  So true g = IsGroup ended trim g
  So false g = IsTail ended trim g

  quiet_more : (g : List ℕ) (c : ℕ) → Quiet ended (suc (length g)) g → Quiet ended (length (g ++ (c ∷ []))) (g ++ (c ∷ []))
  unfolding Quiet
  quiet_more g c q n l m =
      let e : length (g ++ (c ∷ [])) ≡ length g + 1 = length-append g (c ∷ []) in
      rw (take-append-le n g (c ∷ []) (omega arith)) (q n l (omega arith))

  quiet_still : (g : List ℕ) → Quiet ended (length g) g → ended g ≡ false → Quiet ended (suc (length g)) g
  unfolding Quiet
  quiet_still g q e n l m = go (dec_lt n (length g))
    where
      go : Dec (n < length g) → ended (take n g) ≡ false
      go (yes p) = q n l p
      go (no p) = rw (take_all n g (omega arith)) e

  opens : (c : ℕ) (b : Bool) → eqb c trim ≡ b → So (not b) (c ∷ [])
  unfolding So IsGroup IsTail Quiet
  opens c true e = inr (ap (λ (x : ℕ). x ∷ []) (eqb-true c trim e), λ n l m. absurd (omega arith))
  opens c false e = inl (refl, λ h. eqb-false c trim e (ap (λ (l : List ℕ). get_or l 0 0) h))

  goes_on_lem : (x : ℕ) (g : List ℕ) (c : ℕ) (b : Bool) → take 1 (x ∷ g) ≡ trim ∷ [] → Quiet ended (suc (length (x ∷ g))) (x ∷ g) → ended ((x ∷ g) ++ (c ∷ [])) ≡ b → So b ((x ∷ g) ++ (c ∷ []))
  unfolding So IsGroup IsTail
  goes_on_lem x g c true h q e =
      let l : length ((x ∷ g) ++ (c ∷ [])) ≡ length (x ∷ g) + 1 = length-append (x ∷ g) (c ∷ []) in
      let two : 2 ≤ length ((x ∷ g) ++ (c ∷ [])) = omega arith in
      inr (h, (two, (e, quiet_more (x ∷ g) c q)))
  goes_on_lem x g c false h q e = inr (h, quiet_still ((x ∷ g) ++ (c ∷ [])) (quiet_more (x ∷ g) c q) e)

  step : (g : List ℕ) (c : ℕ) → IsTail ended trim g → So (closes ended trim g c) (g ++ (c ∷ []))
  unfolding closes IsTail
  step [] c t = opens c (eqb c trim) refl
  step (x ∷ g) c (inl e) = absurd (omega arith)
  step (x ∷ g) c (inr t) = goes_on_lem x g c (ended ((x ∷ g) ++ (c ∷ []))) t.0 t.1 refl

  outside : IsTail ended trim []
  unfolding IsTail
  outside = inl refl

  group_from : (b : Bool) (g cs : List ℕ) → So b g → (h : List ℕ) → In h (cut ended trim b g cs).groups → IsGroup ended trim h
  unfolding So cut more In
  group_from true g [] t h (inl e) = subst (λ (l : List ℕ). IsGroup ended trim l) (sym e) t
  group_from true g [] t h (inr i) = absurd i
  group_from false g [] t h i = absurd i
  group_from true g (c ∷ cs) t h (inl e) = subst (λ (l : List ℕ). IsGroup ended trim l) (sym e) t
  group_from true g (c ∷ cs) t h (inr i) = group_from (closes ended trim [] c) (c ∷ []) cs (step [] c outside) h i
  group_from false g (c ∷ cs) t h i = group_from (closes ended trim g c) (g ++ (c ∷ [])) cs (step g c t) h i

  tail_from_lem : (b : Bool) (g cs : List ℕ) → So b g → IsTail ended trim (cut ended trim b g cs).tail
  unfolding So cut more
  tail_from_lem true g [] t = outside
  tail_from_lem false g [] t = t
  tail_from_lem true g (c ∷ cs) t = tail_from_lem (closes ended trim [] c) (c ∷ []) cs (step [] c outside)
  tail_from_lem false g (c ∷ cs) t = tail_from_lem (closes ended trim g c) (g ++ (c ∷ [])) cs (step g c t)

  pub a_group : (s g : List ℕ) → In g (groups_of ended trim s).groups → IsGroup ended trim g
  unfolding So groups_of
  a_group s g i = group_from false [] s outside g i

  pub a_tail : (s : List ℕ) → IsTail ended trim (groups_of ended trim s).tail
  unfolding So groups_of
  a_tail s = tail_from_lem false [] s outside

  pub group_some : (g : List ℕ) → IsGroup ended trim g → 0 < length g
  unfolding IsGroup
  group_some g (inl h) = let e : length g ≡ 1 = h.0 in omega arith
  group_some g (inr h) = let e : 2 ≤ length g = h.1.0 in omega arith

  pub groups_right : (s : List ℕ) → Cuts ended trim s (groups_of ended trim s)
  unfolding Cuts
  groups_right s = (covers s, (λ g i. a_group s g i, a_tail s))

  pub cut_finished : (g cs : List ℕ) → cut ended trim true g cs ≡ more g (groups_of ended trim cs)
  unfolding cut groups_of more
  cut_finished g [] = refl
  cut_finished g (c ∷ cs) = refl

  -- what is cut behind the group so far has a first group h: it begins with those codes, and the rest is cut as a list of its own
  First : List ℕ → List ℕ → Cut → Type 0
  First h l c = (rest : List ℕ) × ((l ≡ h ++ rest) × (c ≡ more h (groups_of ended trim rest)))

  first_finished : (g cs h : List ℕ) (gs : List (List ℕ)) → (cut ended trim true g cs).groups ≡ h ∷ gs → First h (g ++ cs) (cut ended trim true g cs)
  unfolding First more
  first_finished g cs h gs e =
      let f = cut_finished g cs in
      let same : g ≡ h = heads g h _ gs (sym (ap (λ (c : Cut). c.groups) f) ∙ e) in
      (cs, (ap (λ (l : List ℕ). l ++ cs) same, f ∙ ap (λ (l : List ℕ). more l (groups_of ended trim cs)) same))

  first_from : (b : Bool) (g cs h : List ℕ) (gs : List (List ℕ)) → (cut ended trim b g cs).groups ≡ h ∷ gs → First h (g ++ cs) (cut ended trim b g cs)
  unfolding First cut
  first_from true g [] h gs e = first_finished g [] h gs e
  first_from true g (c ∷ cs) h gs e = first_finished g (c ∷ cs) h gs e
  first_from false g [] h gs e = absurd (nothing h gs e)
  first_from false g (c ∷ cs) h gs e =
      let r = first_from (closes ended trim g c) (g ++ (c ∷ [])) cs h gs e in
      (r.0, (sym (append_assoc g (c ∷ []) cs) ∙ r.1.0, r.1.1))

  -- a list whose first group is g: the rest behind it is cut as a list of its own
  pub groups_first : (s g : List ℕ) (gs : List (List ℕ)) → (groups_of ended trim s).groups ≡ g ∷ gs → (groups_of ended trim s ≡ more g (groups_of ended trim (drop (length g) s))) × (length g ≤ length s)
  unfolding First groups_of
  groups_first s g gs e =
      let r = first_from false [] s g gs e in
      let l : length s ≡ length g + length r.0 = ap (λ (x : List ℕ). length x) r.1.0 ∙ length-append g r.0 in
      let same : r.0 ≡ drop (length g) s = sym (drop-append_seam g r.0) ∙ ap (λ (x : List ℕ). drop (length g) x) (sym r.1.0) in
      (r.1.1 ∙ ap (λ (x : List ℕ). more g (cut ended trim false [] x)) same, omega arith)

  -- a code outside, and one within a group
  pub cut_outside : (c : ℕ) (cs : List ℕ) (b : Bool) → eqb c trim ≡ b → groups_of ended trim (c ∷ cs) ≡ cut ended trim (not b) (c ∷ []) cs
  unfolding groups_of cut closes
  cut_outside c cs b e = ap (λ (t : Bool). cut ended trim (not t) (c ∷ []) cs) e

  pub cut_inside : (x : ℕ) (g : List ℕ) (c : ℕ) (cs : List ℕ) (b : Bool) → ended ((x ∷ g) ++ (c ∷ [])) ≡ b → cut ended trim false (x ∷ g) (c ∷ cs) ≡ cut ended trim b ((x ∷ g) ++ (c ∷ [])) cs
  unfolding cut closes
  cut_inside x g c cs b e = ap (λ (t : Bool). cut ended trim t ((x ∷ g) ++ (c ∷ [])) cs) e

  -- a finished group before other codes is cut off as it is
  cut_through : (x : ℕ) (a b rest : List ℕ) → 0 < length b → ended ((x ∷ a) ++ b) ≡ true → Quiet ended (length ((x ∷ a) ++ b)) ((x ∷ a) ++ b) → take 1 (x ∷ a) ≡ trim ∷ [] → cut ended trim false (x ∷ a) (b ++ rest) ≡ more ((x ∷ a) ++ b) (groups_of ended trim rest)
  unfolding cut closes Quiet
  cut_through x a [] rest n e q t = absurd (omega arith)
  cut_through x a (c ∷ []) rest n e q t = cut_inside x a c rest true e ∙ cut_finished ((x ∷ a) ++ (c ∷ [])) rest
  cut_through x a (c ∷ d ∷ b) rest n e q t =
      let whole : (x ∷ (a ++ (c ∷ []))) ++ (d ∷ b) ≡ (x ∷ a) ++ (c ∷ d ∷ b) = append_assoc (x ∷ a) (c ∷ []) (d ∷ b) in
      let long : length ((x ∷ (a ++ (c ∷ []))) ++ (d ∷ b)) ≡ length (x ∷ (a ++ (c ∷ []))) + length (d ∷ b) = length-append (x ∷ (a ++ (c ∷ []))) (d ∷ b) in
      let some : length (a ++ (c ∷ [])) ≡ length a + 1 = length-append a (c ∷ []) in
      let q' : Quiet ended (length ((x ∷ (a ++ (c ∷ []))) ++ (d ∷ b))) ((x ∷ (a ++ (c ∷ []))) ++ (d ∷ b)) = subst (λ (l : List ℕ). Quiet ended (length l) l) (sym whole) q in
      let still : ended (x ∷ (a ++ (c ∷ []))) ≡ false =
      ap ended (sym (take-append_seam (x ∷ (a ++ (c ∷ []))) (d ∷ b))) ∙ q' (length (x ∷ (a ++ (c ∷ [])))) (omega arith) (omega arith)
      in
      cut_inside x a c (d ∷ (b ++ rest)) false still
      ∙ cut_through x (a ++ (c ∷ [])) (d ∷ b) rest (omega arith) (ap ended whole ∙ e) q' t
      ∙ ap (λ (l : List ℕ). more l (groups_of ended trim rest)) whole

  group_off : (g rest : List ℕ) → IsGroup ended trim g → groups_of ended trim (g ++ rest) ≡ more g (groups_of ended trim rest)
  unfolding IsGroup groups_of cut closes
  group_off [] rest (inl h) = let e : ◌≡◌ {A = ℕ} 0 1 = h.0 in absurd (omega arith)
  group_off [] rest (inr h) = let e : 2 ≤ 0 = h.1.0 in absurd (omega arith)
  group_off (c ∷ []) rest (inl h) = cut_outside c rest false (ne_eqb c trim (λ e. h.1 (ap (λ (x : ℕ). x ∷ []) e))) ∙ cut_finished (c ∷ []) rest
  group_off (c ∷ []) rest (inr h) = let e : 2 ≤ 1 = h.1.0 in absurd (omega arith)
  group_off (c ∷ d ∷ g) rest (inl h) = let e : suc (suc (length g)) ≡ 1 = h.0 in absurd (omega arith)
  group_off (c ∷ d ∷ g) rest (inr h) =
      cut_outside c (d ∷ (g ++ rest)) true (eq-eqb c trim (ap (λ (l : List ℕ). get_or l 0 0) h.0))
      ∙ cut_through c [] (d ∷ g) rest (omega arith) h.1.1.0 h.1.1.1 h.0

  -- an open tail is cut as it is
  tail_through : (x : ℕ) (a b : List ℕ) → Quiet ended (suc (length ((x ∷ a) ++ b))) ((x ∷ a) ++ b) → cut ended trim false (x ∷ a) b ≡ record { groups = []; tail = (x ∷ a) ++ b }
  unfolding cut closes Quiet
  tail_through x a [] q = ap (λ (l : List ℕ). record { groups = []; tail = l }) (sym (append-nil (x ∷ a)))
  tail_through x a (c ∷ b) q =
      let whole : (x ∷ (a ++ (c ∷ []))) ++ b ≡ (x ∷ a) ++ (c ∷ b) = append_assoc (x ∷ a) (c ∷ []) b in
      let long : length ((x ∷ (a ++ (c ∷ []))) ++ b) ≡ length (x ∷ (a ++ (c ∷ []))) + length b = length-append (x ∷ (a ++ (c ∷ []))) b in
      let some : length (a ++ (c ∷ [])) ≡ length a + 1 = length-append a (c ∷ []) in
      let q' : Quiet ended (suc (length ((x ∷ (a ++ (c ∷ []))) ++ b))) ((x ∷ (a ++ (c ∷ []))) ++ b) = subst (λ (l : List ℕ). Quiet ended (suc (length l)) l) (sym whole) q in
      let still : ended (x ∷ (a ++ (c ∷ []))) ≡ false =
      ap ended (sym (take-append_seam (x ∷ (a ++ (c ∷ []))) b)) ∙ q' (length (x ∷ (a ++ (c ∷ [])))) (omega arith) (omega arith)
      in
      cut_inside x a c b false still ∙ tail_through x (a ++ (c ∷ [])) b q' ∙ ap (λ (l : List ℕ). record { groups = []; tail = l }) whole

  tail_off : (g : List ℕ) → IsTail ended trim g → groups_of ended trim g ≡ record { groups = []; tail = g }
  unfolding IsTail groups_of cut closes
  tail_off [] t = refl
  tail_off (c ∷ g) (inl h) = let e : suc (length g) ≡ 0 = h in absurd (omega arith)
  tail_off (c ∷ g) (inr h) = cut_outside c g true (eq-eqb c trim (ap (λ (l : List ℕ). get_or l 0 0) h.0)) ∙ tail_through c [] g h.1

  only_from : (gs : List (List ℕ)) (t : List ℕ) → ((g : List ℕ) → In g gs → IsGroup ended trim g) → IsTail ended trim t → groups_of ended trim (joined gs ++ t) ≡ record { groups = gs; tail = t }
  unfolding joined In more
  only_from [] t f l = tail_off t l
  only_from (g ∷ gs) t f l =
      ap (λ (s : List ℕ). groups_of ended trim s) (append_assoc g (joined gs) t)
      ∙ group_off g (joined gs ++ t) (f g (inl refl))
      ∙ ap (λ (c : Cut). more g c) (only_from gs t (λ h i. f h (inr i)) l)

  -- a list has one cut
  pub groups_only : (s : List ℕ) (c : Cut) → Cuts ended trim s c → c ≡ groups_of ended trim s
  unfolding Cuts
  groups_only s c h = sym (only_from c.groups c.tail h.1.0 h.1.1) ∙ ap (λ (l : List ℕ). groups_of ended trim l) h.0
