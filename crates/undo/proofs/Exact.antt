-- What stands at a place, over any rule: exactly what is right there, with the number of document 02's lines in order.
--
--    stand_number                   the answer's number is that of the lines
--    stand_exact                    the answer is exact
--    inside_exact, inside_only      25's line is true exactly where the place is before the end and nothing is right there
--    place_declined, place_done     the refusals but the last decline it; they pass it on, and it is what the marks have there
--    stand_within                   a finished group lies within the list
--    stand_one                      and no other answer is exact
--    stands_where                   of a list that is not declined, what is right at a place is the answer there
--    walk_chain                     what the walk hands out is what the question answers, place after place
--    walk_number                    the walk's number is that of the question at the list's end
--    stands-.., stretch-.., walk-..  the same as the calls have it; answered-.., what a test of the tags shows of an answer
-- Assumes nothing.
use Prim.Native.Nat.{ℕ, ◌+◌, ◌<◌, ◌≤◌}
use native.Mathlib.Omega.{arith}
use mathlib.Core.Path.{◌≡◌, refl, sym, ap, ◌∙◌, subst}
use mathlib.Core.Logic.{◌⊎◌, inl, inr}
use mathlib.Core.Bool.{Bool, true, false, not, ◌&&◌, ◌||◌}
use mathlib.Core.List.{List, [], ◌∷◌, ◌++◌, append_assoc, append-nil}
use lib.ListN.{length, length-append}
use lib.Dec.{eqb, ltb}
use borrow.Author.Tests.{eqb-true, eqb-false, eq-eqb, ne_eqb, ltb-true, ltb-false, lt-ltb, le-ltb, not-true}
use Rattle.std.specs.Prelude.{Result, Ok, Err}
use Rattle.std.specs.Result.{result_unwrap_or}
use Rattle.words.specs.Words.{all}
use Rattle.keys.specs.Keys.{is_code}
use Rattle.keys.specs.Replay.{legal}
use Rattle.words.proofs.Laws.{true_false, and_left, and_right, and_both}
use Rattle.numbers.specs.Numbers.{◌gives◌, number_of, Given, done, beyond_end, bad_code, bad_change, inside_group}
use Rattle.numbers.specs.declared.Refusal.{Refusal}
use Rattle.numbers.specs.Refusals.{number}
use Rattle.numbers.proofs.Laws.{given, only, declining, first_decides, rest_decides, line_false, line_yes, line_no, lines_end, refused}
use Rattle.undo.specs.Groups.{groups_of, joined, ends_with_release}
use Rattle.undo.specs.Stands.{values_of, Mark, mark, marks_of, begins, stand_at, Stands, is_trim, lines, stands_by, stands, first_in, end_in}
use Rattle.undo.specs.Walk.{ends_from, walk_lines, handed, walk_by, walk_call, over, walk_buffer}
use Rattle.undo.specs.Places.{place_lines}
use Rattle.undo.specs.Exactly.{Begins, Right, StandExact}
use Rattle.undo.specs.Answers.{Stand, Group, Open, Nothing, Declined, stood, answered}
use Rattle.undo.specs.declared.Stand as found
use Rattle.undo.specs.declared.Stand.TheVariants as found-
use Rattle.undo.proofs.Groups.{covers}
use Rattle.undo.proofs.Marks.{stand_only, stands_right, right_stands, end_stands, stand_begins, begins_stands, marks_within}

same_number : (a b : Bool) → number_of ((a gives bad_code) ∷ (b gives bad_change) ∷ []) ≡ number_of ((false gives beyond_end) ∷ (a gives bad_code) ∷ (b gives bad_change) ∷ (false gives inside_group) ∷ [])
unfolding number_of
same_number true b = refl
same_number false true = refl
same_number false false = refl

twenty_five : inside_group ≡ done → ⊥
twenty_five e = omega arith

-- where nothing begins, the marks have the refusal
pub stand_none : (p : ℕ) (l : List Mark) → begins p l ≡ false → stand_at p l ≡ Declined inside_group
unfolding begins stand_at
stand_none p [] e = refl
stand_none p (mark q x ∷ l) e = go (eqb p q) refl (λ n. stand_none p l n)
  where
    go : (b : Bool) → eqb p q ≡ b → (begins p l ≡ false → stand_at p l ≡ Declined inside_group) → stand_at p (mark q x ∷ l) ≡ Declined inside_group
    go true h rest = true_false (sym (ap (λ (t : Bool). t || begins p l) h) ∙ e)
    go false h rest = rw h (rest (sym (ap (λ (t : Bool). t || begins p l) h) ∙ e))

no_refusal : (ended : List ℕ → Bool) (trim : ℕ) (s : List ℕ) (p : ℕ) (x : Stand) → Right ended trim s p x → (values_of x).number ≡ done
unfolding Right values_of
no_refusal ended trim s p (Group f e) r = refl
no_refusal ended trim s p (Open q) r = refl
no_refusal ended trim s p Nothing r = refl
no_refusal ended trim s p (Declined n) r = absurd r

module _ (ended : List ℕ → Bool) (trim : ℕ) (s : List ℕ) (p : ℕ) where
  -- 25's line
  is_inside : Bool
  is_inside = ltb p (length s) && not (begins p (marks_of ended trim s))

  pub inside_exact : (ltb p (length s) && not (begins p (marks_of ended trim s))) ≡ true → (p < length s) × ((x : Stand) → Right ended trim s p x → ⊥)
  inside_exact e = (
    ltb-true p (length s) (and_left (ltb p (length s)) (not (begins p (marks_of ended trim s))) e),
    λ x r. true_false (sym (begins_stands p x (marks_of ended trim s) (right_stands ended trim s p x r)) ∙ not-true (begins p (marks_of ended trim s)) (and_right (ltb p (length s)) (not (begins p (marks_of ended trim s))) e)),
  )

  pub inside_only : p < length s → ((x : Stand) → Right ended trim s p x → ⊥) → (ltb p (length s) && not (begins p (marks_of ended trim s))) ≡ true
  inside_only l none = and_both (ltb p (length s)) (not (begins p (marks_of ended trim s))) (lt-ltb p (length s) l) (go (begins p (marks_of ended trim s)) refl)
    where
      go : (b : Bool) → begins p (marks_of ended trim s) ≡ b → not b ≡ true
      go true e = absurd (none (stand_at p (marks_of ended trim s)) (stands_right ended trim s p (stand_at p (marks_of ended trim s)) (stand_begins p (marks_of ended trim s) e)))
      go false e = refl

  -- a place that is no later than the end, and not inside: something begins there
  begun : ltb (length s) p ≡ false → is_inside ≡ false → begins p (marks_of ended trim s) ≡ true
  unfolding is_inside
  begun a b = go (begins p (marks_of ended trim s)) (ltb p (length s)) refl refl
    where
      go : (t u : Bool) → begins p (marks_of ended trim s) ≡ t → ltb p (length s) ≡ u → begins p (marks_of ended trim s) ≡ true
      go true u e h = e
      go false true e h = true_false (sym (and_both (ltb p (length s)) (not (begins p (marks_of ended trim s))) h (ap (λ (t : Bool). not t) e)) ∙ b)
      go false false e h =
          let l : p ≤ length s = ltb-false (length s) p a in
          let m : length s ≤ p = ltb-false p (length s) h in
          let same : length s ≡ p = omega arith in
          begins_stands p Nothing (marks_of ended trim s) (subst (λ (n : ℕ). Stands n Nothing (marks_of ended trim s)) same (end_stands ended trim s))

  something : number_of (lines ended trim s p) ≡ done → begins p (marks_of ended trim s) ≡ true
  unfolding lines declining is_inside
  something h = begun (line_false [] _ _ _ refl h) (line_false (_ ∷ _ ∷ _ ∷ []) _ _ [] refl h)

  answer_done : number_of (lines ended trim s p) ≡ done → stands_by ended trim s p ≡ stand_at p (marks_of ended trim s)
  unfolding stands_by
  answer_done h = rw (eq-eqb (number_of (lines ended trim s p)) 0 h)

  answer_declined : (number_of (lines ended trim s p) ≡ done → ⊥) → stands_by ended trim s p ≡ Declined (number_of (lines ended trim s p))
  unfolding stands_by
  answer_declined d = rw (ne_eqb (number_of (lines ended trim s p)) 0 d)

  there : number_of (lines ended trim s p) ≡ done → Right ended trim s p (stands_by ended trim s p)
  there h = subst (λ (x : Stand). Right ended trim s p x) (sym (answer_done h)) (stands_right ended trim s p (stand_at p (marks_of ended trim s)) (stand_begins p (marks_of ended trim s) (something h)))

  pub stand_number : (values_of (stands_by ended trim s p)).number ≡ number_of (lines ended trim s p)
  unfolding values_of
  stand_number = go (eqb (number_of (lines ended trim s p)) 0) refl
    where
      go : (b : Bool) → eqb (number_of (lines ended trim s p)) 0 ≡ b → (values_of (stands_by ended trim s p)).number ≡ number_of (lines ended trim s p)
      go true e = let h = eqb-true (number_of (lines ended trim s p)) 0 e in no_refusal ended trim s p (stands_by ended trim s p) (there h) ∙ sym h
      go false e = ap (λ (y : Stand). (values_of y).number) (answer_declined (eqb-false (number_of (lines ended trim s p)) 0 e))

  pub stand_exact : StandExact ended trim s p (stands_by ended trim s p)
  unfolding StandExact
  stand_exact = (
    subst (λ (n : ℕ). Given (lines ended trim s p) n) (sym stand_number) (given (lines ended trim s p)),
    λ h. let d : number_of (lines ended trim s p) ≡ done = sym stand_number ∙ h in
        (there d, λ y r. sym (answer_done d ∙ stand_only ended trim s p y (right_stands ended trim s p y r))),
  )

  lines_split : number_of (lines ended trim s p) ≡ number_of (place_lines trim s p ++ ((is_inside gives inside_group) ∷ []))
  unfolding lines place_lines walk_lines is_inside
  lines_split = refl

  place_declining : declining (place_lines trim s p) ≡ true
  unfolding declining place_lines walk_lines
  place_declining = refl

  pub place_declined : (number_of (place_lines trim s p) ≡ done → ⊥) → Declined (number_of (place_lines trim s p)) ≡ stands_by ended trim s p
  place_declined d =
      let e : number_of (lines ended trim s p) ≡ number_of (place_lines trim s p) = lines_split ∙ first_decides (place_lines trim s p) _ d in
      sym (answer_declined (λ h. d (sym e ∙ h)) ∙ ap (λ (n : ℕ). Declined n) e)

  pub place_done : number_of (place_lines trim s p) ≡ done → (p ≤ length s) × (stand_at p (marks_of ended trim s) ≡ stands_by ended trim s p)
  unfolding place_lines is_inside
  place_done d = (ltb-false (length s) p first, go is_inside refl)
    where
      first : ltb (length s) p ≡ false
      first = line_false [] _ _ _ place_declining d

      rest : number_of (lines ended trim s p) ≡ number_of ((is_inside gives inside_group) ∷ [])
      rest = lines_split ∙ rest_decides (place_lines trim s p) _ place_declining d

      go : (b : Bool) → is_inside ≡ b → stand_at p (marks_of ended trim s) ≡ stands_by ended trim s p
      go true e =
          let n : number_of (lines ended trim s p) ≡ inside_group = rest ∙ line_yes is_inside inside_group [] e in
          stand_none p (marks_of ended trim s) (not-true (begins p (marks_of ended trim s)) (and_right (ltb p (length s)) (not (begins p (marks_of ended trim s))) e))
          ∙ sym (answer_declined (λ h. twenty_five (sym n ∙ h)) ∙ ap (λ (k : ℕ). Declined k) n)
      go false e = sym (answer_done (rest ∙ line_no is_inside inside_group [] e ∙ lines_end))

-- ---- one answer

declined_is : (x : Stand) → ((values_of x).number ≡ done → ⊥) → x ≡ Declined (values_of x).number
unfolding values_of
declined_is (Group f e) d = absurd (d refl)
declined_is (Open p) d = absurd (d refl)
declined_is Nothing d = absurd (d refl)
declined_is (Declined n) d = refl

module _ (ended : List ℕ → Bool) (trim : ℕ) (s : List ℕ) (p : ℕ) where
  -- no other answer is exact
  pub stand_one : (x : Stand) → StandExact ended trim s p x → x ≡ stands_by ended trim s p
  unfolding StandExact
  stand_one x h = go (eqb (number_of (lines ended trim s p)) 0) refl
    where
      told : (values_of x).number ≡ number_of (lines ended trim s p)
      told = only (lines ended trim s p) (values_of x).number h.0

      go : (b : Bool) → eqb (number_of (lines ended trim s p)) 0 ≡ b → x ≡ stands_by ended trim s p
      go true e = let d = eqb-true (number_of (lines ended trim s p)) 0 e in sym ((h.1 (told ∙ d)).1 (stands_by ended trim s p) (there ended trim s p d))
      go false e =
          let d = eqb-false (number_of (lines ended trim s p)) 0 e in
          declined_is x (λ k. d (sym told ∙ k)) ∙ ap (λ (n : ℕ). Declined n) told ∙ sym (answer_declined ended trim s p d)

  -- of a list that is not declined, what is right at a place is the answer there
  pub stands_where : number_of (walk_lines trim s) ≡ done → (x : Stand) → Right ended trim s p x → stands_by ended trim s p ≡ x
  unfolding place_lines
  stands_where d x r =
      let l : p ≤ length s = right_within in
      let judged : number_of (place_lines trim s p) ≡ done = line_no _ _ _ (le-ltb (length s) p l) ∙ d in
      sym (place_done ended trim s p judged).1 ∙ stand_only ended trim s p x (right_stands ended trim s p x r)
    where
      right_within : p ≤ length s
      right_within = marks_within ended trim s p x (right_stands ended trim s p x r)

joined_append : (a b : List (List ℕ)) → joined (a ++ b) ≡ joined a ++ joined b
unfolding joined
joined_append [] b = refl
joined_append (g ∷ a) b = ap (λ (l : List ℕ). g ++ l) (joined_append a b) ∙ sym (append_assoc g (joined a) (joined b))

-- a finished group lies within the list
pub stand_within : (ended : List ℕ → Bool) (trim : ℕ) (s : List ℕ) (p f e : ℕ) → stands_by ended trim s p ≡ Group f e → (f ≤ e) × (e ≤ length s)
unfolding StandExact Right Begins values_of joined
stand_within ended trim s p f e h =
    let r : Right ended trim s p (Group f e) = subst (λ (x : Stand). Right ended trim s p x) h ((stand_exact ended trim s p).1 (ap (λ (x : Stand). (values_of x).number) h)).0 in
    let b = r.1 in
    let g = b.1.0 in
    let rest = joined b.1.1.0 in
    let all_of : length s ≡ length (joined (groups_of ended trim s).groups) + length (groups_of ended trim s).tail =
    ap (λ (l : List ℕ). length l) (sym (covers ended trim s)) ∙ length-append (joined (groups_of ended trim s).groups) (groups_of ended trim s).tail
    in
    let split : length (joined (groups_of ended trim s).groups) ≡ length (joined b.0) + length (g ++ rest) =
    ap (λ (gs : List (List ℕ)). length (joined gs)) b.1.1.1.0 ∙ ap (λ (l : List ℕ). length l) (joined_append b.0 (g ∷ b.1.1.0)) ∙ length-append (joined b.0) (g ++ rest)
    in
    let more-than : length (g ++ rest) ≡ length g + length rest = length-append g rest in
    let first : f ≡ p = r.0 in
    let place : p ≡ length (joined b.0) = b.1.1.1.1.0 in
    let end : e ≡ p + length g = b.1.1.1.1.1 in
    (omega arith, omega arith)

-- the places that the walk hands out, from a place on: at each stands a group up to the next, and at the last the open tail, or the end
unfoldable pub Chain : (List ℕ → Bool) → ℕ → List ℕ → ℕ → List ℕ → ℕ → Type 0
Chain ended trim s at [] tail = (at ≡ tail) × ((stands_by ended trim s at ≡ Open at) ⊎ (stands_by ended trim s at ≡ Nothing))
Chain ended trim s at (e ∷ es) tail = (stands_by ended trim s at ≡ Group at e) × Chain ended trim s e es tail

module _ (ended : List ℕ → Bool) (trim : ℕ) (s : List ℕ) (d : number_of (walk_lines trim s) ≡ done) where
  chain_end : (at : ℕ) → at ≡ length (joined (groups_of ended trim s).groups) → (t : List ℕ) → (groups_of ended trim s).tail ≡ t → (stands_by ended trim s at ≡ Open at) ⊎ (stands_by ended trim s at ≡ Nothing)
  unfolding Right
  chain_end at h [] e =
      let l : length (joined (groups_of ended trim s).groups) ≡ length s =
      ap (λ (x : List ℕ). length x) (sym (append-nil (joined (groups_of ended trim s).groups)) ∙ ap (λ (x : List ℕ). joined (groups_of ended trim s).groups ++ x) (sym e) ∙ covers ended trim s)
      in
      inr (stands_where ended trim s at d Nothing (h ∙ l))
  chain_end at h (c ∷ t) e = let some : 0 < length (groups_of ended trim s).tail = rw e (omega arith) in inl (stands_where ended trim s at d (Open at) (refl, (h, some)))

  chain_from : (before rest : List (List ℕ)) (at : ℕ) → (groups_of ended trim s).groups ≡ before ++ rest → at ≡ length (joined before)
      → Chain ended trim s at (ends_from at rest) (length (joined (groups_of ended trim s).groups))
  unfolding Chain ends_from Right Begins joined
  chain_from before [] at e h =
      let l : at ≡ length (joined (groups_of ended trim s).groups) = h ∙ ap (λ (gs : List (List ℕ)). length (joined gs)) (sym (e ∙ append-nil before)) in
      (l, chain_end at l (groups_of ended trim s).tail refl)
  chain_from before (g ∷ rest) at e h =
      let n : length (joined (before ++ (g ∷ []))) ≡ length (joined before) + length (g ++ []) =
      ap (λ (l : List ℕ). length l) (joined_append before (g ∷ [])) ∙ length-append (joined before) (g ++ [])
      in
      let m : length (g ++ []) ≡ length g = ap (λ (l : List ℕ). length l) (append-nil g) in (
        stands_where ended trim s at d (Group at (at + length g)) (refl, (before, (g, (rest, (e, (h, refl)))))),
        chain_from (before ++ (g ∷ [])) rest (at + length g) (e ∙ sym (append_assoc before (g ∷ []) rest)) (omega arith),
      )

  -- what the walk hands out is what the question answers, place after place
  pub walk_chain : Chain ended trim s 0 (ends_from 0 (groups_of ended trim s).groups) (length (joined (groups_of ended trim s).groups))
  unfolding joined
  walk_chain = chain_from [] (groups_of ended trim s).groups 0 refl refl

-- the walk's number is that of the question at the list's end
pub walk_number : (ended : List ℕ → Bool) (trim : ℕ) (s : List ℕ) → number_of (walk_lines trim s) ≡ number_of (lines ended trim s (length s))
unfolding walk_lines lines
walk_number ended trim s =
    rw (le-ltb (length s) (length s) (omega arith))
    (same_number (not (is_trim trim && all is_code s)) (not (legal s)))

-- ---- as the calls have it

module _ (trim : ℕ) (s : List ℕ) (p : ℕ) where
  pub stands_declined : (r : Refusal) → number r ≡ number_of (place_lines trim s p) → Declined (number r) ≡ stands trim s p
  unfolding stands
  stands_declined r judged = ap (λ (k : ℕ). Declined k) judged ∙ place_declined (ends_with_release trim) trim s p (λ h. refused r (judged ∙ h))

  pub stands_done : done ≡ number_of (place_lines trim s p) → (p ≤ length s) × (stand_at p (marks_of (ends_with_release trim) trim s) ≡ stands trim s p)
  unfolding stands
  stands_done judged = place_done (ends_with_release trim) trim s p (sym judged)

-- an answer that is no finished group leads to the empty stretch at the list's front
pub no_part : (x : Stand) → ((f e : ℕ) → x ≡ Group f e → ⊥) → (first_in x ≡ 0) × (end_in x ≡ 0)
unfolding first_in end_in
no_part (Group f e) k = absurd (k f e refl)
no_part (Open q) k = (refl, refl)
no_part Nothing k = (refl, refl)
no_part (Declined n) k = (refl, refl)

module _ (trim : ℕ) (s : List ℕ) (p : ℕ) (x : Stand) (stood-there : x ≡ stands trim s p) where
  pub stretch_within : (f e : ℕ) → x ≡ Group f e → (f ≤ e) × (e ≤ length s)
  unfolding stands
  stretch_within f e h = stand_within (ends_with_release trim) trim s p f e (sym stood-there ∙ h)

  pub stretch_of : (f e : ℕ) → x ≡ Group f e → (first_in (stands trim s p) ≡ f) × (end_in (stands trim s p) ≡ e)
  unfolding first_in end_in
  stretch_of f e h = (ap first_in (sym stood-there ∙ h), ap end_in (sym stood-there ∙ h))

  -- the stretch lies within the list, whatever stands there
  pub stretch_lies : (first_in (stands trim s p) ≤ end_in (stands trim s p)) × (end_in (stands trim s p) ≤ length s)
  unfolding first_in end_in
  stretch_lies = subst (λ (y : Stand). (first_in y ≤ end_in y) × (end_in y ≤ length s)) stood-there (lies x refl)
    where
      lies : (y : Stand) → x ≡ y → (first_in y ≤ end_in y) × (end_in y ≤ length s)
      lies (Group f e) h = stretch_within f e h
      lies (Open q) h = (omega arith, omega arith)
      lies Nothing h = (omega arith, omega arith)
      lies (Declined n) h = (omega arith, omega arith)

  pub stretch_none : ((f e : ℕ) → x ≡ Group f e → ⊥) → (first_in (stands trim s p) ≡ 0) × (end_in (stands trim s p) ≡ 0)
  stretch_none k = let none = no_part x k in (ap first_in (sym stood-there) ∙ none.0, ap end_in (sym stood-there) ∙ none.1)

-- the group that was found, the end standing for a question that is declined, is the answer; where none was found, no group is
pub answered_group : (x : Result found.Stand Refusal) (f e : ℕ) → result_unwrap_or x found-.Nothing ≡ found-.Group f e → answered x ≡ Group f e
answered_group (Ok y) f e k = ap stood k
answered_group (Err r) f e k = cc

pub answered_other : (x : Result found.Stand Refusal) → ((f e : ℕ) → result_unwrap_or x found-.Nothing ≡ found-.Group f e → ⊥) → (f e : ℕ) → answered x ≡ Group f e → ⊥
answered_other (Ok (found-.Group a b)) h f e k = h a b refl
answered_other (Ok (found-.Open q)) h f e k = cc
answered_other (Ok found-.Nothing) h f e k = cc
answered_other (Err r) h f e k = cc

module _ (trim : ℕ) (s : List ℕ) where
  module _ (r : Refusal) (judged : number r ≡ number_of (walk_lines trim s)) where
    not_done : eqb (number_of (walk_lines trim s)) 0 ≡ false
    not_done = ne_eqb (number_of (walk_lines trim s)) 0 (λ h. refused r (judged ∙ h))

    pub walk_declined : record { number = number r; groups = 0; tail = 0 } ≡ walk_call trim s
    unfolding walk_call walk_by
    walk_declined = rw not_done (ap (λ (k : ℕ). record { number = k; groups = 0; tail = 0 }) judged)

    pub buffer_declined : (out : List ℕ) → out ≡ walk_buffer trim s out
    unfolding walk_buffer
    buffer_declined out = rw not_done

  pub walk_done : done ≡ number_of (walk_lines trim s) → (out : List ℕ)
      → (handed (groups_of (ends_with_release trim) trim s) ≡ walk_call trim s) × (over (ends_from 0 (groups_of (ends_with_release trim) trim s).groups) out ≡ walk_buffer trim s out)
  unfolding walk_call walk_by walk_buffer
  walk_done judged out = let is-done = eq-eqb (number_of (walk_lines trim s)) 0 (sym judged) in (rw is-done, rw is-done)
