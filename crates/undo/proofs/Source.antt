-- THE SOURCE: what the toolchain makes of the contracts in src/lib.rt is these definitions; each allows one outcome and asks nothing.
--
--    answered_one, walked_one  two of the module's answers that are told as one are one
--    stands_source, stretch_source, walk_source
--    stands_determined, stretch_determined, walk_determined
--    stands_total, stretch_total, walk_total
--    stretch_is_that_part      a stretch lies within the list, and is that part of it, by codes and by address
-- Assumes nothing.
use Prim.Native.Nat.{ℕ, ◌-◌, ◌≤◌}
use native.Mathlib.Omega.{arith}
use mathlib.Core.Path.{◌≡◌, refl, sym, ap, ◌∙◌}
use mathlib.Core.List.{List}
use lib.ListN.{length, take, drop, length-drop}
use lib.Seq.{length-take-le}
use contract.Lifetimes.{Lfts}
use denote.Ref.{Bor}
use denote.Triple.Clauses.{AtExit}
use borrow.Fn.Kinds.{Dens, ended_of}
use Rattle.std.specs.Prelude.{Result, Ok, Err}
use Rattle.numbers.specs.declared.Refusal.{Refusal}
use Rattle.numbers.specs.Refusals.{number}
use Rattle.numbers.proofs.Laws.{refused, number_one}
use Rattle.undo.specs.Answers.{Walked, answered, walked}
use Rattle.undo.specs.declared.Stand as found
use Rattle.undo.specs.declared.Stand.TheVariants as found-
use Rattle.undo.specs.declared.Walked as handed
use Rattle.undo.specs.Stands.{stands, first_in, end_in, IsPart, IsStretch}
use Rattle.undo.specs.Walk.{walk_call, walk_buffer}
use Rattle.undo.proofs.Exact.{stretch_lies}
use Rattle.undo.proofs.stands.Kinds as stands-kinds
use Rattle.undo.proofs.stands.Reads as standing
use Rattle.undo.proofs.stretch.Kinds as stretch-kinds
use Rattle.undo.proofs.stretch.Reads as stretching
use Rattle.undo.proofs.walk.Kinds as walk-kinds
use Rattle.undo.proofs.walk.Reads as walking

pub answered_one : (x y : Result found.Stand Refusal) → answered x ≡ answered y → x ≡ y
answered_one (Ok (found-.Group f e)) (Ok (found-.Group g d)) h = cc
answered_one (Ok (found-.Group f e)) (Ok (found-.Open q)) h = cc
answered_one (Ok (found-.Group f e)) (Ok found-.Nothing) h = cc
answered_one (Ok (found-.Group f e)) (Err r) h = cc
answered_one (Ok (found-.Open p)) (Ok (found-.Group g d)) h = cc
answered_one (Ok (found-.Open p)) (Ok (found-.Open q)) h = cc
answered_one (Ok (found-.Open p)) (Ok found-.Nothing) h = cc
answered_one (Ok (found-.Open p)) (Err r) h = cc
answered_one (Ok found-.Nothing) (Ok (found-.Group g d)) h = cc
answered_one (Ok found-.Nothing) (Ok (found-.Open q)) h = cc
answered_one (Ok found-.Nothing) (Ok found-.Nothing) h = refl
answered_one (Ok found-.Nothing) (Err r) h = cc
answered_one (Err r) (Ok (found-.Group g d)) h = cc
answered_one (Err r) (Ok (found-.Open q)) h = cc
answered_one (Err r) (Ok found-.Nothing) h = cc
answered_one (Err r) (Err s) h = let e : number r ≡ number s = cc in ap Err (number_one r s e)

pub walked_one : (x y : Result handed.Walked Refusal) → walked x ≡ walked y → x ≡ y
walked_one (Ok v) (Ok w) h = ap Ok (λ i. record { groups = (h i).groups; tail = (h i).tail })
walked_one (Ok v) (Err s) h = absurd (refused s (sym (ap (λ (w : Walked). w.number) h)))
walked_one (Err r) (Ok w) h = absurd (refused r (ap (λ (w : Walked). w.number) h))
walked_one (Err r) (Err s) h = ap Err (number_one r s (ap (λ (w : Walked). w.number) h))

pub stands_source : (κs : Lfts 1) (a : Dens κs stands-kinds.ps) (x : Result found.Stand Refusal) (e : AtExit (ended_of 1 stands-kinds.ps stands-kinds.r) κs)
    → standing.Post κs a x e → answered x ≡ stands a.0 a.1.0.now a.1.1.0
stands_source κs a x e p = p

pub stands_determined : (κs : Lfts 1) (a : Dens κs stands-kinds.ps) (x y : Result found.Stand Refusal) (e f : AtExit (ended_of 1 stands-kinds.ps stands-kinds.r) κs)
    → standing.Post κs a x e → standing.Post κs a y f → x ≡ y
stands_determined κs a x y e f p q = answered_one x y (p ∙ sym q)

pub stands_total : (κs : Lfts 1) (a : Dens κs stands-kinds.ps) → standing.Pre κs a
stands_total κs a = tt

pub walk_source : (κs : Lfts 2) (a : Dens κs walk-kinds.ps) (x : Result handed.Walked Refusal) (e : AtExit (ended_of 2 walk-kinds.ps walk-kinds.r) κs)
    → walking.Post κs a x e → (walked x ≡ walk_call a.0 a.1.0.now) × (e.1.1.0.now ≡ walk_buffer a.0 a.1.0.now a.1.1.0.now)
walk_source κs a x e p = p

pub walk_determined : (κs : Lfts 2) (a : Dens κs walk-kinds.ps) (x y : Result handed.Walked Refusal) (e f : AtExit (ended_of 2 walk-kinds.ps walk-kinds.r) κs)
    → walking.Post κs a x e → walking.Post κs a y f → (x ≡ y) × (e.1.1.0.now ≡ f.1.1.0.now)
walk_determined κs a x y e f p q = (walked_one x y (p.0 ∙ sym q.0), p.1 ∙ sym q.1)

pub walk_total : (κs : Lfts 2) (a : Dens κs walk-kinds.ps) → walking.Pre κs a
walk_total κs a = tt

pub stretch_source : (κs : Lfts 1) (a : Dens κs stretch-kinds.ps) (x : Bor (List ℕ)) (e : AtExit (ended_of 1 stretch-kinds.ps stretch-kinds.r) κs)
    → stretching.Post κs a x e → IsStretch a.0 a.1.0 a.1.1.0 x
stretch_source κs a x e p = p

pub stretch_determined : (κs : Lfts 1) (a : Dens κs stretch-kinds.ps) (x y : Bor (List ℕ)) (e f : AtExit (ended_of 1 stretch-kinds.ps stretch-kinds.r) κs)
    → stretching.Post κs a x e → stretching.Post κs a y f → (x.now ≡ y.now) × ((x.ref_ptr.0 ≡ y.ref_ptr.0) × (x.ref_ptr.1 ≡ y.ref_ptr.1))
unfolding IsStretch IsPart
stretch_determined κs a x y e f p q = (p.0 ∙ sym q.0, (p.1.0 ∙ sym q.1.0, p.1.1 ∙ sym q.1.1))

pub stretch_total : (κs : Lfts 1) (a : Dens κs stretch-kinds.ps) → stretching.Pre κs a
stretch_total κs a = tt

-- a part that is found to be the stretch lies within the list: so many codes, and no more
pub stretch_is_that_part : (trim : ℕ) (s r : Bor (List ℕ)) (p : ℕ) → IsStretch trim s p r
    → (first_in (stands trim s.now p) ≤ end_in (stands trim s.now p)) × ((end_in (stands trim s.now p) ≤ length s.now) × (length r.now ≡ end_in (stands trim s.now p) - first_in (stands trim s.now p)))
unfolding IsStretch IsPart
stretch_is_that_part trim s r p h =
    let w = stretch_lies trim s.now p (stands trim s.now p) refl in
    let n : length (drop (first_in (stands trim s.now p)) s.now) ≡ length s.now - first_in (stands trim s.now p) = length-drop (first_in (stands trim s.now p)) s.now in
    let m : length (take (end_in (stands trim s.now p) - first_in (stands trim s.now p)) (drop (first_in (stands trim s.now p)) s.now))
    ≡ end_in (stands trim s.now p) - first_in (stands trim s.now p) = length-take-le _ _ (omega (arith, w.0, w.1, n)) in
    (w.0, (w.1, ap (λ (l : List ℕ). length l) h.0 ∙ m))
