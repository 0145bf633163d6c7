-- `undo::stretch` meets its contract: the part between the places of a finished group, which lie within the list, or the empty part at its front.
use native.Mathlib.Omega.{arith}
use mathlib.Core.Path.{refl, sym, ◌∙◌}
use Rattle.undo.specs.Stands.{IsPart, IsStretch}
use Rattle.undo.proofs.Exact.{stretch_within, stretch_of, stretch_none, answered_group, answered_other}
use borrow.Author.Rules.{rules}
use Rattle.undo.proofs.stretch.Goals as goal

pub returns-in_default : goal.returns-in_default
unfolding IsStretch IsPart
returns-in_default c =
    let a = c.args in
    let other = answered_other c.stands.result (λ f e k. c.in_default.not-Group f e (c.unwrap_or.ensures ∙ k)) in
    let none = stretch_none a.trim a.codes.now a.place _ c.stands.ensures other in
    rw (none.0, none.1) (refl, (refl, search rules))

pub slice_bounds-result-count-2 : goal.slice_bounds-result-count-2
slice_bounds-result-count-2 c =
    let w = stretch_within _ _ _ _ c.stands.ensures _ _ (answered_group _ _ _ (sym c.unwrap_or.ensures ∙ c.in-Group.is)) in
    omega (arith, w.0)

pub returns : goal.returns
unfolding IsStretch IsPart
returns c =
    let a = c.args in
    let s = stretch_of a.trim a.codes.now a.place _ c.stands.ensures _ _ (answered_group _ _ _ (sym c.unwrap_or.ensures ∙ c.in-Group.is)) in
    rw (s.0, s.1) (refl, (refl, search rules))

pub slice_bounds-result-start-2 : goal.slice_bounds-result-start-2
slice_bounds-result-start-2 c =
    let w = stretch_within _ _ _ _ c.stands.ensures _ _ (answered_group _ _ _ (sym c.unwrap_or.ensures ∙ c.in-Group.is)) in
    omega (arith, w.0)

pub slice_bounds-result-end-2 : goal.slice_bounds-result-end-2
slice_bounds-result-end-2 c =
    let w = stretch_within _ _ _ _ c.stands.ensures _ _ (answered_group _ _ _ (sym c.unwrap_or.ensures ∙ c.in-Group.is)) in
    omega (arith, w.1)
