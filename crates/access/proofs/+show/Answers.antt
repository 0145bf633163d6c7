use Prim.Native.Nat.{◌+◌, ◌<◌}
use native.Mathlib.Omega.{arith}
use mathlib.Core.Path.{refl, sym, ap, ◌∙◌}
use lib.ListN.{length-take, length-drop, length-set}
use Rattle.state.specs.declared.Module.{Module}
use Rattle.picture.specs.Picture.{held_codes}
use Rattle.access.proofs.Laws.{none, some, shown_code, mark_held, read_end, read_more, picture_at, picture_next}
use Rattle.access.proofs.+show.Goals as goal

pub returns-then-is_empty : goal.returns-then-is_empty
returns-then-is_empty t c = let a = c.args in read_end a.m.now (0x0B + a.n) a.out.now (none a.out.now _ c.is_empty.ensures c.if-is_empty.true)

pub show-requires : goal.show-requires
show-requires t c =
    let a = c.args in
    let h = some a.out.now _ c.is_empty.ensures c.if-is_empty.false in
    let held = ap (λ (m : Module). m.held) c.mark.ensures ∙ mark_held a.m.now a.n in (
      simp (length-take, length-drop, length-set) (omega arith),
      (simp (length-take, length-drop, length-set) (omega (arith, c.requires)), c.requires.1 ∙ ap (held_codes 0) (sym held)),
    )

pub returns : goal.returns
returns t c =
    let a = c.args in
    let g = c.shown in
    let h = some a.out.now _ c.is_empty.ensures c.if-is_empty.false in
    let low : a.n < 4 = omega (arith, c.requires) in
    let shown = shown_code a.m.now _ a.masks.now a.n g.result a.m.now.held c.requires.1 refl g.ensures c.mark.ensures in
    read_more a.m.now (0x0B + a.n) a.out.now _ _ _ g.result _ _ h (picture_at a.n low) shown (picture_next a.n low) c.show.ensures
