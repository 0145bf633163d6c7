use native.Mathlib.Omega.{arith}
use mathlib.Core.Path.{◌≡◌, sym, ap, ◌∙◌}
use mathlib.Core.Bool.{false}
use Rattle.scan.specs.Walk.{Parts, parts_of, with_parts, at_row}
use Rattle.scan.proofs.Walk.{first_low, row_none, row_next}
use Rattle.scan.proofs.look_at_row.Goals as goal

pub loop-col-init : goal.loop-col-init
loop-col-init c =
    let a = c.args in
    let m = a.m.now in
    let e = row_none m.bounce m.size a.sample a.row (parts_of m false) ∙ ap (at_row m.bounce m.size a.sample a.row (parts_of m false)) (sym c.first_shown-col.ensures) in
    (ap (with_parts m) e, ap (λ (p : Parts). p.any) e)

pub loop-col-preserved : goal.loop-col-preserved
loop-col-preserved c =
    let a = c.args in
    let m = a.m.now in
    let l = c.loop-col in
    let e = c.first_shown-col.ensures in
    row_next m.bounce m.size a.sample a.row (parts_of m false) m l.col (omega arith) l.invariant c.reading-sight.ensures c.look_at-any.ensures

pub returns : goal.returns
returns c =
    let a = c.args in
    let m = a.m.now in
    let l = c.loop-col in
    let e = c.first_shown-col.ensures in
    let low = first_low m.bounce m.size a.sample a.row (parts_of m false) in
    let all : l.col ≡ 13 = omega arith in
    rw (sym all) l.invariant
