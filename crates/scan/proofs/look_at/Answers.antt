-- `scan::look_at` meets its contract: the step's answer goes to the key's places, and if the key changed its code goes to the queue.
use Prim.Native.Nat.{◌+◌, ◌*◌}
use native.Mathlib.Omega.{arith}
use mathlib.Core.Path.{sym, refl, ◌∙◌}
use mathlib.Core.Bool.{false}
use Rattle.keys.proofs.Laws.{code_place}
use Rattle.scan.specs.Walk.{parts_of}
use Rattle.scan.proofs.Walk.{moved_key}
use Rattle.scan.proofs.look_at.Goals as goal

pub returns-then-x : goal.returns-then-x
returns-then-x c =
    let a = c.args in
    let x = c.follow-x in
    let code = code_place a.row.0 a.col.0 (omega arith) (omega arith) x.result.held ∙ sym c.code_at.ensures in
    let e = moved_key a.bounce (13 * a.row.0 + a.col.0) a.sight (parts_of a.m.now false) x.result x.ensures in
    rw (e, c.if-x.true, code) (c.put.ensures, refl)

pub returns-else-x : goal.returns-else-x
returns-else-x c =
    let a = c.args in
    let x = c.follow-x in
    let e = moved_key a.bounce (13 * a.row.0 + a.col.0) a.sight (parts_of a.m.now false) x.result x.ensures in
    rw (e, c.if-x.false) (refl, refl)
