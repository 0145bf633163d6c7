-- `carry::writer::add` meets its contract: each return stops at its line and has passed those before it.
use Prim.Native.Nat.{◌+◌, ◌*◌, ◌≤◌}
use native.Mathlib.Omega.{arith}
use mathlib.Core.Path.{refl, sym, ap, ◌∙◌}
use mathlib.Core.Bool.{false≢true}
use lib.ListN.{length}
use Rattle.std.proofs.lemmas.Result.{err_from_is_err_and}
use Rattle.bits.specs.Bits.{laid}
use Rattle.bits.proofs.Laid.{all_bytes}
use Rattle.carry.specs.Carried.{packed}
use Rattle.carry.specs.Calls.{carried}
use Rattle.carry.proofs.Writing.{back_laid, add_declined, add_no_room, add_done}
use Rattle.carry.proofs.writer.add.Goals as goal

pub returns-in_err-of_call : goal.returns-in_err-of_call
returns-in_err-of_call c =
    let a = c.args in
    let p = err_from_is_err_and c.from_residual.result c.from_residual.ensures.1 in
    rw (p.1, p.2) (add_declined a.call a.out.now a.place _ c.in_err-of_call.ensures)

pub returns-then-not-is_room : goal.returns-then-not-is_room
returns-then-not-is_room c =
    let a = c.args in
    let full = rw c.bits_of-size.ensures.0 at c.if-not-is_room.ensures.1 in
    add_no_room a.call a.out.now a.place (sym c.in_ok-of_call.ensures) (λ h. false≢true (full h))

pub returns : goal.returns
returns c =
    let a = c.args in
    let room = c.if-not-is_room.ensures.0 refl in
    let within : a.place.byte ≤ length a.out.now = omega (arith, room) in
    let bytes = all_bytes a.out.now (λ k. (c.slice_known-1.given k).fits) in
    let back = back_laid a.out.now _ a.place.byte refl _ _ _ within bytes c.put_call.ensures in
    let here = ap (λ n. laid a.out.now (a.place.byte * 8 + n) (packed (carried a.call))) c.from.ensures in
    add_done a.call a.out.now a.place (sym c.in_ok-of_call.ensures) c.behind.result _ room c.bits_of-size.ensures.0 c.behind.ensures (back ∙ here)
