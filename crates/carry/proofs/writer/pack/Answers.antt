-- `carry::writer::pack` meets its contract: each return stops at its line and has passed those before it.
use mathlib.Core.Path.{sym}
use Rattle.std.proofs.lemmas.Result.{err_from_is_err_and}
use Rattle.carry.proofs.Writing.{place_bytes, pack_declined, pack_no_room, pack_done}
use Rattle.carry.proofs.writer.pack.Goals as goal

pub returns-in_err-end : goal.returns-in_err-end
returns-in_err-end c =
    let p = err_from_is_err_and c.from_residual.result c.from_residual.ensures.1 in
    rw (p.1, p.2) (pack_declined c.args.calls.now c.args.out.now _ c.in_err-end.ensures.number)

pub returns-then-out-length : goal.returns-then-out-length
returns-then-out-length c =
    let m = c.in_ok-end in
    let n = place_bytes m.end c.from.ensures m.ensures.place.2 in
    pack_no_room c.args.calls.now c.args.out.now _ (sym m.ensures.number) n c.if-out-length.true

pub put_calls-requires : goal.put_calls-requires
put_calls-requires c =
    let m = c.in_ok-end in
    let n = place_bytes m.end c.from.ensures m.ensures.place.2 in
    (sym m.ensures.number, rw n at c.if-out-length.false)

pub returns : goal.returns
returns c =
    let m = c.in_ok-end in
    let n = place_bytes m.end c.from.ensures m.ensures.place.2 in
    pack_done c.args.calls.now c.args.out.now _ (sym m.ensures.number) n _ c.if-out-length.false c.put_calls.ensures
