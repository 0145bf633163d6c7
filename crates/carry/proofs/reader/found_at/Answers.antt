-- `carry::reader::found_at` meets its contract: each answer is the one for what is at the place.
use mathlib.Core.Path.{refl, ap, ◌∙◌}
use mathlib.Core.Bool.{false≢true}
use Rattle.std.proofs.lemmas.Result.{err_from_is_err_and}
use Rattle.carry.specs.Carried.{told}
use Rattle.carry.specs.Calls.{call_of}
use Rattle.carry.proofs.Reading.{record_out, record_end, record_short, record_call}
use Rattle.carry.proofs.reader.found_at.Goals as goal

pub returns-then-not-is_room : goal.returns-then-not-is_room
returns-then-not-is_room c = let p = c.args.place in record_out c.args.bytes.now p.byte p.bit (λ h. false≢true (c.if-not-is_room.ensures.1 h))

pub returns-in_err-size : goal.returns-in_err-size
returns-in_err-size c =
    let p = c.args.place in
    let e = err_from_is_err_and c.from_residual.result c.from_residual.ensures.1 in
    rw (e.1, e.2) (record_short c.args.bytes.now p.byte p.bit (c.if-not-is_room.ensures.0 refl) (rw c.from_place-rest.ensures at c.in_err-size.ensures))

pub returns-in_default : goal.returns-in_default
returns-in_default c =
    let p = c.args.place in
    record_end c.args.bytes.now p.byte p.bit (c.if-not-is_room.ensures.0 refl) (rw (c.in_default.is, c.from_place-rest.ensures) at c.in_ok-size.ensures)

pub returns : goal.returns
returns c =
    let p = c.args.place in
    let next = rw (c.in-Some.is, c.from_place-rest.ensures) at c.in_ok-size.ensures in
    record_call c.args.bytes.now p.byte p.bit (c.if-not-is_room.ensures.0 refl) c.behind.result c.told.result next c.behind.ensures.0 c.behind.ensures.1
    (c.told.ensures ∙ ap (λ bits. call_of (told bits)) c.from_place-rest.ensures)
