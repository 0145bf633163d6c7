-- `carry::reader::Rest::next_size` meets its contract: the end is looked for first, and then the room for the record.
use native.Mathlib.Omega.{arith}
use mathlib.Core.Path.{refl, sym, ◌∙◌}
use borrow.Author.Tests.{leb-true, leb-false, not-true, not-false}
use Rattle.bits.proofs.Laid.{from_length}
use Rattle.carry.proofs.reader.Rest.next_size.Goals as goal

pub returns-then-not-is_room : goal.returns-then-not-is_room
returns-then-not-is_room c =
    let n = from_length c.args.self.bytes.now c.args.self.bit in
    let s = c.size-size.ensures.0 in
    let cut = leb-false _ _ (sym c.is_room.ensures ∙ not-true c.is_room.result c.if-not-is_room.true-raw) in
    (refl, sym c.is_end.ensures ∙ c.if-is_end.false, omega arith)

pub returns : goal.returns
returns c =
    let n = from_length c.args.self.bytes.now c.args.self.bit in
    let s = c.size-size.ensures.0 in
    let whole = leb-true _ _ (sym c.is_room.ensures ∙ not-false c.is_room.result c.if-not-is_room.false-raw) in
    record { more = sym c.is_end.ensures ∙ c.if-is_end.false; long = s; room = omega arith; least = c.size-size.ensures.1; most = c.size-size.ensures.2 }
