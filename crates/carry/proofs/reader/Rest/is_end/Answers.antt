-- `carry::reader::Rest::is_end` meets its contract: eight bits more are no end; fewer are it if they spell 0.
use Prim.Native.Nat.{ℕ}
use mathlib.Core.Path.{sym, ap, ◌∙◌}
use mathlib.Core.Bool.{not}
use lib.Dec.{eqb}
use Rattle.carry.proofs.Reading.{end_long, end_short}
use Rattle.carry.proofs.reader.Rest.is_end.Goals as goal

pub returns-then-not-is_room : goal.returns-then-not-is_room
returns-then-not-is_room c =
    let at = c.args.self in
    let short = sym c.is_room.ensures ∙ c.if-not-is_room.true in
    ap (λ (n : ℕ). eqb n 0) c.number_at.ensures ∙ end_short at.bytes.now at.bit short

pub returns-else-not-is_room : goal.returns-else-not-is_room
returns-else-not-is_room c =
    let at = c.args.self in
    let long = c.if-not-is_room.false in
    ap not long ∙ sym (end_long at.bytes.now at.bit (sym c.is_room.ensures ∙ long))
