-- `carry::reader::Rest::told` meets its contract: by the kind, each number from its place in the record.
use mathlib.Core.Path.{sym, ap, ◌∙◌}
use Rattle.carry.specs.Calls.{code}
use Rattle.carry.proofs.Reading.{look_call_lem, write_call_lem, read_call_lem, reset_call_lem}
use Rattle.carry.proofs.reader.Rest.told.Goals as goal

pub returns-in-Look : goal.returns-in-Look
returns-in-Look c =
    look_call_lem c.args.self.bytes.now c.args.self.bit _ c.numbers_at.result (sym c.in-Look.ensures) (c.from-number.ensures ∙ ap code c.in-Look.is) c.numbers_at.ensures

pub returns-in-Write : goal.returns-in-Write
returns-in-Write c =
    let n = c.from.ensures in
    write_call_lem c.args.self.bytes.now c.args.self.bit _ c.number_at.result c.count-count.result c.numbers_at-in-Write.result (sym c.in-Write.ensures)
    (c.from-number.ensures ∙ ap code c.in-Write.is) c.number_at.ensures c.count-count.ensures.0 (rw n at c.numbers_at-in-Write.ensures)

pub returns-in-Read : goal.returns-in-Read
returns-in-Read c =
    read_call_lem c.args.self.bytes.now c.args.self.bit _ c.number_at-in-Read.result c.count.result (sym c.in-Read.ensures)
    (c.from-number.ensures ∙ ap code c.in-Read.is) c.number_at-in-Read.ensures c.count.ensures.0

pub returns-in-Reset : goal.returns-in-Reset
returns-in-Reset c = reset_call_lem c.args.self.bytes.now c.args.self.bit _ (sym c.in-Reset.ensures) (c.from-number.ensures ∙ ap code c.in-Reset.is)
