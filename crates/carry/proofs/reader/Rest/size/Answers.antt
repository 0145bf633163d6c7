-- `carry::reader::Rest::size` meets its contract: by the kind, with the count of a write.
use native.Mathlib.Omega.{arith}
use mathlib.Core.Path.{sym, ◌∙◌}
use borrow.Author.Rules.{rules}
use Rattle.carry.proofs.Reading.{look_size, write_size, read_size, reset_size}
use Rattle.carry.proofs.reader.Rest.size.Goals as goal

pub returns-in-Look : goal.returns-in-Look
returns-in-Look c = (look_size c.args.self.bytes.now c.args.self.bit (sym c.in-Look.ensures), search rules, search rules)

pub returns-in-Write : goal.returns-in-Write
returns-in-Write c =
    let e = c.from.ensures in
    let n = e ∙ c.count.ensures.0 in
    (write_size c.args.self.bytes.now c.args.self.bit c.from.result (sym c.in-Write.ensures) n, omega arith, omega (arith, c.count.ensures.1))

pub returns-in-Read : goal.returns-in-Read
returns-in-Read c = (read_size c.args.self.bytes.now c.args.self.bit (sym c.in-Read.ensures), search rules, search rules)

pub returns-in-Reset : goal.returns-in-Reset
returns-in-Reset c = (reset_size c.args.self.bytes.now c.args.self.bit (sym c.in-Reset.ensures), search rules, search rules)
