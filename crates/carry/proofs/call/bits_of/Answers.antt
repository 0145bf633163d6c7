-- `carry::call::bits_of` meets its contract: the size is the kind's own, and of a write that is not declined at most 271.
use native.Mathlib.Omega.{arith}
use mathlib.Core.Path.{sym}
use borrow.Author.Rules.{rules}
use Rattle.carry.proofs.Records.{write_fits, bits_look, bits_write, bits_read, bits_reset}
use Rattle.carry.proofs.call.bits_of.Goals as goal

pub returns-in-Look : goal.returns-in-Look
returns-in-Look c = (bits_look c.args.call.now c.requires (sym c.in-Look.ensures), search rules, search rules)

pub returns-in-Write : goal.returns-in-Write
returns-in-Write c =
    let k = sym c.in-Write.ensures in
    let f = write_fits c.args.call.now c.requires k in
    let b = bits_write c.args.call.now k in
    (omega (arith, c.from.ensures), omega (arith, c.from.ensures), omega (arith, c.from.ensures))

pub returns-in-Read : goal.returns-in-Read
returns-in-Read c = (bits_read c.args.call.now (sym c.in-Read.ensures), search rules, search rules)

pub returns-in-Reset : goal.returns-in-Reset
returns-in-Reset c = (bits_reset c.args.call.now (sym c.in-Reset.ensures), search rules, search rules)
