-- `bits::joined` meets its contract: a byte's first bits, a number and zeros are joined by shifts, and 32 bits hold them.
use mathlib.Core.List.{◌++◌}
use lib.ListN.{take}
use Rattle.bits.specs.Bits.{bits_of}
use Rattle.bits.proofs.Windows.{kept_fits, joined_number, number_most}
use borrow.Author.Rules.{rules}
use Rattle.bits.proofs.joined.Goals as goal

pub overflow_add-result : goal.overflow_add-result
overflow_add-result c =
    record { fits = rw (c.from.ensures, c.from-2.ensures) (kept_fits c.args.byte c.args.bit c.args.x c.args.width (search rules) (search rules) (search rules)) }

pub returns : goal.returns
returns c =
    let e = joined_number c.args.byte c.args.bit c.args.x c.args.width (search rules) (search rules) (search rules) in
    rw (c.from.ensures, c.from-2.ensures)
    (e, rw e (number_most (take c.args.bit (bits_of 8 c.args.byte) ++ bits_of c.args.width c.args.x)))
