-- `carry::reader::Rest::count` meets its contract: five bits spell a number below 32.
use Prim.Native.Nat.{suc, ◌+◌}
use native.Mathlib.Numerals.{add-one}
use native.Mathlib.Omega.{arith}
use mathlib.Core.Path.{ap, ◌∙◌}
use Rattle.bits.specs.Bits.{bits_from}
use Rattle.carry.proofs.Reading.{count_low}
use Rattle.carry.proofs.reader.Rest.count.Goals as goal

pub overflow_add-result : goal.overflow_add-result
overflow_add-result c =
    let at = c.args.self in
    omega (arith, count_low (bits_from at.bytes.now (at.bit + 10)) c.number_at.result c.number_at.ensures)

pub returns : goal.returns
returns c =
    let at = c.args.self in
    let l = count_low (bits_from at.bytes.now (at.bit + 10)) c.number_at.result c.number_at.ensures in
    (add-one c.number_at.result ∙ ap suc c.number_at.ensures, omega arith)
