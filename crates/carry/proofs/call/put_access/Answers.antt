-- `carry::call::put_access` meets its contract: what is laid behind the kind and behind the address is laid behind both.
use native.Mathlib.Omega.{arith}
use mathlib.Core.Path.{ap, ◌∙◌}
use Rattle.carry.specs.Calls.{code}
use Rattle.bits.specs.Bits.{bits_of, laid}
use Rattle.carry.proofs.Records.{access_laid}
use Rattle.carry.proofs.call.put_access.Goals as goal

pub returns : goal.returns
returns c =
    let a = c.args in
    let k = c.put.ensures ∙ ap (λ n. laid a.out.now a.bit (bits_of 2 n)) c.from.ensures in
    access_laid a.out.now a.bit (omega (arith, c.requires.2)) a.call.now (code a.kind) _ _ _ k c.put-2.ensures c.put-3.ensures
