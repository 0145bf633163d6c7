-- `carry::call::put_call` meets its contract: the parts of the record are laid one behind the other.
use Prim.Native.Nat.{◌-◌}
use native.Mathlib.Omega.{arith}
use mathlib.Core.Path.{◌≡◌, sym, ap, ◌∙◌}
use lib.ListN.{length}
use lib.Seq.{length-take-le}
use borrow.Author.Rules.{rules}
use Rattle.bits.specs.Bits.{bits_of, laid}
use Rattle.carry.proofs.Records.{write_fits, read_fits, bits_look, bits_write, bits_read, bits_reset, look_laid, write_laid, read_laid, reset_laid}
use Rattle.carry.proofs.call.put_call.Goals as goal

pub put-requires : goal.put-requires
put-requires c =
    let n = bits_look c.args.call.now c.requires.0 (sym c.in-Look.ensures) in
    (search rules, search rules, search rules, omega (arith, c.requires.2))

pub put_all-requires : goal.put_all-requires
put_all-requires c =
    let long : length c.args.call.now.values ≡ 32 = search rules in
    let n = bits_look c.args.call.now c.requires.0 (sym c.in-Look.ensures) in
    let eight = length-take-le 8 c.args.call.now.values (omega arith) in
    (omega (arith, c.requires.1), omega arith, search rules, search rules, omega (arith, c.requires.2, c.put.auto.out))

pub put_access-requires : goal.put_access-requires
put_access-requires c =
    let k = sym c.in-Write.ensures in
    let n = bits_write c.args.call.now k in
    (c.requires.1, (write_fits c.args.call.now c.requires.0 k).0, omega (arith, c.requires.2))

pub put_all-requires-in-Write : goal.put_all-requires-in-Write
put_all-requires-in-Write c =
    let k = sym c.in-Write.ensures in
    let long : length c.args.call.now.values ≡ 32 = search rules in
    let f = write_fits c.args.call.now c.requires.0 k in
    let n = bits_write c.args.call.now k in
    let e = c.from-in-Write.ensures in
    let all = length-take-le (c.from-in-Write.result - 0) c.args.call.now.values (omega arith) in
    (omega (arith, c.requires.1), omega arith, search rules, search rules, omega (arith, c.requires.2, c.put_access.auto.out))

pub put_access-requires-in-Read : goal.put_access-requires-in-Read
put_access-requires-in-Read c =
    let k = sym c.in-Read.ensures in
    let n = bits_read c.args.call.now k in
    (c.requires.1, (read_fits c.args.call.now c.requires.0 k).0, omega (arith, c.requires.2))

pub put-requires-in-Reset : goal.put-requires-in-Reset
put-requires-in-Reset c =
    let n = bits_reset c.args.call.now (sym c.in-Reset.ensures) in
    (omega (arith, c.requires.1), search rules, search rules, omega (arith, c.requires.2))

pub returns-in-Look : goal.returns-in-Look
returns-in-Look c =
    let a = c.args in
    let k = c.put.ensures ∙ ap (λ n. laid a.out.now a.bit (bits_of 2 n)) c.from.ensures in
    look_laid a.out.now a.bit (omega (arith, c.requires.2)) a.call.now c.requires.0 (search rules) (sym c.in-Look.ensures) _ _ k c.put_all.ensures

pub returns-in-Write : goal.returns-in-Write
returns-in-Write c =
    let a = c.args in
    let e = c.from-in-Write.ensures in
    write_laid a.out.now a.bit (omega (arith, c.requires.2)) a.call.now c.requires.0 (search rules) (sym c.in-Write.ensures) (c.from-in-Write.result - 0) (omega arith) _ _
    c.put_access.ensures c.put_all-in-Write.ensures

pub returns-in-Read : goal.returns-in-Read
returns-in-Read c =
    let a = c.args in
    read_laid a.call.now a.out.now a.bit _ (sym c.in-Read.ensures) c.put_access-in-Read.ensures

pub returns-in-Reset : goal.returns-in-Reset
returns-in-Reset c =
    let a = c.args in
    let k = c.put-in-Reset.ensures ∙ ap (λ n. laid a.out.now a.bit (bits_of 2 n)) c.from-in-Reset.ensures in
    reset_laid a.call.now a.out.now a.bit _ (sym c.in-Reset.ensures) k

pub slice_bounds-put_all-end-in-Write : goal.slice_bounds-put_all-end-in-Write
slice_bounds-put_all-end-in-Write c =
    let long : length c.args.call.now.values ≡ 32 = search rules in
    let f = write_fits c.args.call.now c.requires.0 (sym c.in-Write.ensures) in
    let e = c.from-in-Write.ensures in
    omega arith
