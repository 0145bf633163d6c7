use Prim.Native.Nat.{◌<◌}
use native.Mathlib.Omega.{arith}
use lib.ListN.{length, length-take, length-drop, length-set}
use Rattle.access.proofs.Laws.{none, some, read_end, read_last, rest_length, read_more}
use Rattle.access.proofs.Pins.{next_most, told_no_pin}
use Rattle.access.proofs.+fill_from.Goals as goal

pub returns-then-is_empty : goal.returns-then-is_empty
returns-then-is_empty t c = let a = c.args in read_end a.m.now a.first a.out.now (none a.out.now _ c.is_empty.ensures c.if-is_empty.true)

pub read_byte-requires : goal.read_byte-requires
read_byte-requires t c =
    let h = some c.args.out.now _ c.is_empty.ensures c.if-is_empty.false in
    let low : c.args.first < 0x91 = omega (arith, c.requires) in
    told_no_pin c.register_at.result c.args.first c.register_at.ensures low

pub returns-then-out-lt2 : goal.returns-then-out-lt2
returns-then-out-lt2 t c =
    let a = c.args in
    let g = c.read_byte in
    let one : length a.out.now < 2 = rw (length-set a.out.now 0 g.result) at c.if-out-lt2.true in
    read_last a.m.now a.first a.out.now _ _ g.result (some a.out.now _ c.is_empty.ensures c.if-is_empty.false) one c.register_at.ensures g.ensures

pub fill_from-requires : goal.fill_from-requires
fill_from-requires t c =
    let h = some c.args.out.now _ c.is_empty.ensures c.if-is_empty.false in
    let next = next_most c.args.first in (
      simp (length-take, length-drop, length-set) (omega arith),
      omega (arith, c.requires, rest_length c.args.out.now c.read_byte.result h, c.next_address.ensures, next),
    )

pub returns : goal.returns
returns t c =
    let a = c.args in
    let g = c.read_byte in
    read_more a.m.now a.first a.out.now _ _ _ g.result _ _ (some a.out.now _ c.is_empty.ensures c.if-is_empty.false) c.register_at.ensures g.ensures c.next_address.ensures c.fill_from.ensures
