use Prim.Native.Nat.{◌<◌}
use native.Mathlib.Omega.{arith}
use lib.ListN.{length, length-take, length-drop, length-set}
use Rattle.access.specs.Pins.{pin_byte}
use Rattle.access.proofs.Laws.{none, some}
use Rattle.access.proofs.Pins.{along_end, along_last, along_more}
use Rattle.access.proofs.+fill_each.Goals as goal

pub returns-then-is_empty : goal.returns-then-is_empty
returns-then-is_empty t c =
    let a = c.args in
    along_end (pin_byte a.m.now a.pins.now) a.first a.out.now (none a.out.now _ c.is_empty.ensures c.if-is_empty.true)

pub returns-then-out-lt2 : goal.returns-then-out-lt2
returns-then-out-lt2 t c =
    let a = c.args in
    let g = c.pin_byte in
    let one : length a.out.now < 2 = rw (length-set a.out.now 0 g.result) at c.if-out-lt2.true in
    along_last (pin_byte a.m.now a.pins.now) a.first a.out.now g.result (some a.out.now _ c.is_empty.ensures c.if-is_empty.false) one g.ensures

pub fill_each-requires : goal.fill_each-requires
fill_each-requires t c = let h = some c.args.out.now _ c.is_empty.ensures c.if-is_empty.false in simp (length-take, length-drop, length-set) (omega arith)

pub returns : goal.returns
returns t c =
    let a = c.args in
    along_more (pin_byte a.m.now a.pins.now) a.first _ a.out.now _ _ (some a.out.now _ c.is_empty.ensures c.if-is_empty.false) c.pin_byte.ensures c.next_address.ensures c.fill_each.ensures
