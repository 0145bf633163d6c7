use native.Mathlib.Omega.{arith}
use lib.ListN.{length-take, length-drop, length-set}
use Rattle.access.proofs.Laws.{none, some, taken_code, read_end, read_more, evtcode_at, evtcode_stays}
use Rattle.access.proofs.+fetch.Goals as goal

pub returns-then-is_empty : goal.returns-then-is_empty
returns-then-is_empty t c = let a = c.args in read_end a.m.now 0x10 a.out.now (none a.out.now _ c.is_empty.ensures c.if-is_empty.true)

pub fetch-requires : goal.fetch-requires
fetch-requires t c = let h = some c.args.out.now _ c.is_empty.ensures c.if-is_empty.false in simp (length-take, length-drop, length-set) (omega arith)

pub returns : goal.returns
returns t c =
    let a = c.args in
    let g = c.take_oldest in
    read_more a.m.now 0x10 a.out.now _ _ _ g.result _ _ (some a.out.now _ c.is_empty.ensures c.if-is_empty.false) evtcode_at (taken_code a.m.now _ _ g.ensures) evtcode_stays c.fetch.ensures
