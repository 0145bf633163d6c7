use Prim.Native.Nat.{◌+◌, ◌*◌, ◌≤◌}
use native.Mathlib.Omega.{arith}
use mathlib.Core.Path.{refl, sym, ap, ◌∙◌}
use lib.ListN.{length}
use borrow.Author.Rules.{rules}
use Rattle.bits.specs.Bits.{laid}
use Rattle.bits.proofs.Laid.{all_bytes}
use Rattle.carry.specs.Carried.{packed, records}
use Rattle.carry.specs.Calls.{carried}
use Rattle.carry.specs.Places.{bits_to}
use Rattle.carry.proofs.Lists.{begun_all}
use Rattle.carry.proofs.Writing.{own_done, records_none, none_laid, place_next, room_next, rest_length, back_laid, records_laid}
use Rattle.carry.proofs.writer.put_calls.Goals as goal

pub loop-i-init : goal.loop-i-init
loop-i-init c =
    let a = c.args in
    let bytes = all_bytes a.out.now (λ k. (c.slice_known-1.given k).fits) in
    record { low = search rules; bytes = bytes; behind = sym (ap length (records_none a.calls.now)); laid = none_laid a.calls.now a.out.now bytes }

pub slice_bounds-put_call-count : goal.slice_bounds-put_call-count
slice_bounds-put_call-count c =
    let l = c.loop-i in
    let r = room_next c.args.calls.now l.i _ c.call_at-call.ensures l.invariant.behind (length c.args.out.now) c.loop-i-test.true c.requires.1 in
    omega arith

pub slice_bounds-put_call-start : goal.slice_bounds-put_call-start
slice_bounds-put_call-start c =
    let l = c.loop-i in
    let r = room_next c.args.calls.now l.i _ c.call_at-call.ensures l.invariant.behind (length c.args.out.now) c.loop-i-test.true c.requires.1 in
    omega arith

pub put_call-requires : goal.put_call-requires
put_call-requires c =
    let l = c.loop-i in
    let at = c.call_at-call.ensures in
    let h = c.loop-i-test.true in
    let r = room_next c.args.calls.now l.i _ at l.invariant.behind (length c.args.out.now) h c.requires.1 in
    let rest = rest_length l.out l.place.byte in
    let e = c.from.ensures in
    (own_done c.args.calls.now l.i _ at h c.requires.0, omega (arith, l.invariant.low), omega (arith, l.auto.out))

pub bits_of-requires : goal.bits_of-requires
bits_of-requires c =
    let l = c.loop-i in
    own_done c.args.calls.now l.i _ c.call_at-call.ensures c.loop-i-test.true c.requires.0

pub behind-place-requires : goal.behind-place-requires
behind-place-requires c =
    let l = c.loop-i in
    let r = room_next c.args.calls.now l.i _ c.call_at-call.ensures l.invariant.behind (length c.args.out.now) c.loop-i-test.true c.requires.1 in
    (c.bits_of.ensures.2, omega (arith, c.bits_of.ensures.0))

pub loop-i-preserved : goal.loop-i-preserved
loop-i-preserved c =
    let l = c.loop-i in
    let at = c.call_at-call.ensures in
    let ws = c.args.calls.now in
    let out₀ = c.args.out.now in
    let r = room_next ws l.i _ at l.invariant.behind (length out₀) c.loop-i-test.true c.requires.1 in
    let within : l.place.byte ≤ length l.out = omega (arith, l.auto.out, r) in
    let back = back_laid l.out _ l.place.byte refl _ _ _ within l.invariant.bytes c.put_call.ensures in
    let here = ap (λ n. laid l.out (l.place.byte * 8 + n) (packed (carried c.call_at-call.result))) c.from.ensures in
    record {
      low = c.behind-place.ensures.1;
      bytes = all_bytes _ (λ k. (c.slice_known-in-loop-i-1.given k).fits);
      behind = place_next ws l.i _ at l.invariant.behind c.behind-place.ensures.0 c.bits_of.ensures.0;
      laid = back ∙ here ∙ records_laid ws l.i _ at out₀ l.out (bits_to l.place) l.invariant.laid l.invariant.behind;
    }

pub returns : goal.returns
returns c =
    let l = c.loop-i in
    let whole = begun_all c.args.calls.now l.i (omega (arith, l.auto.i-end, c.loop-i-test.false)) in
    l.invariant.laid ∙ ap (λ cs. laid c.args.out.now 0 (records cs)) whole
