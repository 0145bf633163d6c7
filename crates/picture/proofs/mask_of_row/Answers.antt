use mathlib.Core.Path.{◌≡◌, ap, ◌∙◌}
use Prim.Native.Nat.{ℕ, ◌+◌, ◌-◌, ◌*◌, ◌≤◌}
use native.Mathlib.Omega.{arith}
use lib.ListN.{length, take, drop, length-take}
use Rattle.picture.specs.Masks.{mask_at}
use Rattle.picture.proofs.Rows.{digit_low, mask_none, mask_low, mask_next, mask_whole}
use Rattle.picture.proofs.mask_of_row.Goals as goal

pub loop-held-init : goal.loop-held-init
loop-held-init c =
    let a = c.args in
    let rest = drop (13 * a.row) a.table.now in
    let n : 13 * a.row + 13 - 13 * a.row ≡ 13 = omega arith in
    mask_none (take 13 rest) _ (rw (c.into_iter-held-iterator.ensures.into_iter_gives, c.rev-held-items.ensures.source) (c.iter.ensures.rest ∙ ap (λ (k : ℕ). take k rest) n))

pub overflow_mul-mask : goal.overflow_mul-mask
overflow_mul-mask c =
    let l = c.loop-held in
    let a = c.args in
    let keys = take 13 (drop (13 * a.row) a.table.now) in
    let few : length keys ≤ 13 = rw (length-take 13 (drop (13 * a.row) a.table.now)) (omega arith) in
    let low = mask_low keys l.held-iterator.iter.rest.now l.mask few l.invariant in
    record { fits = omega arith }

pub overflow_add-mask : goal.overflow_add-mask
overflow_add-mask c =
    let l = c.loop-held in
    let a = c.args in
    let keys = take 13 (drop (13 * a.row) a.table.now) in
    let few : length keys ≤ 13 = rw (length-take 13 (drop (13 * a.row) a.table.now)) (omega arith) in
    let low = mask_low keys l.held-iterator.iter.rest.now l.mask few l.invariant in
    let one = digit_low c.in-Some.held.now in
    let e = c.from.ensures in
    record { fits = omega arith }

pub loop-held-preserved : goal.loop-held-preserved
loop-held-preserved c =
    let l = c.loop-held in
    let a = c.args in
    let keys = take 13 (drop (13 * a.row) a.table.now) in
    rw c.from.ensures (mask_next keys l.held-iterator.iter.rest.now c.next.new.self.iter.rest.now c.in-Some.held.now l.mask c.in-Some.ensures.steps l.invariant)

pub returns : goal.returns
unfolding mask_at
returns c =
    let l = c.loop-held in
    let a = c.args in
    mask_whole (take 13 (drop (13 * a.row) a.table.now)) l.held-iterator.iter.rest.now l.mask c.in-None.ensures.steps.0 l.invariant
