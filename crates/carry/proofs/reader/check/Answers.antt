use Rattle.std.proofs.lemmas.Result.{err_from_is_err_and}
use Rattle.carry.proofs.Reading.{boundary_front, boundary_next, boundary_less, check_end, check_short}
use Rattle.carry.proofs.reader.check.Goals as goal

pub loop-size-init : goal.loop-size-init
loop-size-init c = boundary_front c.args.bytes.now

pub returns-in_err-size : goal.returns-in_err-size
returns-in_err-size c =
    let l = c.loop-size in
    let p = err_from_is_err_and c.from_residual.result c.from_residual.ensures.1 in
    rw (p.1, p.2) (check_short l.invariant (rw c.from_place.ensures at c.in_err-size.ensures))

pub loop-size-smaller : goal.loop-size-smaller
loop-size-smaller c =
    let l = c.loop-size in
    let next = rw (c.in-Some.is, c.from_place.ensures) at c.in_ok-size.ensures in
    boundary_less l.invariant c.behind-place.result next c.behind-place.ensures.0

pub loop-size-preserved : goal.loop-size-preserved
loop-size-preserved c =
    let l = c.loop-size in
    let next = rw (c.in-Some.is, c.from_place.ensures) at c.in_ok-size.ensures in
    boundary_next l.invariant c.behind-place.result next c.behind-place.ensures.0 c.behind-place.ensures.1

pub returns : goal.returns
returns c =
    let l = c.loop-size in
    check_end l.invariant (rw (c.in_default.is, c.from_place.ensures) at c.in_ok-size.ensures)
