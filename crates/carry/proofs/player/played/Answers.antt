use Rattle.carry.proofs.Reading.{boundary_front, boundary_next, boundary_less}
use Rattle.carry.proofs.Playing.{play_front, play_over, play_next, next_there, told_fits}
use Rattle.carry.proofs.player.played.Goals as goal

pub loop-rest-init : goal.loop-rest-init
loop-rest-init c = let bytes = c.args.bytes.now in (boundary_front bytes, play_front bytes c.fresh-m.result c.fresh-m.ensures)

pub returns-then-is_end : goal.returns-then-is_end
returns-then-is_end c =
    let l = c.loop-rest in
    play_over l.invariant.0 c.from_place-rest.ensures l.m c.is_end.ensures c.if-is_end.true l.invariant.1

pub step-requires : goal.step-requires
step-requires c = told_fits _ c.told.ensures

pub loop-rest-smaller : goal.loop-rest-smaller
loop-rest-smaller c =
    let l = c.loop-rest in
    let next = next_there l.invariant.0 c.from_place-rest.ensures c.requires c.is_end.ensures c.if-is_end.false c.size.ensures in
    boundary_less l.invariant.0 c.behind-place.result next c.behind-place.ensures.0

pub loop-rest-preserved : goal.loop-rest-preserved
loop-rest-preserved c =
    let l = c.loop-rest in
    let next = next_there l.invariant.0 c.from_place-rest.ensures c.requires c.is_end.ensures c.if-is_end.false c.size.ensures in
    let there = c.behind-place.ensures in (
      boundary_next l.invariant.0 c.behind-place.result next there.0 there.1,
      play_next l.invariant.0 c.from_place-rest.ensures c.behind-place.result l.m next there.0 c.told.ensures c.step.ensures l.invariant.1,
    )
