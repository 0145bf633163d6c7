-- `carry::player::play` meets its contract: the list is declined by the check, or its calls are played.
use mathlib.Core.Path.{sym}
use Rattle.carry.proofs.Reading.{check_list}
use Rattle.carry.proofs.Playing.{play_done, play_declined}
use Rattle.carry.proofs.player.play.Goals as goal

pub played-requires : goal.played-requires
played-requires c = check_list c.args.bytes.now (sym c.in-Ok.ensures)

pub returns-in-Ok : goal.returns-in-Ok
returns-in-Ok c = play_done c.args.bytes.now (sym c.in-Ok.ensures) c.played.ensures

pub returns-in-Err : goal.returns-in-Err
returns-in-Err c = let declined = play_declined c.args.bytes.now c.in-Err.refusal c.in-Err.ensures c.fresh.ensures in cc
