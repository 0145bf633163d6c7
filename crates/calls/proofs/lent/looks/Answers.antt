-- `calls::lent::looks` meets its contract: a block is declined before its first look, or its looks are made.
use mathlib.Core.Path.{refl, sym}
use Rattle.calls.proofs.Blocks.{looks_declined, looks_done, block_sound, told_apart}
use Rattle.calls.proofs.lent.looks.Goals as goal

pub returns-in-Err : goal.returns-in-Err
returns-in-Err c = told_apart _ refl (looks_declined c.args.m.now _ c.in-Err.refusal c.in-Err.ensures)

pub look_by_look-requires : goal.look_by_look-requires
look_by_look-requires c = block_sound _ _ c.in_default.ensures

pub returns : goal.returns
returns c = rw (sym (looks_done c.args.m.now c.args.samples.now c.in_default.ensures)) c.look_by_look.ensures
