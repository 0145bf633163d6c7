-- `carry::reader::record_at` meets its contract: what is found, side by side.
use Rattle.carry.specs.Calls.{call_of, filled}
use Rattle.carry.specs.Reader.{no_call}
use Rattle.carry.proofs.reader.record_at.Goals as goal

pub returns-in-Ok-None : goal.returns-in-Ok-None
unfolding no_call call_of filled
returns-in-Ok-None c = rw c.in-Ok-None.field-0-is at c.in-Ok-None.ensures

pub returns-in-Err : goal.returns-in-Err
unfolding no_call call_of filled
returns-in-Err c = rw c.number.ensures c.in-Err.ensures
