-- `carry::reader::Rest::from_place` meets its contract: the bits of the bytes from one on are those from the place on.
use Rattle.carry.proofs.Reading.{at_here}
use Rattle.carry.proofs.reader.Rest.from_place.Goals as goal

pub returns : goal.returns
returns c = at_here c.args.bytes.now c.args.place c.from.ensures
