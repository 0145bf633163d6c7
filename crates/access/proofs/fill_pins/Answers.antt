-- `access::fill_pins` meets its contract: what is shown of the pins with the newest samples is what a read of this very state gives, and it leaves the state as it is.
use lib.ListN.{length}
use Rattle.access.proofs.Pins.{pins_given}
use Rattle.access.proofs.fill_pins.Goals as goal

pub returns : goal.returns
returns c = pins_given c.args.m.now (length c.args.out.now) c.args.first _ c.requires (cc)
