-- OUR WIRE MEETS THE DEMAND on what stands between a bus and our calls. The demand is in specs/Bus.antt, the part in specs/Ours.antt.
--
--    ours_on_the_bus    demand 3 by what the host got, and that transfers are accesses
-- Assumes nothing.
use Rattle.bus.specs.Bus.{BusDemand}
use Rattle.bus.specs.Ours.{ours}
use Rattle.bus.proofs.Got.{host_ledger}
use Rattle.bus.proofs.Waking.{transfer_wakes, takes_nothing, gives_nothing, drops_nothing}
use Rattle.bus.proofs.Reading.{whole_bytes, whole_read}
use Rattle.bus.proofs.Writing.{whole_write}

pub ours_on_the_bus : BusDemand ours
ours_on_the_bus =
    record {
      ledger = host_ledger;
      bytes = whole_bytes;
      one_read = whole_read;
      one_write = whole_write;
      wakes = transfer_wakes;
      takes_none = takes_nothing;
      gives_none = gives_nothing;
      drops_none = drops_nothing;
    }
