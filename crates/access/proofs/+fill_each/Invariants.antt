-- `access::fill_each` ends: the rest of the buffer is shorter.
use lib.ListN.{length}
use Rattle.access.proofs.+fill_each.Given as goal

abbrev pub decreases-fill_each : goal.decreases-fill_each
decreases-fill_each l = length l.out.now
