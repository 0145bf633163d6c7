-- `access::fill_from` ends: the rest of the buffer is shorter.
use lib.ListN.{length}
use Rattle.access.proofs.+fill_from.Given as goal

abbrev pub decreases-fill_from : goal.decreases-fill_from
decreases-fill_from l = length l.out.now
