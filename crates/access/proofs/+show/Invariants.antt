-- `access::show` ends: the rest of the buffer is shorter.
use lib.ListN.{length}
use Rattle.access.proofs.+show.Given as goal

abbrev pub decreases-show : goal.decreases-show
decreases-show l = length l.out.now
