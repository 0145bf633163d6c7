-- `access::fetch` ends: the rest of the buffer is shorter.
use lib.ListN.{length}
use Rattle.access.proofs.+fetch.Given as goal

abbrev pub decreases-fetch : goal.decreases-fetch
decreases-fetch l = length l.out.now
