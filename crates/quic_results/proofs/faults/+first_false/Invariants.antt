use Rattle.std.proofs.Common.{length}
use Rattle.quic_results.proofs.faults.+first_false.Given as goal

abbrev pub decreases-first_false : goal.decreases-first_false
decreases-first_false l = length l.tests.now
