use Rattle.std.proofs.Common.{length}
use Rattle.quic_c_params.proofs.faults.+first_large.Given as goal

abbrev pub decreases-first_large : goal.decreases-first_large
decreases-first_large l = length l.integers.now
