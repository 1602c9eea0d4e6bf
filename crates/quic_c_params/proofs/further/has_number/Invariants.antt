use Rattle.std.proofs.Common.{length}
use Rattle.quic_c_params.proofs.Others.{SoFar}
use Rattle.quic_c_params.proofs.further.has_number.Given as goal

abbrev pub invariant-loop-other : goal.invariant-loop-other
invariant-loop-other l = SoFar l.number l.list l.rest

abbrev pub decreases-loop-other : goal.decreases-loop-other
decreases-loop-other l = length l.rest
