use Rattle.std.proofs.Common.{length}
use Rattle.quic_c_params.proofs.Others.{Counted}
use Rattle.quic_c_params.proofs.further.count_further.Given as goal

abbrev pub invariant-loop-rest : goal.invariant-loop-rest
invariant-loop-rest l = Counted l.list l.rest l.count

abbrev pub decreases-loop-rest : goal.decreases-loop-rest
decreases-loop-rest l = length l.rest
