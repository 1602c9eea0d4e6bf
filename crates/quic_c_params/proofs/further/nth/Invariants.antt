use Rattle.quic_c_params.proofs.Others.{Passed}
use Rattle.quic_c_params.proofs.further.nth.Given as goal

abbrev pub invariant-loop : goal.invariant-loop
invariant-loop l = Passed l.list l.rest l.counter
