use Rattle.quic_c_write.proofs.StoredAcks.{FitsOn}
use Rattle.quic_c_write.proofs.ack_gaps.fit.Given as goal

abbrev pub invariant-loop-gap : goal.invariant-loop-gap
invariant-loop-gap l = FitsOn l.fn.low l.gaps l.gap-index l.low
