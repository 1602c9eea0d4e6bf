use Rattle.quic_c_write.proofs.StoredAcks.{StoredOn}
use Rattle.quic_c_write.proofs.ack_gaps.store_gaps.Given as goal

abbrev pub invariant-loop-gap : goal.invariant-loop-gap
invariant-loop-gap l = StoredOn l.gaps l.fn.at l.fn.dest l.gap-index l.at l.dest
