use Rattle.quic_c_write.proofs.StoredAcks.{CountedOn}
use Rattle.quic_c_write.proofs.ack_gaps.gaps_len.Given as goal

abbrev pub invariant-loop-gap : goal.invariant-loop-gap
invariant-loop-gap l = CountedOn l.low l.gaps l.gap-index l.len
